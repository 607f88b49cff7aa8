-- The text that is written for a system can be read again. The result is the same system, with its transitions in the
-- order in which they are written.
use Rattle.std.proofs.Common.{◌≡◌, ℕ, rules, ◌<◌, ◌≤◌, ◌^◌, List, [], ◌∷◌, ◌++◌, length, map, codes, decimal, All, refl}
use Rattle.std.proofs.Common.{ap, ◌∙◌, subst, inl, arith, append_assoc, length-append, flat_map, append-nil}
use Rattle.std.proofs.lemmas.{Grind.common_steps, Fmt.length-decimal-le}
use Rattle.std.proofs.lemmas.List.Elements.{All-nil, All-head, All-tail, All-from_recursion, recursion_from_All}
use Rattle.std.proofs.lemmas.List.Sorted.{All-permutation, IsPermutation-sym, length_permutation}
use Rattle.std.specs.List.{AllZip, AllByRecursion}
use Rattle.theory.specs.System.{System, Transition, IsSystem, IsAmong, IsLabel}
use Rattle.autfmt.specs.Bounds.{Bounds, IsWithinFile}
use Rattle.autfmt.specs.Grammar.{Blanks, Spaced, Label, Header}
use Rattle.autfmt.specs.Texts.{lines_of, Lines, IsOneLine, IsShort, SpellsAmong, Reads}
use Rattle.autfmt.specs.Written.{written_label, header_of, written_transition, listed, IsInWrittenOrder}
use Rattle.autfmt.proofs.{Tokens.IsBlank, Labels.IsLabel-spelled, Cutting.lines_of-feed, Lists.AllZip-firsts}
use Rattle.autfmt.proofs.Lines.{Header-one, TransitionLine-one}

abbrev header_line : System → List ℕ
header_line A =
    codes "des (" ++ decimal A.first ++ codes ", " ++ decimal (length A.transitions) ++ codes ", "
    ++ decimal A.states ++ codes ")"

length-spelling : (spelling a : List ℕ) → Label spelling a → length spelling ≤ 8002
length-spelling spelling a label =
    let is = IsLabel-spelled spelling a label in grind (arith, common_steps, codes, length-append, is.short)

-- The bytes that are written for a label are one of the forms that the grammar allows for this label.
spells_label : (a : List ℕ) → IsLabel a → Label (written_label a) a
spells_label a is = search rules

-- `spelled_line s b spelling d t` is the line of a transition from the state s to the state t. The bytes `spelling` are
-- the written form of the label. The bytes b and d are the blanks after the two commas of the line.
abbrev pub spelled_line : ℕ → List ℕ → List ℕ → List ℕ → ℕ → List ℕ
spelled_line s b spelling d t =
    codes "(" ++ decimal s ++ codes "," ++ b ++ spelling ++ codes "," ++ d ++ decimal t ++ codes ")"

pub spelled_line-short :
    (s t : ℕ) (b d end spelling a : List ℕ) → s < 10 ^ 10 → t < 10 ^ 10 → length b ≤ 1 → length d ≤ 1 → length end ≤ 1 →
    Label spelling a → IsShort (spelled_line s b spelling d t ++ end)
spelled_line-short s t b d end spelling a source target before between behind is =
    let first = length-decimal-le 10 s (omega arith) source (omega arith) in
    let second = length-decimal-le 10 t (omega arith) target (omega arith) in
    let third = length-spelling spelling a is in
    simp length-append (omega arith)

pub none : Blanks []
none = All-nil IsBlank

pub a_space : Blanks (32 ∷ [])
a_space = All-from_recursion IsBlank (32 ∷ []) (inl refl, tt)

-- `joined tokens e` are the bytes of a line that consists of tokens with blanks before them and of the blanks e after
-- them. Each element of the list `tokens` contains the blanks before a token and this token.
abbrev joined : List (List ℕ × List ℕ) → List ℕ → List ℕ
joined [] e = e
joined (x ∷ tokens) e = x.0 ++ x.1 ++ joined tokens e

Spaced-joined : (tokens : List (List ℕ × List ℕ)) (e : List ℕ) → AllByRecursion (λ x. Blanks x.0) tokens → Blanks e →
    Spaced (map (λ x. x.1) tokens) (joined tokens e)
Spaced-joined [] e blanks behind = behind
Spaced-joined (x ∷ tokens) e blanks behind =
    (x.0, joined tokens e, blanks.0, refl, Spaced-joined tokens e blanks.1 behind)

pub spaced_line : (s b l d t e : List ℕ) → Blanks b → Blanks d → Blanks e
    → Spaced (codes "(" ∷ s ∷ codes "," ∷ l ∷ codes "," ∷ t ∷ codes ")" ∷ [])
    ((codes "(" ++ s ++ codes "," ++ b ++ l ++ codes "," ++ d ++ t ++ codes ")") ++ e)
spaced_line s b l d t e before between behind =
    let front : List (List ℕ × List ℕ) = ([], codes "(") ∷ ([], s) ∷ ([], codes ",") ∷ (b, l) ∷ [] in
    let tokens = front ++ ([], codes ",") ∷ (d, t) ∷ ([], codes ")") ∷ [] in
    let spaced = Spaced-joined tokens e (none, (none, (none, (before, (none, (between, (none, tt))))))) behind in
    subst (Spaced (codes "(" ∷ s ∷ codes "," ∷ l ∷ codes "," ∷ t ∷ codes ")" ∷ [])) (simp append_assoc) spaced

spaced_header : (f m n : List ℕ) → Spaced (codes "des" ∷ codes "(" ∷ f ∷ codes "," ∷ m ∷ codes "," ∷ n ∷ codes ")" ∷ [])
    (codes "des (" ++ f ++ codes ", " ++ m ++ codes ", " ++ n ++ codes ")")
spaced_header f m n =
    let front : List (List ℕ × List ℕ) = ([], codes "des") ∷ (codes " ", codes "(") ∷ ([], f) ∷ ([], codes ",") ∷ [] in
    let tokens = front ++ (codes " ", m) ∷ ([], codes ",") ∷ (codes " ", n) ∷ ([], codes ")") ∷ [] in
    subst (Spaced (codes "des" ∷ codes "(" ∷ f ∷ codes "," ∷ m ∷ codes "," ∷ n ∷ codes ")" ∷ [])) (simp append_assoc)
    (Spaced-joined tokens [] (none, (a_space, (none, (none, (a_space, (none, (a_space, (none, tt)))))))) none)

-- `transition_line e` is the line that is written for the transition e, without its line feed.
abbrev transition_line : Transition → List ℕ
transition_line e = spelled_line e.source (codes " ") (written_label e.label) (codes " ") e.target

header_line-short : (A : System) → A.first < 10 ^ 10 → length A.transitions < 10 ^ 10 → A.states < 10 ^ 10 →
    IsShort (header_line A)
header_line-short A first transitions states =
    let f = length-decimal-le 10 A.first (omega arith) first (omega arith) in
    let t = length-decimal-le 10 (length A.transitions) (omega arith) transitions (omega arith) in
    let s = length-decimal-le 10 A.states (omega arith) states (omega arith) in
    simp length-append (omega arith)

spells_transition : (n : ℕ) → n < 10 ^ 10 → (e : Transition) → IsAmong n e → SpellsAmong n (transition_line e) e
spells_transition n small e among =
    let blank = codes " " in
    let spaced =
    spaced_line (decimal e.source) blank (written_label e.label) blank (decimal e.target) [] a_space a_space none in
    let source : e.source < 10 ^ 10 = omega (arith, among.source) in
    let target : e.target < 10 ^ 10 = omega (arith, among.target) in
    let whole = rw (append-nil (transition_line e)) at spaced in
    let spelling = spells_label e.label among.label in
    let short = subst IsShort (append-nil (transition_line e))
    (spelled_line-short e.source e.target blank blank [] (written_label e.label) e.label source target (omega arith)
    (omega arith) (omega arith) spelling) in
    ((short, (_, _, _, (source, refl), spelling, (target, refl), whole)), among)

spells_transitions : (n : ℕ) → n < 10 ^ 10 → (es : List Transition) → AllByRecursion (IsAmong n) es →
    AllZip (SpellsAmong n) (map transition_line es) es
spells_transitions n small [] among = tt
spells_transitions n small (e ∷ es) among =
    (spells_transition n small e among.0, spells_transitions n small es among.1)

-- The bytes that are written for a transition are the line of the transition and a line feed.
line_and_feed : (e : Transition) → written_transition e ≡ transition_line e ++ 10 ∷ []
line_and_feed e = search (rules, codes, decimal, e.source, e.label, append_assoc, e.target)

header_and_feed : (A : System) → header_of A.first (length A.transitions) A.states ≡ header_line A ++ 10 ∷ []
header_and_feed A = simp append_assoc

-- If a line with its line feed (`written`) is put in front of a text, then this line is put in front of the lines of
-- the text.
lines_of-written_line : (written line others : List ℕ) → written ≡ line ++ 10 ∷ [] → IsOneLine line →
    lines_of (written ++ others) ≡ line ∷ lines_of others
lines_of-written_line written line others e one =
    ap (λ (t : List ℕ). lines_of (t ++ others)) e ∙ ap lines_of (append_assoc line (10 ∷ []) others)
    ∙ lines_of-feed line others one

-- The lines of the bytes that are written for a list of transitions are the lines of the transitions.
lines_of-written : (es : List Transition) → All IsOneLine (map transition_line es) →
    lines_of (flat_map written_transition es) ≡ map transition_line es
lines_of-written [] one = refl
lines_of-written (e ∷ es) one =
    let (line, others) : List ℕ × List (List ℕ) = (transition_line e, map transition_line es) in
    lines_of-written_line (written_transition e) line _ (line_and_feed e) (All-head IsOneLine line others one)
    ∙ ap (λ (ls : List (List ℕ)). line ∷ ls) (lines_of-written es (All-tail IsOneLine line others one))

-- The lines of the text that is written for a system are the header and one line for each transition.
listed_whole : (B : System) → Header (header_line B) B.first (length B.transitions) B.states →
    AllZip (SpellsAmong B.states) (map transition_line B.transitions) B.transitions →
    Lines (listed B) (header_line B ∷ map transition_line B.transitions)
listed_whole B header spelled =
    let lines = AllZip-firsts (SpellsAmong B.states) IsOneLine
    (λ line e s. TransitionLine-one line e.source e.label e.target s.0.1) _ B.transitions spelled in
    lines_of-written_line (header_of B.first (length B.transitions) B.states) (header_line B) _ (header_and_feed B)
    (Header-one _ _ _ _ header) ∙ ap (λ (ls : List (List ℕ)). header_line B ∷ ls) (lines_of-written B.transitions lines)

-- Suppose that a well-formed system is within the limits `bounds`, and that `bounds` does not exceed the limits for
-- files. Then the text that is written for the system denotes the system, with its transitions in the order in which
-- they are written.
pub text_is_read_again : (bounds : Bounds) (A B : System) → IsWithinFile bounds → IsSystem A → A.states ≤ bounds.states
    → length A.transitions ≤ bounds.transitions → IsInWrittenOrder A B → Reads bounds (listed B) B
text_is_read_again bounds A B within system states transitions order =
    let (start, count) : (B.first ≡ A.first) × (B.states ≡ A.states) = (order.first, order.states) in
    let as_many = length_permutation B.transitions A.transitions order.same in
    let among : All (IsAmong B.states) B.transitions = rw count (All-permutation (IsAmong A.states) A.transitions
    B.transitions (IsPermutation-sym _ _ order.same) system.transitions) in
    let first : B.first < B.states = omega (arith, system.first) in
    let (few_states, few) : (B.states < 10 ^ 10) × (length B.transitions < 10 ^ 10) = (omega arith, omega arith) in
    let header : Header (header_line B) B.first (length B.transitions) B.states =
    (_, _, _, (omega arith, refl), (few, refl), (few_states, refl), spaced_header _ _ _) in
    let spelled = spells_transitions B.states few_states B.transitions
    (recursion_from_All (IsAmong B.states) B.transitions among) in
    record {
      header = header_line B;
      lines = map transition_line B.transitions;
      whole = listed_whole B header spelled;
      good = record {
        short = header_line-short B (omega arith) few few_states;
        header = header;
        first = first;
        states = omega arith;
        transitions = omega arith;
      };
      spelled = spelled;
    }
