-- The lemmas in this file are about reading a line. A line can be read if and only if it has a form that the grammar
-- allows. Each line can be read in at most one way as a header, in at most one way as a transition, and in at most one
-- way as a line of a hide list, which is a file with the labels to hide.
use Rattle.std.proofs.Common.{rules, ◌≡◌, ℕ, true, false, cond, List, [], ◌∷◌, ◌++◌, Option, Some, None, refl, ap, ◌∙◌}
use Rattle.std.proofs.Common.{arith, ◌⊎◌, sym, inl, inr, codes, ◌==◌, IfSome, IfNone, eqb-true}
use Rattle.std.specs.Char.{is_ascii_digit}
use Rattle.std.proofs.lemmas.Option.{cond_some, same_Some, none-some}
use Rattle.theory.specs.System.{IsLabel}
use Rattle.autfmt.specs.Grammar.{Spaced, IsDecimal, Label, Header, TransitionLine, HideLine}
use Rattle.autfmt.specs.Texts.{IsOneLine}
use Rattle.autfmt.specs.Reading.{is_blank, is_word, are_blanks, after_blanks, past, past_des, number_at, number_then}
use Rattle.autfmt.specs.Reading.{label_at, header_at, ending_at, transition_at, hide_line_at, IsSeenAs}
use Rattle.autfmt.proofs.Tokens.{at_token, Spaced-from, Stops, Stops-blanks, Stops-mark, are_blanks-from}
use Rattle.autfmt.proofs.Tokens.{Blanks-from_test, Without, Without-literal, Without-blanks, Without-spaced}
use Rattle.autfmt.proofs.Tokens.{blanks_no_digits, IsToken-number, number_at-takes, number_at-again, Without-number}
use Rattle.autfmt.proofs.Tokens.{bind_some}
use Rattle.autfmt.proofs.Labels.{blanks_no_words, label_at-takes, label_at-again, IsToken-label, IsLabel-spelled}
use Rattle.autfmt.proofs.Labels.{Without-label}

-- ---- Single bytes

pub past-takes : (c : ℕ) (bytes rest : List ℕ) → past c bytes ≡ Some rest → bytes ≡ c ∷ rest
unfolding past
past-takes c [] rest e = absurd cc
past-takes c (b ∷ bs) rest e = let h = cond_some (b == c) bs rest e in rw (eqb-true b c h.0, h.1) refl

past-again : (c : ℕ) (rest : List ℕ) → (c == c) ≡ true → past c (c ∷ rest) ≡ Some rest
unfolding past
past-again c rest e = rw e refl

des-takes : (bytes rest : List ℕ) → past_des bytes ≡ Some rest → bytes ≡ codes "des" ++ rest
unfolding past_des
des-takes bytes rest e =
    let (a, p, e0) = bind_some (past 100 bytes) _ rest e in
    let (b, q, e1) = bind_some (past 101 a) _ rest e0 in
    rw (past-takes 100 bytes a p, past-takes 101 a b q, past-takes 115 b rest e1) refl

des-again : (rest : List ℕ) → past_des (codes "des" ++ rest) ≡ Some rest
unfolding past_des
des-again rest =
    rw (past-again 100 (101 ∷ 115 ∷ rest) refl, past-again 101 (115 ∷ rest) refl, past-again 115 rest refl) refl

-- Suppose that the byte c is read from a line after any number of blanks, and that the bytes after c consist of tokens.
-- Then the tokens of the line are c and these tokens.
mark-takes : (c : ℕ) (tokens : List (List ℕ)) (line rest : List ℕ) → past c (after_blanks line) ≡ Some rest →
    Spaced tokens rest → Spaced ((c ∷ []) ∷ tokens) line
mark-takes c tokens line rest e s = Spaced-from (c ∷ []) tokens line rest (past-takes c (after_blanks line) rest e) s

mark-again : (c : ℕ) (tokens : List (List ℕ)) (line : List ℕ) → is_blank c ≡ false → (c == c) ≡ true →
    (s : Spaced ((c ∷ []) ∷ tokens) line) → past c (after_blanks line) ≡ Some s.1
mark-again c tokens line h e s = ap (past c) (at_token (c ∷ []) tokens line h s) ∙ past-again c s.1 e

-- ---- Reading a number and the byte after it

number_then-takes : (c : ℕ) (tokens : List (List ℕ)) (line : List ℕ) (x : ℕ × List ℕ) → number_then c line ≡ Some x
    → Spaced tokens x.1 → (digits : List ℕ) × IsDecimal digits x.0 × Spaced (digits ∷ (c ∷ []) ∷ tokens) line
unfolding number_then
number_then-takes c tokens line x e s =
    let (n, p, e0) = bind_some (number_at (after_blanks line)) _ x e in
    let (rest, q, e1) = bind_some (past c (after_blanks n.1)) _ x e0 in
    let (digits, number, is) = number_at-takes (after_blanks line) n.0 n.1 p in
    let pair = same_Some (n.0, rest) x e1 in
    let behind = mark-takes c tokens n.1 rest q (rw (← pair) at s) in
    rw (← pair) (digits, number, Spaced-from digits ((c ∷ []) ∷ tokens) line n.1 is behind)

number_then-again : (c : ℕ) (tokens : List (List ℕ)) (line digits : List ℕ) (n : ℕ) → is_blank c ≡ false
    → (c == c) ≡ true → is_ascii_digit c ≡ false → IsDecimal digits n
    → (s : Spaced (digits ∷ (c ∷ []) ∷ tokens) line) → number_then c line ≡ Some (n, s.4.1)
unfolding number_then
number_then-again c tokens line digits n h e d number s =
    let at : number_at (after_blanks line) ≡ Some (n, s.1) =
    ap number_at (at_token digits ((c ∷ []) ∷ tokens) line (IsToken-number digits n number) s)
    ∙ number_at-again digits n s.1 number (Stops-mark is_ascii_digit c tokens s.1 blanks_no_digits d s.4) in
    rw (at, mark-again c tokens s.1 h e s.4) refl

-- ---- A label

label-takes : (tokens : List (List ℕ)) (line : List ℕ) (x : List ℕ × List ℕ) → label_at (after_blanks line) ≡ Some x
    → Spaced tokens x.1 → (spelling : List ℕ) × Label spelling x.0 × Spaced (spelling ∷ tokens) line
label-takes tokens line x e s = search (rules, label_at-takes, Spaced-from)

label-again : (tokens : List (List ℕ)) (line spelling a : List ℕ) → Label spelling a
    → (s : Spaced (spelling ∷ tokens) line) → Stops is_word s.1 → Without 34 s.1
    → label_at (after_blanks line) ≡ Some (a, s.1)
label-again tokens line spelling a label s stops none =
    ap label_at (at_token spelling tokens line (IsToken-label spelling a label) s)
    ∙ label_at-again spelling a s.1 label stops none

-- ---- A header

abbrev with_end : {A : Type 0} → List ℕ → A → Option A
with_end rest x = cond (are_blanks rest) (Some x) None

with_end-takes : {A : Type 0} (rest : List ℕ) (x y : A) → with_end rest x ≡ Some y → Spaced [] rest × (x ≡ y)
with_end-takes rest x y e = let h = cond_some (are_blanks rest) x y e in (Blanks-from_test rest h.0, h.1)

with_end-again : {A : Type 0} (rest : List ℕ) (x : A) → Spaced [] rest → with_end rest x ≡ Some x
with_end-again rest x s = rw (are_blanks-from rest s) refl

pub header_at-takes : (line : List ℕ) (x : ℕ × ℕ × ℕ) → header_at line ≡ Some x → Header line x.0 x.1 x.2
unfolding header_at
header_at-takes line x e =
    let (r0, p0, e0) = bind_some (past_des (after_blanks line)) _ x e in
    let (r1, p1, e1) = bind_some (past 40 (after_blanks r0)) _ x e0 in
    let (f, p2, e2) = bind_some (number_then 44 r1) _ x e1 in
    let (m, p3, e3) = bind_some (number_then 44 f.1) _ x e2 in
    let (n, p4, e4) = bind_some (number_then 41 m.1) _ x e3 in
    let (end, is) = with_end-takes n.1 (f.0, m.0, n.0) x e4 in
    let states = number_then-takes 41 [] m.1 n p4 end in
    let transitions = number_then-takes 44 (states.0 ∷ codes ")" ∷ []) f.1 m p3 states.2 in
    let first = number_then-takes 44 (transitions.0 ∷ codes "," ∷ states.0 ∷ codes ")" ∷ []) r1 f p2 transitions.2 in
    let tokens = first.0 ∷ codes "," ∷ transitions.0 ∷ codes "," ∷ states.0 ∷ codes ")" ∷ [] in
    let bracket = mark-takes 40 tokens r0 r1 p1 first.2 in
    let whole = Spaced-from (codes "des") (codes "(" ∷ tokens) line r0 (des-takes (after_blanks line) r0 p0) bracket in
    rw (← is) (first.0, transitions.0, states.0, first.1, transitions.1, states.1, whole)

pub header_at-again : (line : List ℕ) (f m n : ℕ) → Header line f m n → header_at line ≡ Some (f, m, n)
unfolding header_at
header_at-again line f m n h =
    let des = h.6 in
    let bracket = des.4 in
    let first = bracket.4 in
    let transitions = first.4.4 in
    let states = transitions.4.4 in
    let tokens = h.0 ∷ codes "," ∷ h.1 ∷ codes "," ∷ h.2 ∷ codes ")" ∷ [] in
    let at_des : past_des (after_blanks line) ≡ Some des.1 =
    ap past_des (at_token (codes "des") (codes "(" ∷ tokens) line refl des) ∙ des-again des.1 in
    rw (at_des, mark-again 40 tokens des.1 refl refl bracket)
    (rw (number_then-again 44 (h.1 ∷ codes "," ∷ h.2 ∷ codes ")" ∷ []) bracket.1 h.0 f refl refl refl h.3 first)
    (rw (number_then-again 44 (h.2 ∷ codes ")" ∷ []) first.4.1 h.1 m refl refl refl h.4 transitions)
    (rw (number_then-again 41 [] transitions.4.1 h.2 n refl refl refl h.5 states)
    (with_end-again states.4.1 (f, m, n) states.4.4))))

-- ---- Reading the end of a transition line: the label, the target and the closing parenthesis

-- `Ending line a t` holds if the bytes `line` are the end of a transition line with the label a and the target t: the
-- label, a comma, the target and a closing parenthesis, with any number of blanks around these tokens.
abbrev Ending : List ℕ → List ℕ → ℕ → Type 0
Ending line a t = (label target : List ℕ) × Label label a × IsDecimal target t
    × Spaced (label ∷ codes "," ∷ target ∷ codes ")" ∷ []) line

ending_at-takes : (line : List ℕ) (x : List ℕ × ℕ) → ending_at (after_blanks line) ≡ Some x → Ending line x.0 x.1
unfolding ending_at
ending_at-takes line x e =
    let (a, p0, e0) = bind_some (label_at (after_blanks line)) _ x e in
    let (c, p1, e1) = bind_some (past 44 (after_blanks a.1)) _ x e0 in
    let (t, p2, e2) = bind_some (number_then 41 c) _ x e1 in
    let (end, is) = with_end-takes t.1 (a.0, t.0) x e2 in
    let target = number_then-takes 41 [] c t p2 end in
    let behind = target.0 ∷ codes ")" ∷ [] in
    let label = label-takes (codes "," ∷ behind) line a p0 (mark-takes 44 behind a.1 c p1 target.2) in
    rw (← is) (label.0, target.0, label.1, target.1, label.2)

ending_at-again : (line a : List ℕ) (t : ℕ) → Ending line a t → ending_at (after_blanks line) ≡ Some (a, t)
unfolding ending_at
ending_at-again line a t h =
    let label = h.4 in
    let comma = label.4 in
    let target = comma.4 in
    let behind = h.1 ∷ codes ")" ∷ [] in
    let stops = Stops-mark is_word 44 behind label.1 blanks_no_words refl comma in
    let digits = Without-number 34 h.1 t (omega arith) h.3 in
    let none = Without-spaced 34 (codes "," ∷ behind) label.1 refl
    (Without-literal 34 (codes ",") refl, (digits, (Without-literal 34 (codes ")") refl, tt))) comma in
    rw (label-again (codes "," ∷ behind) line h.0 a h.2 label stops none, mark-again 44 behind label.1 refl refl comma)
    (rw (number_then-again 41 [] comma.1 h.1 t refl refl refl h.3 target) (with_end-again target.4.1 (a, t) target.4.4))

-- ---- A transition

pub transition_at-takes : (line : List ℕ) (x : ℕ × List ℕ × ℕ) → transition_at line ≡ Some x →
    TransitionLine line x.0 x.1 x.2
unfolding transition_at
transition_at-takes line x e =
    let (b, p0, e0) = bind_some (past 40 (after_blanks line)) _ x e in
    let (s, p1, e1) = bind_some (number_then 44 b) _ x e0 in
    let (n, p2, e2) = bind_some (ending_at (after_blanks s.1)) _ x e1 in
    let ending = ending_at-takes s.1 n p2 in
    let tokens = ending.0 ∷ codes "," ∷ ending.1 ∷ codes ")" ∷ [] in
    let source = number_then-takes 44 tokens b s p1 ending.4 in
    let whole = mark-takes 40 (source.0 ∷ codes "," ∷ tokens) line b p0 source.2 in
    rw (← same_Some (s.0, n.0, n.1) x e2) (source.0, ending.0, ending.1, source.1, ending.2, ending.3, whole)

pub transition_at-again : (line : List ℕ) (s : ℕ) (a : List ℕ) (t : ℕ) → TransitionLine line s a t →
    transition_at line ≡ Some (s, a, t)
unfolding transition_at
transition_at-again line s a t h =
    let bracket = h.6 in
    let source = bracket.4 in
    let tokens = h.1 ∷ codes "," ∷ h.2 ∷ codes ")" ∷ [] in
    rw (mark-again 40 (h.0 ∷ codes "," ∷ tokens) line refl refl bracket)
    (rw (number_then-again 44 tokens bracket.1 h.0 s refl refl refl h.3 source)
    (rw (ending_at-again source.4.1 a t (h.1, h.2, h.4, h.5, source.4.4)) refl))

-- ---- Reading a line of a hide list (a file with the labels to hide)

pub hide_line_at-takes : (line a : List ℕ) → hide_line_at line ≡ Some a → HideLine line a
unfolding hide_line_at
hide_line_at-takes line a e =
    let (x, p, e0) = bind_some (label_at (after_blanks line)) _ a e in
    let (end, is) = with_end-takes x.1 x.0 a e0 in
    rw (← is) (label-takes [] line x p end)

pub hide_line_at-again : (line a : List ℕ) → HideLine line a → hide_line_at line ≡ Some a
unfolding hide_line_at
hide_line_at-again line a h =
    let rest = h.2.1 in
    rw (label-again [] line h.0 a h.1 h.2 (Stops-blanks is_word rest blanks_no_words h.2.4)
    (Without-blanks 34 rest refl h.2.4))
    (with_end-again rest a h.2.4)

-- ---- If a line is a transition or a line of a hide list, then its label is valid

pub transition-label : (line : List ℕ) (s : ℕ) (a : List ℕ) (t : ℕ) → TransitionLine line s a t → IsLabel a
transition-label line s a t h = IsLabel-spelled h.1 a h.4

pub hide_line-label : (line a : List ℕ) → HideLine line a → IsLabel a
hide_line-label line a h = IsLabel-spelled h.0 a h.1

-- ---- A header and a transition contain no line feed

-- The tokens that the grammar fixes contain no line feed.
fixed : Without 10 (codes "des") × Without 10 (codes "(") × Without 10 (codes ",") × Without 10 (codes ")")
fixed =
    let token = Without-literal 10 in
    (token (codes "des") refl, token (codes "(") refl, token (codes ",") refl, token (codes ")") refl)

pub Header-one : (line : List ℕ) (f m n : ℕ) → Header line f m n → IsOneLine line
Header-one line f m n h =
    let (des, before, comma, behind) = fixed in
    let first = Without-number 10 h.0 f (omega arith) h.3 in
    let transitions = Without-number 10 h.1 m (omega arith) h.4 in
    let states = Without-number 10 h.2 n (omega arith) h.5 in
    Without-spaced 10
    (codes "des" ∷ codes "(" ∷ h.0 ∷ codes "," ∷ h.1 ∷ codes "," ∷ h.2 ∷ codes ")" ∷ []) line refl
    (des, (before, (first, (comma, (transitions, (comma, (states, (behind, tt)))))))) h.6

pub TransitionLine-one : (line : List ℕ) (s : ℕ) (a : List ℕ) (t : ℕ) → TransitionLine line s a t → IsOneLine line
TransitionLine-one line s a t h =
    let (des, before, comma, behind) = fixed in
    let source = Without-number 10 h.0 s (omega arith) h.3 in
    let label = Without-label 10 h.1 a (omega arith) h.4 in
    let target = Without-number 10 h.2 t (omega arith) h.5 in
    Without-spaced 10 (codes "(" ∷ h.0 ∷ codes "," ∷ h.1 ∷ codes "," ∷ h.2 ∷ codes ")" ∷ []) line refl
    (before, (source, (comma, (label, (comma, (target, (behind, tt))))))) h.6

-- ---- Results of Rust functions that read a line

pub found_from : {X Y : Type 0} (view : X → Y) (r : Option X) (read : Option Y) (P : Y → Type 0) →
    IsSeenAs view r read → ((y : Y) → read ≡ Some y → P y) → IfSome r (λ x. P (view x))
found_from view r read P e h = grind arith

pub none_from : {X Y : Type 0} (view : X → Y) (r : Option X) (read : Option Y) (P : Type 0) → IsSeenAs view r read →
    (read ≡ None → P) → IfNone r P
none_from view r read P e h = grind arith

-- ---- Reading a line

-- `IsReader read P` holds if `read`, which is the result of reading a line, is `Some y` if and only if the value y has
-- the property P.
pub record IsReader {Y : Type 0} (read : Option Y) (P : Y → Type 0) : Type 0 where
  pub takes : (y : Y) → read ≡ Some y → P y
  pub again : (y : Y) → P y → read ≡ Some y

pub header_reader : (line : List ℕ) → IsReader (header_at line) (λ x. Header line x.0 x.1 x.2)
header_reader line = record { takes = header_at-takes line; again = λ x. header_at-again line x.0 x.1 x.2 }

pub transition_reader : (line : List ℕ) → IsReader (transition_at line) (λ x. TransitionLine line x.0 x.1 x.2)
transition_reader line = record { takes = transition_at-takes line; again = λ x. transition_at-again line x.0 x.1 x.2 }

pub hide_line_reader : (line : List ℕ) → IsReader (hide_line_at line) (HideLine line)
hide_line_reader line = record { takes = hide_line_at-takes line; again = hide_line_at-again line }

module _ {Y : Type 0} {read : Option Y} {P : Y → Type 0} (reader : IsReader read P) where
  -- If a line cannot be read, then no value has the property P.
  pub none_read : read ≡ None → (y : Y) → ¬ P y
  none_read e y h = none-some y (sym e ∙ reader.again y h)

  -- At most one value has the property P.
  pub one_reading : (x y : Y) → P x → P y → x ≡ y
  one_reading x y h k = same_Some x y (sym (reader.again x h) ∙ reader.again y k)

-- If no value has the property P, then the line cannot be read.
pub unread : {Y : Type 0} {read : Option Y} {P : Y → Type 0} → IsReader read P → ((y : Y) → ¬ P y) → read ≡ None
unread {read = None} reader none = refl
unread {read = Some y} reader none = absurd (none y (reader.takes y refl))

-- It is decidable whether some value has the property P.
pub decided : {Y : Type 0} {read : Option Y} {P : Y → Type 0} → IsReader read P →
    ((y : Y) × P y) ⊎ ((y : Y) → ¬ P y)
decided {read = Some y} reader = inl (y, reader.takes y refl)
decided {read = None} reader = inr (none_read reader refl)

-- ---- Each line can be read in at most one way

pub one_header : (line : List ℕ) (f m n f' m' n' : ℕ) → Header line f m n → Header line f' m' n' →
    (f ≡ f') × (m ≡ m') × (n ≡ n')
one_header line f m n f' m' n' h k =
    let e = one_reading (header_reader line) (f, m, n) (f', m', n') h k in
    (ap (λ (x : ℕ × ℕ × ℕ). x.0) e, ap (λ (x : ℕ × ℕ × ℕ). x.1) e, ap (λ (x : ℕ × ℕ × ℕ). x.2) e)

pub one_transition : (line : List ℕ) (s t s' t' : ℕ) (a a' : List ℕ) → TransitionLine line s a t →
    TransitionLine line s' a' t' → (s ≡ s') × (a ≡ a') × (t ≡ t')
one_transition line s t s' t' a a' h k =
    let e = one_reading (transition_reader line) (s, a, t) (s', a', t') h k in
    (ap (λ (x : ℕ × List ℕ × ℕ). x.0) e, ap (λ (x : ℕ × List ℕ × ℕ). x.1) e, ap (λ (x : ℕ × List ℕ × ℕ). x.2) e)

pub one_hide_line : (line a a' : List ℕ) → HideLine line a → HideLine line a' → a ≡ a'
one_hide_line line = one_reading (hide_line_reader line)

-- No line is both a header and a transition, because a header begins with `d` and a transition begins with a
-- parenthesis.
pub not_both : (line : List ℕ) (f m n s t : ℕ) (a : List ℕ) → Header line f m n → ¬ TransitionLine line s a t
not_both line f m n s t a h k =
    let d : after_blanks line ≡ codes "des" ++ h.6.1 = search (rules, at_token) in
    cc (at_token (codes "(") (k.0 ∷ codes "," ∷ k.1 ∷ codes "," ∷ k.2 ∷ codes ")" ∷ []) line refl k.6)
