-- Signatures are interned. They are stored as lists of pairs in ascending order, and different signatures have
-- different IDs. Two signatures are equal if and only if their lists are equal. The split signature of a state is empty
-- if the signature of the state has not changed since the last round, and otherwise it is the new signature. A split
-- separates two states of a block if their split signatures differ. The proofs in this file show that a split by the
-- split signatures has the same result as a split by the signatures. For branching bisimilarity, signatures are cached
-- from round to round. The last proofs show that, if the cached signatures are correct before a round, then they are
-- also correct after the round.
use Rattle.std.proofs.Common.{◌≡◌, ◌⊎◌, ◌↔◌, ◌∙◌, ℕ, ◌+◌, ◌<◌, ◌≤◌, List, [], length, map, slice_index}
use Rattle.std.proofs.Common.{Contains, Option, None, Some, subst, sym, ap, refl, inl, inr, arith}
use Rattle.std.proofs.lemmas.{Grind.common_steps, List.Elements.All-contains}
use Rattle.std.proofs.Math.Logic.{⊎_map}
use Rattle.std.specs.List.Sorted.{IsStrictlySortedBy}
use Rattle.theory.specs.{System.IsSystem, declared.relation.Relation.Relation, Blocks.Signature, Blocks.SameSignature}
use Rattle.theory.specs.{Unaffected.HasEmptySignature, Unaffected.MentionsOnlyOld}
use Rattle.theory.specs.declared.relation.Relation.TheVariants.{Strong, Branching}
use Rattle.theory.proofs.CallerLemmas.{empty_before, step_below, still_stays}
use Rattle.lts.specs.Labels.{text_of, IsLabelId}
use Rattle.lts.specs.Lts.{Grouped, Triple, target_of, before, row_of, system_of, IsTriple, IsLts}
use Rattle.lts.proofs.CallerLemmas.{labels_have_ids, before-mono, before-next, before-le, contains_mapped}
use Rattle.lts.proofs.CallerLemmas.{mapped_contains, row_of-contains, row_steps}
use Rattle.signatures.specs.Lists.{AreLists, list_at, pair_cmp}
use Rattle.signatures.proofs.CallerLemmas.{ascending_none, ascending_unique}
use Rattle.partition.specs.{Splitting.IsSingleton, Blocks.IsMember, Blocks.InactiveHaveNone}
use Rattle.inert.specs.Signed.{CachesBeside, SignsActive, HasPair, IsListOf, IsSignature, pair_under}
use Rattle.refine_core.specs.Rounds.{Signed, HaveSignatures, list_of, Was, IsAsBefore, Follows, HasNewBlock}
use Rattle.refine_core.specs.Rounds.{IsStrongSplitSignature, IsReadyToSign, SignsRound}

-- Suppose that the blocks result from splitting the blocks of the last round (`Follows`). For branching bisimilarity,
-- suppose also that the signatures have not been discarded since the last round. If the signature of the state s
-- contains no ID of a new block, and for branching bisimilarity s is not in a new block either (`MentionsOnlyOld`),
-- then the signature of s is the same as in the last round.
pub unaffected_as_before : (rel : Relation) (l : Grouped) → IsSystem (system_of l) → (old : Option (List ℕ))
    (of : List ℕ) (first_new : ℕ) → (rel ≡ Branching → ¬ (old ≡ None)) → Follows rel l old of first_new → (s : ℕ)
    → s < l.states → MentionsOnlyOld rel (system_of l) (slice_index of) first_new s → IsAsBefore rel l old of s
unaffected_as_before Strong l sys None of first_new some follows s h still a b =
    (λ can. absurd (omega (arith, still.1 a b can, follows refl)), λ none. absurd none)
unaffected_as_before Branching l sys None of first_new some follows s h still a b = absurd (some refl refl)
unaffected_as_before rel l sys (Some old) of first_new some follows s h still a b =
    still_stays (system_of l) sys (slice_index old) (slice_index of)
    (λ s t ls lt e. ((follows.split s t ls lt).0 e).0) first_new follows.stays s h rel still a b

-- Suppose that the blocks result from splitting the blocks of the last round (`Follows`), and that the strong signature
-- of the state s contains the ID of a new block, which is a block that the last split has made. Then the signature of s
-- is not the same as in the last round.
new_not_as_before : (l : Grouped) → IsSystem (system_of l) → (old : Option (List ℕ)) (of : List ℕ) (first_new : ℕ)
    → Follows Strong l old of first_new → (s : ℕ) (a : List ℕ) (b : ℕ)
    → Signature Strong (system_of l) (slice_index of) s a b → first_new ≤ b → ¬ IsAsBefore Strong l old of s
new_not_as_before l sys None of first_new follows s a b can new same = (same a b).0 can
new_not_as_before l sys (Some old) of first_new follows s a b can new same = let (u, was, is) = (same a b).0 can in
    omega (arith, follows.below u (step_below (system_of l) sys s a u was).1, is, new)

-- Suppose that the blocks result from splitting the blocks of the last round (`Follows`), and that two states share a
-- block. Then the two states had equal signatures in the last round. If the block IDs of the last round are not known
-- (`old` is `None`), all signatures in the last round are taken to be empty.
was_alike : (rel : Relation) (l : Grouped) (old : Option (List ℕ)) (of : List ℕ) (first_new : ℕ)
    → Follows rel l old of first_new → (s t : ℕ) → s < l.states → t < l.states → slice_index of s ≡ slice_index of t
    → (a : List ℕ) (b : ℕ) → Was rel l old s a b ↔ Was rel l old t a b
was_alike rel l None of first_new was s t ls lt one a b = (λ h. h, λ h. h)
was_alike rel l (Some old) of first_new was s t ls lt one a b = ((was.split s t ls lt).0 one).1 a b

-- Suppose that the blocks result from splitting the blocks of the last round (`Follows`), and that the branching
-- signature of a state is empty. Then the branching signature of this state in the last round was empty, too.
empty_was : (l : Grouped) → IsLts l → (old : Option (List ℕ)) (of : List ℕ) (first_new : ℕ)
    → Follows Branching l old of first_new → (s : ℕ) → s < l.states
    → HasEmptySignature (system_of l) (slice_index of) s → (a : List ℕ) (b : ℕ) → ¬ Was Branching l old s a b
empty_was l lts None of first_new was s ls none = λ a b h. h
empty_was l lts (Some old) of first_new was s ls none =
    empty_before (system_of l) lts.system (slice_index old) (slice_index of)
    (λ s t ls lt e. ((was.split s t ls lt).0 e).0) s ls none

-- The predicate `has` describes a set of pairs: the pair of a label a and a block b is in the set if `has a b` holds.
-- `HasLabels` holds if the label of each pair in this set is in the label table.
abbrev HasLabels : Grouped → (List ℕ → ℕ → Type 0) → Type 0
HasLabels l has = (a : List ℕ) (b : ℕ) → has a b → (k : ℕ) × IsLabelId l.labels k a

-- The label of each pair in the signature that a state had in the last round is in the label table.
label_id_of : (l : Grouped) → IsLts l → (rel : Relation) (old : Option (List ℕ)) (s : ℕ)
    → HasLabels l (Was rel l old s)
label_id_of l lts rel None s a b h = absurd h
label_id_of l lts Strong (Some old) s a b h = labels_have_ids l s a h.0 lts h.1
label_id_of l lts Branching (Some old) s a b h = labels_have_ids l h.0 a h.1 lts h.3

-- The empty list stores the empty set of pairs (label, block).
pub none_listed : (l : Grouped) (has : List ℕ → ℕ → Type 0) → ((a : List ℕ) (b : ℕ) → ¬ has a b) → IsListOf l has []
none_listed l has none = record {
  exactly = λ k b. (λ c. absurd (omega (arith, c.1)), λ h. absurd (none _ b h.1));
  ascending = ascending_none pair_cmp;
}

carried_over : (l : Grouped) (P Q : List ℕ → ℕ → Type 0) (xs : List (ℕ × ℕ)) → HasLabels l P → IsListOf l P xs
    → IsListOf l Q xs → (a : List ℕ) (b : ℕ) → P a b → Q a b
carried_over l P Q xs labelled of_p of_q a b h = let (k, number) = labelled a b h in
    rw number.text at ((of_q.exactly k b).0 ((of_p.exactly k b).1 (number.below, rw number.text h))).1

-- The predicates P and Q describe two sets of pairs (label, block). Suppose that the list xs stores the set that P
-- describes, and that the list ys stores the set that Q describes (`IsListOf`). Suppose also that all labels in both
-- sets are in the label table. Then xs and ys are equal if and only if the two sets are equal.
equal_represented : (l : Grouped) (P Q : List ℕ → ℕ → Type 0) (xs ys : List (ℕ × ℕ)) → HasLabels l P → HasLabels l Q
    → IsListOf l P xs → IsListOf l Q ys → (xs ≡ ys) ↔ ((a : List ℕ) (b : ℕ) → P a b ↔ Q a b)
equal_represented l P Q xs ys in_p in_q of_p of_q = (
  λ e a b. let is = subst (IsListOf l Q) (sym e) of_q in
      (carried_over l P Q xs in_p of_p is a b, carried_over l Q P xs in_q is of_p a b),
  λ same. ascending_unique xs ys of_p.ascending of_q.ascending (λ z. let is = same (text_of l.labels z.0) z.1 in
      grind (arith, of_p.exactly z.0 z.1, of_q.exactly z.0 z.1, is)),
)

-- Suppose that the list xs stores the signature of the state s, and that the list ys stores the signature of the state
-- t (`IsSignature`). Then xs and ys are equal if and only if the signatures of s and t are equal.
pub equal_lists : (rel : Relation) (l : Grouped) (lts : IsLts l) (blocks : List ℕ) (s t : ℕ)
    (xs ys : List (ℕ × ℕ)) → IsSignature rel l blocks s xs → IsSignature rel l blocks t ys
    → (xs ≡ ys) ↔ SameSignature rel (system_of l) (slice_index blocks) s t
equal_lists rel l lts blocks s t xs ys =
    equal_represented l _ _ xs ys (label_id_of l lts rel (Some blocks) s) (label_id_of l lts rel (Some blocks) t)

-- The following lemmas are about the row of the state s, which is the list of the stored transitions from s. The pair
-- of a transition consists of its label ID and the block ID of its target.
module _ (l : Grouped) (blocks : List ℕ) (s : ℕ) (h : IsLts l) where
  -- `pairs` is the list of the pairs of the transitions of the state s, in the order of these transitions.
  abbrev pairs : List (ℕ × ℕ)
  pairs = map (pair_under blocks) (row_of s l.places)

  -- A pair is in the strong signature of the state s if and only if it is the pair of some transition of s.
  pair_is : (z : ℕ × ℕ) → Contains pairs z ↔ HasPair Strong l blocks s z.0 z.1
  pair_is z = (
    λ c.
        let (e, at, is) = mapped_contains (pair_under blocks) (row_of s l.places) z c in
        let listed = ((row_of-contains s l.places e).0 at).0 in
        let triple = All-contains (IsTriple (length l.labels) l.states) l.places e h.in_range.each listed in
        rw (sym is) (triple.label, (target_of e, (row_steps l s _ (target_of e)).1 (e, at, refl, refl), refl)),
    λ has. let found = (row_steps l s (text_of l.labels z.0) has.1.0).0 has.1.1 in
        grind (arith, common_steps, h.table.different, contains_mapped),
  )

  -- Suppose that the list zs contains exactly the pairs of the transitions of the state s, in strictly ascending order.
  -- Then zs is the strong signature of s.
  pub row_signature : (zs : List (ℕ × ℕ)) → IsStrictlySortedBy pair_cmp zs
      → ((z : ℕ × ℕ) → Contains zs z ↔ Contains pairs z) → IsSignature Strong l blocks s zs
  row_signature zs ascending same = record {
    exactly = λ k b. grind (arith, same (k, b), pair_is (k, b));
    ascending = ascending;
  }

  -- Suppose that no transition of the state s leads to a new block, which is a block that the last split has made. Then
  -- the strong signature of s contains no ID of a new block.
  pub row_unaffected : (first_new : ℕ) → ¬ HasNewBlock first_new pairs
      → MentionsOnlyOld Strong (system_of l) (slice_index blocks) first_new s
  row_unaffected first_new none = (
    λ is. absurd cc,
    λ a b can.
        let (k, number) = labels_have_ids l s a can.0 h can.1 in
        let c = (pair_is (k, b)).1 (number.below, rw number.text can) in
        let apart : ¬ (first_new ≤ b) = λ new. none ((k, b), c, new) in omega (arith, apart),
  )

-- The list es contains transitions, and `before s es` is the number of those whose source is less than s. Suppose that
-- `next` is at most s. Then `before next es` plus the number of the transitions from s is at most the length of es.
pub row_within : {next s : ℕ} (es : List Triple) → next ≤ s → before next es + length (row_of s es) ≤ length es
row_within {next} {s} es h = omega (arith, before-mono next s es h, before-next s es, before-le (s + 1) es)

-- `IsSplitSignature` holds if `list` is the split signature of the state s. If the signature of s is the same as in the
-- last round, `list` must be empty. Otherwise, `list` must be the new signature of s, and must not be empty.
abbrev IsSplitSignature : Relation → Grouped → Option (List ℕ) → List ℕ → ℕ → List (ℕ × ℕ) → Type 0
IsSplitSignature rel l old of s list = ((list ≡ []) × IsAsBefore rel l old of s)
    ⊎ (¬ (list ≡ []) × ¬ IsAsBefore rel l old of s × IsSignature rel l of s list)

-- The lists xs and ys are the split signatures of two states. P holds if the signature of the first state is the same
-- as in the last round, and Q holds if the signature of the second state is the same as in the last round. X and Y hold
-- if xs and ys are the new signatures. Suppose that three conditions hold. First, if P and Q hold, the signatures of
-- the two states are equal. Second, if the signatures of the two states are equal, P holds if and only if Q holds.
-- Third, if X and Y hold, xs and ys are equal if and only if the signatures of the two states are equal. Then xs and ys
-- are equal if and only if the signatures of the two states are equal.
equal_split_signatures : {P Q X Y Same : Type 0} {xs ys : List (ℕ × ℕ)} → (P → Q → Same) → (Same → P ↔ Q)
    → (X → Y → (xs ≡ ys) ↔ Same) → ((xs ≡ []) × P) ⊎ (¬ (xs ≡ []) × ¬ P × X)
    → ((ys ≡ []) × Q) ⊎ (¬ (ys ≡ []) × ¬ Q × Y) → (xs ≡ ys) ↔ Same
equal_split_signatures both either listed x y = grind (arith, both, either, listed, x, y)

-- Let r be the data of a round (`Signed`) that is ready for computing signatures (`IsReadyToSign`). The following
-- lemmas assume that, for each active state (each state that the round processes), `signature_ids` contains the ID of
-- the split signature of this state, and that it contains the ID of the empty signature for each other state. The split
-- signature of an active state in a singleton block (a block with one state) may be any list.
module _ (rel : Relation) (l : Grouped) (lts : IsLts l) (r : Signed) (ready : IsReadyToSign rel l r)
    (signatures : List (List (ℕ × ℕ))) (signature_ids : List ℕ) (are : AreLists signatures)
    (have : HaveSignatures r.blocks.block_ids r.blocks.active signatures signature_ids)
    (given : (s : ℕ) → s < l.states → IsMember r.blocks.active s → IsSingleton r.blocks.block_ids s
    ⊎ IsSplitSignature rel l ready.old r.blocks.block_ids s (list_of signatures signature_ids s)) where
  abbrev blocks : List ℕ
  blocks = r.blocks.block_ids

  -- `AreEqualTogether` holds if the entries of the states s and t in `signature_ids` are equal if and only if the
  -- signatures of s and t are equal.
  abbrev AreEqualTogether : ℕ → ℕ → Type 0
  AreEqualTogether s t = (slice_index signature_ids s ≡ slice_index signature_ids t)
      ↔ SameSignature rel (system_of l) (slice_index blocks) s t

  one_state : (s t : ℕ) → s ≡ t → AreEqualTogether s t
  one_state s t e = subst (AreEqualTogether s) e (λ h a b. (λ p. p, λ p. p), λ h. refl)

  each : (s : ℕ) → s < l.states
      → IsSingleton blocks s ⊎ IsSplitSignature rel l ready.old blocks s (list_of signatures signature_ids s)
  each s h = grind (arith, ready.others s h, have.none s, given s h, have.states, ready.is.states, are.first)

  separates : (s t : ℕ) → s < l.states → t < l.states → slice_index blocks s ≡ slice_index blocks t
      → AreEqualTogether s t
  separates s t ls lt one =
      let was = was_alike rel l ready.old blocks _ ready.is.follows s t ls lt one in
      let size = ready.is.states in
      elim (each s ls) [
        | inl only ↦ one_state s t (sym (only t (omega (arith, lt, size)) (sym one)))
        | inr x ↦ elim (each t lt) [
          | inl only ↦ one_state s t (only s (omega (arith, ls, size)) one)
          | inr y ↦
              let (to, from) = equal_split_signatures (λ p q a b. grind (arith, p a b, q a b, was a b)) (λ same. (
                λ p a b. grind (arith, p a b, same a b, was a b),
                λ q a b. grind (arith, q a b, same a b, was a b),
              )) (equal_lists rel l lts blocks s t _ _) x y in
              let within = λ (s : ℕ) (h : s < l.states). have.each s 0 (omega (arith, h, have.states, size)) in
              (λ e. to (ap (list_at signatures) e), λ same. are.different _ _ (within s ls) (within t lt) (from same))
        ]
      ]

-- Let r be the data of a round that is ready for computing strong signatures (`IsReadyToSign`). Suppose that, for each
-- active state (each state that the round processes), the list `signature_ids` contains the ID of the split signature
-- of the state. Suppose that, for each other state, this list contains the ID of the empty signature. Then the round
-- has computed the signatures correctly (`SignsRound`).
pub strong_signs : (l : Grouped) → IsLts l → (r : Signed) → IsReadyToSign Strong l r
    → (signatures : List (List (ℕ × ℕ))) (signature_ids : List ℕ) → AreLists signatures
    → HaveSignatures r.blocks.block_ids r.blocks.active signatures signature_ids
    → ((s : ℕ) → IsMember r.blocks.active s → IsStrongSplitSignature l r.blocks.block_ids r.blocks.first_new s
    (list_of signatures signature_ids s))
    → SignsRound Strong l r (record r { signatures = signatures; signature_ids = signature_ids })
strong_signs l lts r ready signatures signature_ids are have put = record {
  blocks = refl;
  index = refl;
  have = have;
  separates = separates Strong l lts r ready signatures signature_ids are have (λ s h one. inr (⊎_map
      (λ p. (p.0, unaffected_as_before Strong l lts.system ready.old _ _ (λ is. absurd cc) ready.is.follows s h p.1))
      (λ ((z, in_list, new), is). (
        λ none. absurd (omega (arith, (rw none at in_list).1)),
        new_not_as_before l lts.system ready.old _ _ ready.is.follows s _ z.1 ((is.exactly z.0 z.1).0 in_list).1 new,
        is,
      )) (put s one)));
  cached = λ is. absurd cc;
  first = λ all _ s one. elim (put s one) [
    | inl (nil, still) ↦ rw nil (none_listed l _ (λ a b can. absurd (omega (arith, still.1 a b can, all refl))))
    | inr changed ↦ changed.1
  ];
}

-- Let r be the data of a round (`Signed`): the blocks, the active states (the states that the round processes), the
-- signatures, and the predecessor index. The following lemmas assume that r is ready for computing branching signatures
-- (`IsReadyToSign`).
module _ (l : Grouped) (r : Signed) (ready : IsReadyToSign Branching l r) where
  abbrev of : List ℕ
  of = r.blocks.block_ids

  abbrev active : List ℕ
  active = r.blocks.active

  -- The cache contains a signature ID for each state. Suppose that the state s is neither active (processed by the
  -- round) nor in a singleton block (a block with one state). Then the cache contains the ID of the present signature
  -- of s.
  active_or_cached : (s : ℕ) → s < l.states → IsMember active s ⊎ IsSingleton of s
      ⊎ IsSignature Branching l of s (list_of r.signatures r.cached s)
  active_or_cached s h =
      let now : IsListOf l (Was Branching l ready.old s) (list_of r.signatures r.cached s)
      → IsAsBefore Branching l ready.old of s → IsSignature Branching l of s (list_of r.signatures r.cached s)
      = λ list same. record {
        exactly = λ k b. grind (arith, list.exactly k b, same (text_of l.labels k) b);
        ascending = list.ascending;
      } in
      grind (arith, ready.others s h, (ready.cached refl).each s h, now)

  -- The cache contains a signature ID for each state. Suppose that the state s shares a block with an active state,
  -- which is a state that the round processes. Then s is active, too, or the cache contains the ID of the present
  -- signature of s.
  pub cached_beside : CachesBeside l of active r.signatures r.cached
  cached_beside = let keeps = ready.cached refl in record {
    states = keeps.states;
    each = keeps.signature_ids;
    beside = λ s t hs ht same one. grind (arith, common_steps, active_or_cached s hs, ready.is.states);
  }

  -- The following lemmas assume that the signatures of the active states (the states that the round processes) have
  -- been computed. For each state, `cached` contains the ID of the signature that is cached for the next round, and
  -- `signature_ids` contains the ID of the split signature. The split signature is empty if the signature of the state
  -- has not changed since the last round, and otherwise it is the new signature.
  module _ (signatures : List (List (ℕ × ℕ))) (cached signature_ids : List ℕ) (are : AreLists signatures)
      (signs : SignsActive l of active r.signatures signatures r.cached cached signature_ids)
      (size : length signature_ids ≡ length of) (none : InactiveHaveNone active signature_ids) where
    within : (s : ℕ) → s < l.states → slice_index r.cached s < length r.signatures
    within s h = let keeps = ready.cached refl in keeps.signature_ids s 0 (omega (arith, h, keeps.states))

    -- The cache contains the ID of an interned signature for each state. When the round interns more signatures, each
    -- ID in the cache is still the ID of the same signature.
    same_list : (s : ℕ) → s < l.states → list_at signatures (slice_index r.cached s) ≡ list_of r.signatures r.cached s
    same_list s h = signs.grow.same (slice_index r.cached s) (within s h)

    -- Let s be an active state, which is a state that the round processes. Suppose that, before the signatures were
    -- computed, the cached ID of s was the ID of the signature that s had in the last round. Then the cached ID of s
    -- has changed if and only if the signature of s has changed. A signature that is empty in this round was empty in
    -- the last round, too. So `signature_ids` contains the ID of the split signature of s (`IsSplitSignature`).
    split_id : IsLts l → (s : ℕ) → s < l.states → IsMember active s
        → IsListOf l (Was Branching l ready.old s) (list_of r.signatures r.cached s)
        → IsSplitSignature Branching l ready.old of s (list_of signatures signature_ids s)
    split_id lts s h one was =
        let now = signs.signed s one in
        let labels = label_id_of l lts Branching (Some of) s in
        let equal = equal_represented l _ _ (list_of signatures cached s) (list_of r.signatures r.cached s) labels
        (label_id_of l lts Branching ready.old s) now was in
        let apart = are.different (slice_index r.cached s) (slice_index cached s) in
        let unchanged : (slice_index r.cached s ≡ slice_index cached s) ↔ IsAsBefore Branching l ready.old of s =
        grind (arith, equal, same_list s h, apart, within s h, signs.grow.longer, signs.each s 0, signs.states) in
        elim (signs.changed s one) [
          | inl (is, zero) ↦ inl (ap (list_at signatures) zero ∙ are.first, unchanged.0 is)
          | inr (other, id) ↦
              rw id (inr (
                λ nil.
                    let empty = carried_over l _ (λ a b. ⊥) [] labels (rw nil at now) (none_listed l _ (λ a b h. h)) in
                    let were = empty_was l lts ready.old of _ ready.is.follows s h empty in
                    other (unchanged.1 (λ a b. (λ can. absurd (empty a b can), λ can. absurd (were a b can)))),
                λ is. other (unchanged.1 is),
                now,
              ))
        ]

    -- Let s be a state that is not in a singleton block (a block with one state). After the round has computed the
    -- signatures, the cache contains the ID of the present signature of s.
    cached_now : (s : ℕ) → s < l.states → IsSingleton of s ⊎ IsSignature Branching l of s (list_of signatures cached s)
    cached_now s h = grind (arith, common_steps, signs.still s, active_or_cached s h, signs.signed s, same_list s h)

    -- After the round has computed the signatures of the active states, the data of the round is correct
    -- (`SignsRound`).
    pub branching_signs : IsLts l → SignsRound Branching l r
        (record r { signatures = signatures; cached = cached; signature_ids = signature_ids })
    branching_signs lts = record {
      blocks = refl;
      index = refl;
      have = record { each = signs.ids; states = size; none = none };
      separates = separates Branching l lts r ready signatures signature_ids are
          (record { each = signs.ids; states = size; none = none })
          (λ s h one. ⊎_map (λ alone. alone) (split_id lts s h one) ((ready.cached refl).each s h));
      cached = λ branching. record { states = signs.states; signature_ids = signs.each; each = cached_now };
      first = λ _ empty s one. grind (arith, common_steps, signs.changed s one, signs.signed s one, empty refl s);
    }
