-- Proves that the search computes correct signatures. The last component is the strongly connected set of states at the
-- top of the stack. The last component has collected items, which are pairs (label ID, block) and signature IDs. A
-- signature ID represents all pairs of the signature with this ID. Suppose that all outgoing transitions of the states
-- of the last component were read. Then the items of the last component represent exactly the pairs in the signature of
-- each state of this component. The second half of the file is about the signature that any list of items represents.
use Rattle.std.proofs.Common.{rules, ◌≡◌, ℕ, ◌+◌, ◌-◌, ◌<◌, ◌≤◌, List, [], ◌∷◌, length, drop, get_or, slice_index, sym}
use Rattle.std.proofs.Common.{◌∙◌, subst, inl, inr, arith, Contains, get_or-drop, length-drop, ◌⊎◌, ◌↔◌, ◌++◌, take}
use Rattle.std.proofs.Common.{nat_eq, refl, eqb-true}
use Rattle.std.proofs.lemmas.List.Elements.{Contains-append_left, Contains-get_or, Contains-push, Contains-push_cases}
use Rattle.std.proofs.lemmas.List.Sorted.{Contains-permutation, IsPermutation-sym}
use Rattle.std.proofs.lemmas.{Grind.common_steps, Grind.elements, List.get_or_default, List.take_more, Cmp.nat_eq_equiv}
use Rattle.std.proofs.lemmas.{List.Filters.dedup_is, List.Kept.Contains-dedup, List.Kept.Contains-from_dedup}
use Rattle.theory.specs.System.{Step, Along, internal}
use Rattle.theory.specs.{declared.relation.Relation.TheVariants.Branching, Blocks.Inert}
use Rattle.lts.specs.{Labels.text_of, Lts.source_of, Lts.label_of, Lts.place_at, Lts.system_of, Lts.IsLts}
use Rattle.lts.proofs.CallerLemmas.{step_at}
use Rattle.inert.specs.Search.{Search, Laws, item_at, GivesPair, ComponentHasPair, IsHandled, IsSigned, SearchInvariant}
use Rattle.inert.specs.{Search.Item, Search.AreInternedItems, Search.Pair, Search.Interned, SearchMoves.IsUnionOfItems}
use Rattle.inert.specs.{SearchMoves.HasRead, SearchMoves.AreCollected, Steps.Under, Signed.HasPair, Signed.pair_under}
use Rattle.inert.proofs.Invariant.{here, last, no_root, pair_before, list_signed, last_low, last_most, last_frame}
use Rattle.inert.proofs.Invariant.{none_ahead}
use Rattle.std.specs.{List.Retain.IsFiltered, List.Retain.DiffersFromLast, List.Sorted.IsPermutation}
use Rattle.signatures.specs.Lists.{list_at, AreLists, AreIds, Grow, HasOne}

module _ (laws : Laws) {u : Under} (lts : IsLts u.l) {signatures : List (List (ℕ × ℕ))} {w : Search}
    (walks : SearchInvariant u signatures w)
    (some : 0 < length w.frames) (read : HasRead w) (height : (last w.roots).height ≡ here w) where
  -- The last component is the strongly connected set of states at the top of the stack. In the list of all items, the
  -- items of the last component are the items from the index `c0` on. An item is a pair (label ID, block) or a
  -- signature ID, and a signature ID represents all pairs of its signature. `Collected` holds if some item of the last
  -- component represents the pair z.
  abbrev c0 : ℕ
  c0 = (last w.roots).items

  abbrev Collected : ℕ × ℕ → Type 0
  Collected z = (x : Item) × Contains (drop c0 w.items) x × GivesPair signatures x z

  collected_from : (p : ℕ) → here w ≤ p → (z : ℕ × ℕ) → ComponentHasPair signatures w p z → Collected z
  collected_from p h z (j, low, g, of) =
      let from = (of (length w.roots - 1) no_root (last_low walks some)).0 (omega (arith, height, h)) in
      let is : c0 + (j - c0) ≡ j = omega (arith, from) in
      let at : get_or (drop c0 w.items) (j - c0) (item_at w.items j) ≡ item_at w.items j =
      grind (arith, common_steps, is, low, get_or-drop, get_or_default) in
      (item_at w.items j, (j - c0, omega (arith, length-drop c0 w.items, low, from), at), g)

  -- The last component is the strongly connected set of states at the top of the stack. Suppose that all transitions of
  -- its states were read. Then each of these transitions was processed (`IsHandled`). If the transition is inert, the
  -- search has followed it. If the transition is not inert, the component has collected the pair (label ID, target
  -- block) of the transition.
  done : (p k : ℕ) → here w ≤ p → p < length w.stack → k < length u.l.places
      → source_of (place_at u.l.places k) ≡ slice_index w.stack p → IsHandled u signatures w p (place_at u.l.places k)
  done p k h lp lk source = let left = none_ahead walks read p k in
      grind (arith, walks.accounted p k lp lk source, left, last_frame walks, h, lk, source)

  -- The last component is the strongly connected set of states at the top of the stack. Its items are pairs (label ID,
  -- block) and signature IDs, and a signature ID represents all pairs of its signature. Suppose that all transitions of
  -- the states of the last component were read. Suppose also that a path of inert steps leads from a state in the last
  -- component to a state with a transition that is not inert. Then some item of the last component represents the pair
  -- (label ID, target block) of this transition.
  collects : (z : ℕ × ℕ) (us : List ℕ) (p : ℕ) → here w ≤ p → p < length w.stack → (v t : ℕ)
      → Along (Inert (system_of u.l) (slice_index u.blocks)) (slice_index w.stack p) us v
      → Step (system_of u.l) v (text_of u.l.labels z.0) t → slice_index u.blocks t ≡ z.1
      → ¬ ((text_of u.l.labels z.0 ≡ internal) × (z.1 ≡ slice_index u.blocks (slice_index w.stack p)))
      → z.0 < length u.l.labels → Collected z
  collects z [] p h lp v t e step is other low =
      let (k, lk, source, label, target) = step_at u.l v (text_of u.l.labels z.0) t step in
      let id : label_of (place_at u.l.places k) ≡ z.0 = search rules in
      let same : pair_under u.blocks (place_at u.l.places k) ≡ z = grind (arith, id, target, is) in
      collected_from p h z (rw same at ((done p k h lp lk (source ∙ sym e)).shown (λ inert. other (cc, cc))))
  collects z (x ∷ us) p h lp v t (first, rest) step is other low =
      let (k, lk, source, label, target) = step_at u.l (slice_index w.stack p) internal x first.0 in
      let inside : slice_index w.stack p < u.l.states = search rules in
      elim (rw target at ((done p k h lp lk source).followed (label, cc))) [
        | inl (q, stage, up, down) ↦
            let was = walks.opened.only x q stage in
            let high = up (length w.roots - 1) no_root (last_low walks some) (omega (arith, height, h)) in
            collects z us q (omega (arith, height, high)) was.0 v t (rw was.1 rest) step is
            (λ inert. other (inert.0, cc)) low
        | inr held ↦ elim held [
          | inl (id, stage, all) ↦
              let has : HasPair Branching u.l u.blocks x z.0 z.1 =
              (low, (v, t, (us, rest), step, is, λ inert. other (inert.0, cc))) in
              collected_from p h z (all z
              (((list_signed walks p x id lp inside first.1 stage).signature.exactly z.0 z.1).1 has))
          | inr (i, low', is', to) ↦ let e = last_frame walks i (omega (arith, low')) (omega (arith, is', h)) in
              absurd (omega (arith, e, low'))
        ]
      ]

  -- The last component is the strongly connected set of states at the top of the stack. Its items are pairs (label ID,
  -- block) and signature IDs, and a signature ID represents all pairs of its signature. If an item of the last
  -- component represents a pair, this pair is in the signature of each state of the component.
  sound : (p : ℕ) → here w ≤ p → p < length w.stack → (z : ℕ × ℕ) → Collected z →
      HasPair Branching u.l u.blocks (slice_index w.stack p) z.0 z.1
  sound p h lp z (x, (i, low, at), g) =
      let low' : c0 + i < length w.items = omega (arith, low, length-drop c0 w.items) in
      let (q, lq, of, all) = walks.sound (c0 + i) low' in
      let tie = walks.connects p q lp lq (λ j d lj le. grind (arith, (last_most walks j d lj).1, (of j d lj).1)) in
      pair_before laws u (slice_index w.stack p) (slice_index w.stack q) z tie
      (all z (subst (λ y. GivesPair signatures y z) (sym at ∙ get_or-drop c0 w.items i x
      ∙ get_or_default w.items (c0 + i) x _ low') g))

  -- The last component is the strongly connected set of states at the top of the stack. Its items are pairs (label ID,
  -- block) and signature IDs, and a signature ID represents all pairs of its signature. Suppose that all transitions of
  -- the states of the last component were read. Suppose also that the pairs of an interned signature are exactly the
  -- pairs that the items of the last component represent. Then this signature is the signature of each state of the
  -- component.
  module _ {lists' : List (List (ℕ × ℕ))} {id : ℕ} (listed : IsUnionOfItems (drop c0 w.items) signatures lists' id)
    where
      pub exact : (p : ℕ) → here w ≤ p → p < length w.stack → IsSigned u (slice_index w.stack p) lists' id
      exact p h lp = record {
        within = listed.within;
        signature = record {
          exactly = λ k b. (
            λ c. sound p h lp (k, b) ((listed.exactly (k, b)).0 c),
            λ (low, (v, t, (us, path), step, is, other)).
                (listed.exactly (k, b)).1 (collects (k, b) us p h lp v t path step is other low),
          );
          ascending = listed.ascending;
        };
      }

-- If the element x is appended to the list xs, then the resulting list contains y if and only if xs contains y, or x
-- equals y.
pushed : {X : Type 0} (xs : List X) (x y : X) → Contains (xs ++ x ∷ []) y ↔ (Contains xs y ⊎ (x ≡ y))
pushed xs x y = (
  Contains-push_cases xs x y,
  λ c. elim c [ inl was ↦ Contains-append_left xs (x ∷ []) y was | inr e ↦ rw (← e) (Contains-push xs x) ],
)

-- An item is a pair (label ID, block) or a signature ID. These lemmas assume that the first n items in the list `all`
-- were collected: their pairs are in the list `pairs`, and their signature IDs are in the list `signature_ids`. The
-- lemmas show that `AreCollected` holds again after the next item, which is at the index n, was collected.
module _ (all : List Item) (n : ℕ) (signature_ids : List ℕ) (pairs : List (ℕ × ℕ)) (low : n < length all)
    (taken : AreCollected (take n all) signature_ids pairs) where
  abbrev xs : List Item
  xs = take n all

  pub taken_pair : {a b : ℕ} → item_at all n ≡ Pair a b
      → AreCollected (take (n + 1) all) signature_ids (pairs ++ (a, b) ∷ [])
  taken_pair {a} {b} is = rw (take_more all n (Pair 0 0) low, is) (record {
    named = λ k. grind (arith, taken.named k, pushed xs (Pair a b) (Interned k));
    own = λ x y. grind (arith, taken.own x y, pushed xs (Pair a b) (Pair x y), pushed pairs (a, b) (x, y));
  })

  pub taken_list : {j : ℕ} → item_at all n ≡ Interned j
      → AreCollected (take (n + 1) all) (signature_ids ++ j ∷ []) pairs
  taken_list {j} is = rw (take_more all n (Pair 0 0) low, is) (record {
    named = λ k. grind (arith, taken.named k, pushed xs (Interned j) (Interned k), pushed signature_ids j k);
    own = λ x y. grind (arith, taken.own x y, pushed xs (Interned j) (Pair x y));
  })

-- An item is a pair (label ID, block) or a signature ID. Suppose that the list xs contains exactly the signature IDs
-- among the items. If xs is sorted and duplicates are removed, the resulting list zs still contains exactly these
-- signature IDs.
pub taken_ordered : (items : List Item) (xs ys zs : List ℕ) (pairs : List (ℕ × ℕ)) → AreCollected items xs pairs
    → IsPermutation xs ys → IsFiltered (DiffersFromLast nat_eq) [] ys zs → AreCollected items zs pairs
taken_ordered items xs ys zs pairs taken same filtered = rw (dedup_is nat_eq ys zs filtered) (record {
  named = λ k. (
    λ c. (taken.named k).0
        (Contains-permutation ys xs k (IsPermutation-sym xs ys same) (Contains-from_dedup nat_eq ys k c)),
    λ c. Contains-dedup nat_eq_equiv eqb-true ys k (Contains-permutation xs ys k same ((taken.named k).1 c)),
  );
  own = taken.own;
})

module _ (items : List Item) (signatures : List (List (ℕ × ℕ))) (signature_ids : List ℕ) (pairs : List (ℕ × ℕ))
    (taken : AreCollected items signature_ids pairs) where
  -- An item is a pair (label ID, block) or a signature ID. Suppose that the list `signature_ids` contains exactly the
  -- signature IDs among the items. Then the signature ID at each index of this list is one of the items.
  listed_at : (i : ℕ) → i < length signature_ids → Contains items (Interned (slice_index signature_ids i))
  listed_at i low = (taken.named (slice_index signature_ids i)).0 (Contains-get_or signature_ids i 0 low)

  pub numbers_there : AreInternedItems signatures items → AreIds signatures signature_ids
  numbers_there there i d low = grind (arith, elements, there, listed_at i low)

  -- An item is a pair (label ID, block) or a signature ID. A signature ID represents all pairs of the signature with
  -- this ID. Suppose that an item represents a pair. Then the pair is in the list `pairs`, or the pair is in a
  -- signature whose ID is in the list `signature_ids`.
  gives : (z : ℕ × ℕ) (x : Item) → Contains items x → GivesPair signatures x z → Contains pairs z
      ⊎ HasOne signatures signature_ids z
  gives z (Pair a b) c g = inl (subst (Contains pairs) g ((taken.own a b).1 c))
  gives z (Interned k) c g =
      let (i, li, e) = (taken.named k).1 c in inr (i, li, rw (get_or_default signature_ids i 0 k li ∙ e) g)

  given : (z : ℕ × ℕ) → Contains pairs z ⊎ HasOne signatures signature_ids z → (x : Item) × Contains items x
      × GivesPair signatures x z
  given z (inl c) = (Pair z.0 z.1, (taken.own z.0 z.1).0 c, refl)
  given z (inr (i, li, c)) = (Interned (slice_index signature_ids i), listed_at i li, c)

  pub listed : (lists' : List (List (ℕ × ℕ))) (k : ℕ) → AreLists lists' → k < length lists' → Grow signatures lists'
      → ((z : ℕ × ℕ) → Contains (list_at lists' k) z ↔ (Contains pairs z ⊎ HasOne signatures signature_ids z))
      → IsUnionOfItems items signatures lists' k
  listed lists' k are within grow exactly = record {
    within = within;
    grow = grow;
    exactly = λ z. (λ c. given z ((exactly z).0 c), λ (x, c, g). (exactly z).1 (gives z x c g));
    ascending = are.ascending k [] within;
  }
