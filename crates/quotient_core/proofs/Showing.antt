-- A quotient transition comes from a transition of the system: the source and the target of the transition are replaced
-- by their class numbers. The class number of a reachable state is the number of the quotient state that represents
-- this state. Some lemmas of this file are about the transition from which a quotient transition comes. The other
-- lemmas are about lists that contain exactly the quotient transitions of the states in a set (`HasShown`). These
-- lemmas prove how such a list changes when a state is added to the set, and when such a list contains all quotient
-- transitions of a class.
use Rattle.std.proofs.Common.{◌-◌, get_or, ◌≡◌, ◌≢◌, ◌⊎◌, ◌↔◌, ℕ, ◌+◌, ◌<◌, ◌≤◌, Bool, false, not, ◌&&◌, IsTrue, eqb}
use Rattle.std.proofs.Common.{List, [], ◌++◌, length, slice_index, Contains, IsPermutation, ap, subst, inl, inr, arith}
use Rattle.std.proofs.Common.{ltb, map, rules, nat_eq, cond, AllPairs, IsSorted, Ordering, nat_cmp, length-append}
use Rattle.std.proofs.lemmas.{Cmp.on_total, Cmp.then_total, Cmp.nat_cmp_total, List.Filters.dedup_is}
use Rattle.std.proofs.lemmas.{Map.Keys.IsDistinct-from_sorted, Map.Made.AllPairs-from_IsDistinct}
use Rattle.std.proofs.lemmas.{Bool.Decides.nat_tests, List.length-map, Grind.elements, Bool.not-true}
use Rattle.std.proofs.lemmas.{Bool.not_from_false, List.Sums.length-filter, List.Sums.count_by-le-length}
use Rattle.std.proofs.lemmas.List.Kept.{IsStrictlySortedBy-dedup, Contains-dedup, Contains-from_dedup}
use Rattle.std.proofs.lemmas.List.Sorted.{Contains-permutation, IsPermutation-sym}
use Rattle.std.proofs.lemmas.List.Elements.{Contains-get_or, Contains-append_cases, Contains-append_left}
use Rattle.std.proofs.lemmas.List.Elements.{Contains-append_right}
use Rattle.std.specs.{Cmp.IsTotalOrder, Ordering.ordering_then, List.Retain.IsFiltered, List.Retain.DiffersFromLast}
use Rattle.lts.specs.{Lts.Triple, Lts.Grouped, Lts.source_of, Lts.row_of, Meter.Counts, Meter.Costs}
use Rattle.partition.specs.Blocks.{AreStatesOf}
use Rattle.quotient_core.specs.{Numbers.AreNumbered, declared.numbering.Numbering.Numbering}
use Rattle.quotient_core.specs.Triples.{number_of, shown_by, is_reached, is_member, ShowEachOther, rows_of, HasShown}
use Rattle.quotient_core.specs.Triples.{between_numbers, is_left_out}
use Rattle.quotient_core.proofs.Reaching.{marked_below, visits_then, Parts, rows_part, rows_few}
use Rattle.lts.proofs.CallerLemmas.{contains_mapped, mapped_contains, contains_passing, passing_contains}

-- `triple_cmp` compares two triples (source, label ID, target): first by source, then by label ID, then by target.
abbrev triple_cmp : Triple → Triple → Ordering
triple_cmp x y = ordering_then (ordering_then (nat_cmp x.0 y.0) (nat_cmp x.1 y.1)) (nat_cmp x.2 y.2)

abbrev triple_eq : Triple → Triple → Bool
triple_eq x y = (nat_eq x.0 y.0 && nat_eq x.1 y.1) && nat_eq x.2 y.2

triple_total : IsTotalOrder triple_cmp
triple_total = then_total (then_total (on_total (λ t. t.0) nat_cmp_total) (on_total (λ t. t.1) nat_cmp_total))
    (on_total (λ t. t.2) nat_cmp_total)

-- Suppose that the list ys is sorted, and that zs results from ys by removing each element that is equal to the element
-- before it. Then the elements of zs are pairwise different.
pub tidied_once : (ys zs : List Triple) → IsFiltered (DiffersFromLast triple_eq) [] ys zs → IsSorted triple_cmp ys →
    AllPairs (λ x y. x ≢ y) zs
tidied_once ys zs filtered sorted = rw (dedup_is triple_eq ys zs filtered)
    (AllPairs-from_IsDistinct (λ x y. search rules) _ (IsDistinct-from_sorted triple_cmp _
    (IsStrictlySortedBy-dedup triple_total (λ x y. search rules) ys sorted)))

-- A quotient transition is a transition between quotient states. The quotient transitions of the state s are exactly
-- the triples that come from the transitions of s and that the quotient does not leave out.
pub shown_by-contains : (g : Grouped) (n : Numbering) (s : ℕ) (x : Triple) → Contains (shown_by g n s) x ↔
    ((e : Triple) × Contains (row_of s g.places) e × (between_numbers n s e ≡ x)
    × (is_left_out n.dropped (between_numbers n s e) ≡ false))
shown_by-contains g n s x =
    let row = row_of s g.places in
    let stays = λ (y : Triple). not (is_left_out n.dropped y) in
    let triples : List Triple = map (between_numbers n s) row in (
      λ c.
          let shows = passing_contains stays triples x c in
          let from = mapped_contains (between_numbers n s) row x shows.0 in
          (from.0, from.1, from.2, rw from.2 (not-true _ shows.1)),
      λ h. subst (Contains (shown_by g n s)) h.2 (contains_passing stays triples (between_numbers n s h.0)
          (contains_mapped (between_numbers n s) row h.0 h.1) (not_from_false _ h.3)),
    )

module _ {g : Grouped} {n : Numbering} where
  -- A quotient transition is a transition between quotient states. Suppose that each state that satisfies p satisfies
  -- exactly one of q and r, and that each other state satisfies neither q nor r (`Parts`). Suppose also that the list
  -- xs contains exactly the quotient transitions of the states that satisfy q, and that the list ys contains exactly
  -- the quotient transitions of the states that satisfy r. Then xs followed by ys contains exactly the quotient
  -- transitions of the states that satisfy p.
  pub shown_with : {p q r : ℕ → Bool} {xs ys : List Triple} → Parts p q r → HasShown g n q xs → HasShown g n r ys →
      HasShown g n p (xs ++ ys)
  shown_with {p} {q} {r} {xs} {ys} parts h own = record {
    exactly = λ x. (
      λ c. elim (Contains-append_cases xs ys x c) [
        | inl d ↦ let f = (h.exactly x).0 d in (f.0, grind (arith, parts f.0, f.1), f.2)
        | inr d ↦ let f = (own.exactly x).0 d in (f.0, grind (arith, parts f.0, f.1), f.2)
      ],
      λ f. let which : IsTrue (q f.0) ⊎ IsTrue (r f.0) = grind (arith, parts f.0, f.1) in elim which [
        | inl d ↦ Contains-append_left xs ys x ((h.exactly x).1 (f.0, d, f.2))
        | inr d ↦ Contains-append_right xs ys x ((own.exactly x).1 (f.0, d, f.2))
      ],
    );
    few = omega (arith, length-append xs ys, rows_part p q r parts g.places, h.few, own.few);
  }

  -- A quotient transition is a transition between quotient states. The list `shown_by g n s` contains exactly the
  -- quotient transitions of the state s.
  pub shown_row : (s : ℕ) → HasShown g n (λ t. eqb t s) (shown_by g n s)
  shown_row s = record {
    exactly = λ x. (
      λ c. (s, grind (arith, nat_tests), c),
      λ f. grind (arith, nat_tests, f.1, f.2),
    );
    few = search (rules, length-filter, count_by-le-length, length-map);
  }

  -- Suppose that a list contains exactly the quotient transitions (transitions between quotient states) of some states.
  -- Suppose that the list is sorted, and that its repeated elements are then removed. Then the list still contains
  -- exactly the quotient transitions of these states.
  pub shown_tidy : {p : ℕ → Bool} {list sorted tidy : List Triple} → HasShown g n p list →
      IsPermutation list sorted → IsFiltered (DiffersFromLast triple_eq) [] sorted tidy → length tidy ≤ length list →
      HasShown g n p tidy
  shown_tidy {list = list} {sorted = sorted} {tidy = tidy} h same filtered short = record {
    exactly = λ x. rw (dedup_is triple_eq sorted tidy filtered) (
      λ c. (h.exactly x).0 (Contains-permutation sorted list x (IsPermutation-sym list sorted same)
          (Contains-from_dedup triple_eq sorted x c)),
      λ f. Contains-dedup (search rules) (λ x y e. search rules) sorted x
          (Contains-permutation list sorted x same ((h.exactly x).1 f)),
    );
    few = omega (arith, short, h.few);
  }

-- `is_below` is true if the state s is reachable and its class number is less than i. The class number of s is the
-- number of the quotient state that represents s.
abbrev pub is_below : Numbering → ℕ → ℕ → Bool
is_below n i s = is_reached n s && ltb (number_of n s) i

-- The class number of a state is the number of the quotient state that represents this state. A reachable state has a
-- class number less than i + 1 if and only if its class number is less than i or equal to i. The two cases exclude each
-- other (`Parts`).
pub below_next : (n : Numbering) (i : ℕ) → Parts (is_below n (i + 1)) (is_below n i) (is_member n i)
below_next n i s = grind (arith, nat_tests)

-- The class number of a state is the number of the quotient state that represents this state. Consider the reachable
-- states with class numbers less than i and the reachable states with the class number i. Together, these states have
-- at most as many transitions as the whole system.
pub rows_fit : (g : Grouped) (n : Numbering) (i : ℕ) → length (rows_of (is_below n i) g.places)
    + length (rows_of (is_member n i) g.places) ≤ length g.places
rows_fit g n i = let part = rows_part _ _ _ (below_next n i) g.places in
    omega (arith, part, rows_few (is_below n (i + 1)) g.places)

-- A quotient transition is a transition between quotient states, which represent the classes of states. Suppose that
-- the list xs contains exactly the quotient transitions of the classes with numbers less than i, and that no quotient
-- transition occurs twice in xs. Suppose also that the list ys contains exactly the quotient transitions of the class
-- with the number i, and that no quotient transition occurs twice in ys. Then no quotient transition occurs twice in xs
-- followed by ys.
pub once_next : (g : Grouped) (n : Numbering) (i : ℕ) (xs ys : List Triple) → HasShown g n (is_below n i) xs →
    HasShown g n (is_member n i) ys → AllPairs (λ x y. x ≢ y) xs → AllPairs (λ x y. x ≢ y) ys →
    AllPairs (λ x y. x ≢ y) (xs ++ ys)
once_next g n i xs ys h own one other a b d low high =
    let k = b - length xs in
    let x = get_or xs a d in
    let apart = λ (c : Contains xs x) (e : Contains ys x). differ ((h.exactly x).0 c) ((own.exactly x).0 e) in
    let here = Contains-get_or xs a d in
    let there = Contains-get_or ys k d in
    grind (arith, elements, one a b d low, other (a - length xs) k d, apart, here, there)
  where
    differ : {x : Triple} → (s : ℕ) × IsTrue (is_below n i s) × Contains (shown_by g n s) x →
        (t : ℕ) × IsTrue (is_member n i t) × Contains (shown_by g n t) x → ⊥
    differ {x} (s, low, c) (t, is, e) =
        let (_, _, one, _) = (shown_by-contains g n s x).0 c in
        let (_, _, two, _) = (shown_by-contains g n t x).0 e in
        grind (arith, nat_tests, low, is, ap source_of one, ap source_of two)

-- `was_read` is true if the state s is a member of the class i, and is among the first k states that the loop of
-- `read_class` takes. The loop takes the states of the block of the class one after the other. The loop takes the last
-- state of the list `members` first, and then the other states in the order of this list.
abbrev pub was_read : Numbering → ℕ → List ℕ → (ℕ → ℕ) → ℕ → ℕ → Bool
was_read n i members at k s = is_member n i s && ltb (cond (eqb (at s + 1) (length members)) 0 (at s + 1)) k

-- `IsReadTo` is the invariant of the loop of `read_class`, which takes the states of the block of the class i one after
-- the other. The invariant holds after the loop has taken the first k states. The two main conditions of the invariant
-- are the following. First, the list `class` contains exactly the quotient transitions (transitions between quotient
-- states) of the reachable states among these k states. Second, the number of visits (reads of transitions that the
-- meter counts) is at most the number of transitions of these reachable states.
pub record IsReadTo (g : Grouped) (n : Numbering) (i : ℕ) (members : List ℕ) (k : ℕ) (class : List Triple)
    (old new : Counts) : Type 0 where
  pub below : i < length n.classes.items
  pub numbered : AreNumbered g.states n
  pub are : let b = slice_index n.classes.items i in AreStatesOf n.blocks.block_ids b (b + 1) members
  pub shown : HasShown g n (was_read n i members are.at k) class
  pub visits : let own = rows_of (was_read n i members are.at k) g.places in Costs old new 0 0 (length own)

module _ {g : Grouped} {n : Numbering} {i : ℕ} {members : List ℕ} {k : ℕ} {class : List Triple} {old mid : Counts}
    (h : IsReadTo g n i members k class old mid) where
  abbrev read : ℕ → ℕ → Bool
  read = was_read n i members h.are.at

  -- The members of a class are the reachable states of its block. Each member of the class i is in the list `members`,
  -- which contains the states of this block.
  there : (s : ℕ) → IsTrue (is_member n i s) → (h.are.at s < length members) × (slice_index members (h.are.at s) ≡ s)
  there s m =
      let below = marked_below g.states n.reached.items s h.numbered.reached_long in
      grind (arith, nat_tests, h.numbered.class s i, h.below, h.are.all s, below, h.numbered.blocks_long)

  -- The loop of `read_class` reads the transitions of the members of a class, one member after the other. The members
  -- that were read so far have at most as many transitions as all members of the class together.
  pub read_few : (m : ℕ) → length (rows_of (read m) g.places) ≤ length (rows_of (is_member n i) g.places)
  read_few m = let rest = λ (s : ℕ). is_member n i s && not (read m s) in
      omega (arith, rows_part (is_member n i) (read m) rest (λ s. grind (arith, nat_tests)) g.places)

  -- Suppose that the loop of `read_class` has taken all states of the block of a class. Then the list `class` contains
  -- exactly the quotient transitions (transitions between quotient states) of this class.
  pub read_all : length members ≤ k → HasShown g n (is_member n i) class
  read_all end =
      let same : (s : ℕ) → read k s ≡ is_member n i s = λ s. grind (arith, nat_tests, there s) in
      subst (λ p. HasShown g n p class) (λ i s. same s i) h.shown

  -- The loop of `read_class` takes the states of a block one after the other. In the following lemmas, k states have
  -- been taken so far, and `next` is the state that the loop takes next.
  module _ {j : ℕ} (within : j < length members) (turn : cond (eqb (j + 1) (length members)) 0 (j + 1) ≡ k) where
    abbrev next : ℕ
    next = slice_index members j

    pub next_below : next < g.states
    next_below = omega (arith, (h.are.each j within).0, h.numbered.blocks_long)

    -- The loop of `read_class` takes the states of a block one after the other. Suppose that it has taken k states so
    -- far, and that the state `next`, which it takes next, is not reachable. Then the transitions of `next` are not
    -- read, and the invariant of the loop (`IsReadTo`) holds for the first k + 1 states of the block, with the same
    -- list `class`.
    pub read_over : is_reached n next ≡ false → IsReadTo g n i members (k + 1) class old mid
    read_over out =
        let same : (s : ℕ) → read k s ≡ read (k + 1) s = λ s. grind (arith, nat_tests, there s) in
        let shown : HasShown g n (read (k + 1)) class = subst (λ p. HasShown g n p class) (λ i s. same s i) h.shown in
        let visits : let own = rows_of (read (k + 1)) g.places in Costs old mid 0 0 (length own) =
        subst (λ (p : ℕ → Bool). Costs old mid 0 0 (length (rows_of p g.places))) (λ i s. same s i) h.visits in
        search (rules, h, shown, visits)

    module _ (way : IsTrue (is_reached n next)) where
      next_member : IsTrue (is_member n i next)
      next_member = grind (arith, nat_tests, h.numbered.class next i, h.below, h.are.each j)

      next_parts : Parts (read (k + 1)) (read k) (λ t. eqb t next)
      next_parts s = grind (arith, nat_tests, there s, next_member, h.are.each j)

      -- The loop of `read_class` reads the transitions of the members of a class, one member after the other. Let
      -- `next` be the member that is read next. The number of transitions of `next`, plus the number of transitions of
      -- the members that were read before, is at most the number of transitions of all members of the class.
      pub fits : length (rows_of (read k) g.places) + length (row_of next g.places)
          ≤ length (rows_of (is_member n i) g.places)
      fits = omega (arith, rows_part _ _ _ next_parts g.places, read_few (k + 1))

      module _ {new : Counts} (row : Costs mid new 0 0 (length (row_of next g.places))) where
        pub read_visits : Costs old new 0 0 (length (rows_of (is_member n i) g.places))
        read_visits = visits_then h.visits row fits

        module _ {more : List Triple} (put : more ≡ class ++ shown_by g n next) where
          shown_next : HasShown g n (read (k + 1)) more
          shown_next = rw put (shown_with next_parts h.shown (shown_row next))

          pub read_next : IsReadTo g n i members (k + 1) more old new
          read_next =
              let few = rows_part _ _ _ next_parts g.places in
              let visits : let own = rows_of (read (k + 1)) g.places in Costs old new 0 0 (length own) =
              visits_then h.visits row (omega (arith, few)) in
              search (rules, h, shown_next, visits)

          -- A quotient transition is a transition between quotient states. The quotient leaves out inert transitions.
          -- Suppose that the loop of `read_class` has just read the transitions of the member `next` of a class, and
          -- that no transition of `next` is left out. Then the quotient transitions that the loop has collected so far,
          -- including the quotient transitions of `next`, are all quotient transitions of the class.
          pub read_enough : ShowEachOther g n → length (shown_by g n next) ≡ length (row_of next g.places) →
              HasShown g n (is_member n i) more
          read_enough also whole = record {
            exactly = λ x. (
              λ c. let f = (shown_next.exactly x).0 c in (f.0, grind (arith, f.1), f.2),
              λ f. (shown_next.exactly x).1 (
                next,
                grind (arith, nat_tests, next_member, h.are.each j),
                also next f.0 way (grind (arith, f.1)) (grind (arith, nat_tests, next_member, f.1)) whole x f.2,
              ),
            );
            few = omega (arith, shown_next.few, read_few (k + 1));
          }
