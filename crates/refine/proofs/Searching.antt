-- Lemmas about a search along inert transitions, which are internal transitions within a block. Some lemmas show how
-- the data of the search changes when the search explores a transition. Other lemmas show that, at the end of the
-- search, the collected pairs are the branching signature of the state at which the search began.
use Rattle.std.proofs.Common.{rules, ◌≡◌, ◌∙◌, ◌↔◌, ℕ, ◌+◌, ◌<◌, ◌≤◌, Bool, true, false, cond, eqb, IsTrue, List, []}
use Rattle.std.proofs.Common.{◌∷◌, ◌++◌, length, set, take, slice_index, slice_index_or, Contains, ap, sym, subst, refl}
use Rattle.std.proofs.Common.{inl, inr, arith, below_more, length-set, take_at, take_all}
use Rattle.std.proofs.lemmas.List.Elements.{All-push, All-contains, All-from_get_or, All-from_recursion, Contains-push}
use Rattle.std.proofs.lemmas.List.Elements.{Contains-push_cases, Contains-append_left}
use Rattle.std.proofs.lemmas.List.Sums.{length-filter, count_by-le-length, get_or-le-sum_by, sum_by-cons}
use Rattle.std.proofs.lemmas.Map.Keys.{IsDistinct-head, IsDistinct-tail}
use Rattle.std.proofs.lemmas.{Grind.common_steps, Bool.Decides.nat_tests, List.length_push, List.get_or_append_left}
use Rattle.std.proofs.lemmas.{List.Folds.list_any_none, List.Sums.sum_by_more_le}
use Rattle.std.specs.List.{IsDistinct, filter, list_any, sum_by}
use Rattle.std.specs.{Io.StartsWith, List.Sorted.IsStrictlySortedBy}
use Rattle.std.proofs.Transfers.{starts_with_of_eq, starts_with_trans}
use Rattle.theory.specs.System.{System, Step, Leads, internal}
use Rattle.theory.specs.{declared.relation.Relation.TheVariants.Branching, Blocks.Inert}
use Rattle.lts.specs.Labels.{text_of}
use Rattle.lts.specs.Lts.{Triple, source_of, label_of, target_of, row_of, place_at, system_of, IsTriple, IsLts}
use Rattle.lts.proofs.CallerLemmas.{length-filter-sum, step_at, place_step}
use Rattle.signatures.specs.Lists.{pair_cmp}
use Rattle.inert.specs.declared.lens.Step.TheVariants.{Inert as Goes, Shows}
use Rattle.inert.specs.{Signed.HasPair, Signed.IsSignature, Signed.pair_under, Steps.Under, Steps.IsInert, Steps.IsStep}
use Rattle.inert.specs.{Search.LeadsInertly, Search.Laws, declared.lens.Step.Step as RowStep}
use Rattle.refine_core.specs.Index.{IsUnmarked}
use Rattle.partition.proofs.CallerLemmas.{in_one}
use Rattle.refine_core.proofs.CallerLemmas.{none_marked, marked_more, found_few}
use Rattle.refine.specs.Search.{FoundStates, WasFound, Reaches, ExploresStep, IsExplored, FindsFrom, Continues}

module _ (places : List Triple) where
  -- Returns the number of transitions of the state t.
  abbrev pub row_length : ℕ → ℕ
  row_length t = length (row_of t places)

  -- Suppose that no state occurs twice in a list of states. Then the sum of the numbers of transitions of these states
  -- equals the number of transitions of the system whose sources are in the list.
  rows_sum : (xs : List ℕ) → IsDistinct eqb xs
      → sum_by row_length xs ≡ length (filter (λ e. list_any (eqb (source_of e)) xs) places)
  rows_sum [] once = omega (arith, length-filter-sum (λ _. false) (λ _. false) (λ _. false) (λ _. refl) places)
  rows_sum (x ∷ xs) once =
      let off = list_any_none (eqb x) xs (All-from_recursion _ xs (IsDistinct-head eqb x xs once)) in
      let parts : (s : ℕ) → cond (list_any (eqb s) (x ∷ xs)) 1 0 ≡ cond (eqb s x) 1 0 + cond (list_any (eqb s) xs) 1 0 =
      λ s. grind (arith, nat_tests, off) in
      omega (
        arith,
        sum_by-cons row_length x xs,
        rows_sum xs (IsDistinct-tail eqb x xs once),
        length-filter-sum (λ e. list_any (eqb (source_of e)) (x ∷ xs)) (λ e. eqb (source_of e) x)
            (λ e. list_any (eqb (source_of e)) xs) (λ e. parts (source_of e)) places,
      )

  -- Suppose that no state occurs twice in a list of states. Then the states in the list together have at most as many
  -- transitions as the whole system.
  rows_few : (xs : List ℕ) → IsDistinct eqb xs → sum_by row_length xs ≤ length places
  rows_few xs once = search (rules, rows_sum, length-filter, count_by-le-length)

  -- Suppose that no state occurs twice in a list of more than i states. Then the first i states of the list and the
  -- state after them have, together, at most as many transitions as the whole system.
  pub rows_room : (xs : List ℕ) (i : ℕ) → IsDistinct eqb xs → i < length xs
      → sum_by row_length (take i xs) + row_length (slice_index xs i) ≤ length places
  rows_room xs i once h = omega (arith, rows_few xs once, sum_by_more_le row_length xs i 0 h)

  -- Suppose that no state occurs twice in a list of states, and that the list is not empty. Then the number of
  -- transitions of all states in the list is at least the number of transitions of its first state. This number is at
  -- most the number of transitions of the whole system.
  pub rows_all : (xs : List ℕ) (i : ℕ) → IsDistinct eqb xs → length xs ≤ i → 0 < length xs
      → (row_length (slice_index xs 0) ≤ sum_by row_length (take i xs))
      × (sum_by row_length (take i xs) ≤ length places)
  rows_all xs i once long some = rw (take_all i xs long) (get_or-le-sum_by row_length xs 0 0 some, rows_few xs once)

-- A set of lemmas for the prover. They bound the number of states that a search has found, and the number of
-- transitions of these states.
pub ruleset search_bounds = (rows_room, rows_all, found_few)

-- `ReadsRow` is the invariant of the loop in which a search reads the transitions of one found state. This state is at
-- the index i in the list of found states. The place of a transition is its index in the list of all transitions, and
-- the first transition of the found state is at the place `start`. The data of the search was `first` before the loop,
-- and is f now. The invariant holds if both of the following conditions hold. First, the invariant of the search
-- (`FindsFrom`) holds for f, and the list of found states in f begins with all found states of `first` (`Continues`).
-- Second, the search has explored the transitions at the places j with `start` <= j < k (`IsExplored`).
pub record ReadsRow (u : Under) (s : ℕ) (first : FoundStates) (i start k : ℕ) (f : FoundStates) : Type 0 where
  pub on : Continues u s first f i
  pub taken : (j : ℕ) → j < k → start ≤ j → IsExplored u s f (place_at u.l.places j)

module _ (u : Under) (s : ℕ) (lts : IsLts u.l) (laws : Laws)
    (stays : (A : System) (blocks : ℕ → ℕ) (s t : ℕ) → Leads (Inert A blocks) s t → blocks t ≡ blocks s) where
  abbrev A : System
  A = system_of u.l

  abbrev blocks : ℕ → ℕ
  blocks = slice_index u.blocks

  -- In the following lemmas, a search that began at the state s reads the transitions of the state x. Inert transitions
  -- lead from s to x. The transition e is a transition of x, and its place (its index in the list of all transitions)
  -- is k. The data of the search is `old`, and the search has explored the transitions of x at smaller places
  -- (`ReadsRow`).
  module _ {first old : FoundStates} {i start k x : ℕ} (was : ReadsRow u s first i start k old)
      (led : LeadsInertly u s x) (at : k < length u.l.places) (from : source_of (place_at u.l.places k) ≡ x) where
    abbrev e : Triple
    e = place_at u.l.places k

    found : FindsFrom u s old i
    found = was.on.search

    its_step : Step A x (text_of u.l.labels (label_of e)) (target_of e)
    its_step = rw from at (place_step u.l k at)

    -- Suppose that the transition e is inert. Then inert transitions lead from s to the target of e.
    leads_on : IsInert u (blocks s) e → LeadsInertly u s (target_of e)
    leads_on inert =
        laws.after A blocks s x (target_of e) led (
          subst (λ a. Step A x a (target_of e)) inert.0 its_step,
          inert.1 ∙ sym (stays A blocks s x led),
        )

    -- Let `new` be the data of the search after the search has read the transition e. Suppose that the invariant of the
    -- search (`FindsFrom`) holds for `new`, and that the search has explored e (`IsExplored`). Suppose also that the
    -- list of found states in `new` begins with all found states of `old`, and that each transition that was explored
    -- in `old` is also explored in `new`. Then `ReadsRow`, the invariant of the loop that reads the transitions of x,
    -- holds for `new` if k is replaced by k + 1.
    reads : (new : FoundStates) → StartsWith new.states old.states → FindsFrom u s new i
        → ((e' : Triple) → IsExplored u s old e' → IsExplored u s new e') → IsExplored u s new e
        → ReadsRow u s first i start (k + 1) new
    reads new kept search keeps now = record {
      on = record { search = search; kept = starts_with_trans _ _ _ kept was.on.kept };
      taken = below_more _ k (λ j low high. keeps _ (was.taken j low high)) (λ _. now);
    }

    -- Suppose that the transition e is inert, and that the search reaches the target of e (`Reaches`). Then `ReadsRow`,
    -- the invariant of the loop that reads the transitions of x, holds for the data after this step if k is replaced by
    -- k + 1.
    goes : (new : FoundStates) → IsInert u (blocks s) e → Reaches (target_of e) old new
        → ReadsRow u s first i start (k + 1) new
    goes new inert (inl (was, is)) =
        rw is (reads old (starts_with_of_eq _ _ refl) found (λ e' h. h) (search rules))
    goes new inert (inr (off, is)) =
        let t = target_of e in
        let below : t < length old.marked = omega (arith, found.size, (lts.in_range.each k (0, 0, 0) at).target) in
        let after : FoundStates = record old { marked = set old.marked t true; states = old.states ++ t ∷ [] } in
        let keeps : (e' : Triple) → IsExplored u s old e' → IsExplored u s after e' = search rules in
        rw is (reads after (take_at old.states (t ∷ []) _ refl) (record {
          size = length-set old.marked t true ∙ found.size;
          marked = marked_more old.marked old.states t below off found.marked;
          first = grind (arith, common_steps, found.first);
          led = λ j h. All-push (LeadsInertly u s) old.states t
              (All-from_get_or (LeadsInertly u s) old.states 0 found.led) (leads_on inert) j 0 h;
          few = omega (arith, length_push old.states t, found.few);
          own = found.own;
          taken = λ j h. rw (get_or_append_left old.states (t ∷ []) 0 j (omega (arith, h, found.few)))
              (λ k l is. keeps _ (found.taken j h k l is));
        }) keeps (search rules))

    -- Suppose that the transition e is not inert, and that the search collects the pair (label ID, target block) of e.
    -- Then `ReadsRow`, the invariant of the loop that reads the transitions of x, holds for the data after this step if
    -- k is replaced by k + 1.
    collects : (z : ℕ × ℕ) (new : FoundStates) → ¬ IsInert u (blocks s) e → z ≡ pair_under u.blocks e →
        new ≡ record old { pairs = old.pairs ++ z ∷ [] } → ReadsRow u s first i start (k + 1) new
    collects z new other pair is =
        let after : FoundStates = record old { pairs = old.pairs ++ z ∷ [] } in
        let keeps : (e' : Triple) → IsExplored u s old e' → IsExplored u s after e' = λ e' h. record {
          followed = h.followed;
          shown = λ other. Contains-append_left old.pairs (z ∷ []) (pair_under u.blocks e') (h.shown other);
        } in
        let has : HasPair Branching u.l u.blocks s z.0 z.1 = rw pair
        ((lts.in_range.each k (0, 0, 0) at).label, (x, target_of e, led, its_step, refl, other)) in
        let own : (y : ℕ × ℕ) → Contains after.pairs y → HasPair Branching u.l u.blocks s y.0 y.1
        = λ y c. elim (Contains-push_cases old.pairs z y c) [
          | inl d ↦ found.own y d
          | inr same ↦ subst (λ p. HasPair Branching u.l u.blocks s p.0 p.1) same has
        ] in
        rw is (reads after (starts_with_of_eq _ _ refl) (search (rules, own, keeps, found.taken)) keeps (record {
          followed = λ inert. absurd (other inert);
          shown = λ _. rw (← pair) (Contains-push old.pairs z);
        }))

    -- Suppose that the search explores the transition e, which may be inert or not (`ExploresStep`). Then `ReadsRow`,
    -- the invariant of the loop that reads the transitions of x, holds for the data after this step if k is replaced by
    -- k + 1.
    pub went : (step : RowStep) (new : FoundStates) → IsStep u (blocks s) e step → ExploresStep step old new
        → ReadsRow u s first i start (k + 1) new
    went (Goes t) new (inert, is) reaches = goes new inert (subst (λ t. Reaches t old new) is reaches)
    went (Shows a b) new (other, is) takes = collects (a, b) new other is takes

  -- The following lemmas assume that the search has explored all transitions of all states that it has found.
  module _ (kept : (A : System) (blocks : ℕ → ℕ) (has : ℕ → Bool) →
      ((s t : ℕ) → Inert A blocks s t → IsTrue (has s) → IsTrue (has t))
      → (s t : ℕ) → Leads (Inert A blocks) s t → IsTrue (has s) → IsTrue (has t))
      (f : FoundStates) (search : FindsFrom u s f (length f.states)) where
    -- Suppose that the search has found the state x, and that a step with the label a leads from x to the state y. Then
    -- there is a transition e that represents this step, and the search has explored e.
    explored : (x : ℕ) (a : List ℕ) (y : ℕ) → WasFound f x → Step A x a y → (e : Triple) × (IsExplored u s f e
        × IsTriple (length u.l.labels) u.l.states e) × (text_of u.l.labels (label_of e) ≡ a) × (target_of e ≡ y)
    explored x a y on step =
        let (k, at, source, label, target) = step_at u.l x a y step in
        let (j, below, is) = search.marked.all x on in
        let done = search.taken j below k at (source ∙ sym is) in
        (place_at u.l.places k, (done, lts.in_range.each k (0, 0, 0) at), label, target)

    all_led : (x : ℕ) → WasFound f x → LeadsInertly u s x
    all_led x on = let one = search.marked.all x on in subst (LeadsInertly u s) one.2 (search.led one.0 one.1)

    closed : (x y : ℕ) → Inert A blocks x y → WasFound f x → WasFound f y
    closed x y inert on =
        let (e, (done, triple), label, target) = explored x internal y on inert.0 in
        subst (WasFound f) target
        (done.followed (label, ap blocks target ∙ inert.1 ∙ stays A blocks s x (all_led x on)))

    -- Suppose that inert transitions lead from the state s, at which the search began, to the state x. Then the search
    -- has found x.
    all_found : (x : ℕ) → LeadsInertly u s x → WasFound f x
    all_found x ties =
        kept A blocks (λ y. slice_index_or f.marked y false) closed s x ties
        (All-contains (λ y. IsTrue (slice_index_or f.marked y false)) f.states s search.marked.each
        (in_one f.states s (0, search.first.0, search.first.1)))

    has_pair : (k b : ℕ) → HasPair Branching u.l u.blocks s k b → Contains f.pairs (k, b)
    has_pair k b (below, (x, t, ties, step, block, other)) =
        let (e, (done, triple), label, target) = explored x (text_of u.l.labels k) t (all_found x ties) step in
        let number = lts.table.different (label_of e) k triple.label below label in
        let is : pair_under u.blocks e ≡ (k, b) = λ i. (number i, (ap blocks target ∙ block) i) in
        subst (Contains f.pairs) is
        (done.shown (λ inert. other (sym label ∙ inert.0, sym block ∙ ap blocks (sym target) ∙ inert.1)))

    -- Suppose that the collected pairs (label ID, block ID) are sorted in ascending order, and that duplicates are
    -- removed. Then the result is the branching signature of the state s, at which the search began.
    pub signed : (zs : List (ℕ × ℕ)) → IsStrictlySortedBy pair_cmp zs →
        ((z : ℕ × ℕ) → Contains zs z ↔ Contains f.pairs z) → IsSignature Branching u.l u.blocks s zs
    signed zs ascending same = record {
      exactly = λ k b. (λ c. search.own (k, b) ((same (k, b)).0 c), λ h. (same (k, b)).1 (has_pair k b h));
      ascending = ascending;
    }

-- Suppose that a search has found no state and collected no pair, and that no state is marked. Suppose that the search
-- then reaches the state s as its first state. Then the invariant of the search (`FindsFrom`) holds: the search has
-- found s, and has not explored any transition yet.
pub begun : (u : Under) (s : ℕ) (marked : List Bool) (new : FoundStates) → Laws → s < length marked
    → length marked ≡ u.l.states → IsUnmarked marked
    → Reaches s (record { marked = marked; states = []; pairs = [] }) new → FindsFrom u s new 0
begun u s marked new laws below size off (inl (was, is)) = absurd (off s was)
begun u s marked new laws below size off (inr (now, is)) = subst (λ f. FindsFrom u s f 0) (sym is)
    (search (rules, size, marked_more marked [] s below (off s) (none_marked marked off)))
