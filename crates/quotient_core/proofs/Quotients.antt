-- The class number of a reachable state is the number of the quotient state that represents this state. The first
-- lemmas of this file are about the invariant (`Taken`) of the loop of `number`, which goes through the states in
-- ascending order, and assigns class numbers to them. The invariant holds before the loop. If it holds before the loop
-- processes a state, it still holds afterwards. After the last state, the invariant implies that all class numbers are
-- correct.
--
-- A quotient transition is a triple (source, label ID, target) that comes from a transition of the system. The source
-- and the target of this transition are replaced by their class numbers. If the quotient leaves out the resulting
-- triple, it is not a quotient transition. The next lemmas of this file prove that the quotient transitions of all
-- reachable states are exactly the transitions of the quotient. The last lemma proves `ShowEachOther`. Suppose that two
-- states s and t have the same class number, and that the quotient leaves out no transition of s. Then each quotient
-- transition of t is also a quotient transition of s.
use Rattle.std.proofs.Common.{◌≡◌, ◌≢◌, ◌∙◌, ◌⊎◌, ◌↔◌, ℕ, suc, ◌+◌, ◌<◌, ◌≤◌, Bool, IsTrue, [], ◌∷◌, length}
use Rattle.std.proofs.Common.{slice_index, replicate, set, refl, sym, ap, subst, inl, inr, arith, rules, true, not}
use Rattle.std.proofs.Common.{List, map, get_or, Contains, IsPermutation, AllPairs, length-set}
use Rattle.std.proofs.lemmas.{Grind.common_steps, Grind.elements, List.Filters.length-filter_both}
use Rattle.std.proofs.lemmas.Bool.{cases_eq, cases_lt, both_ways, false_from_ne_true}
use Rattle.std.proofs.lemmas.List.{get_or-replicate, length-replicate, length_push, length-map, get_or-map}
use Rattle.std.proofs.lemmas.List.Elements.{All-contains, Contains-get_or}
use Rattle.std.proofs.lemmas.List.Sorted.{IsPermutation-map, IsPermutation-sym}
use Rattle.theory.specs.{System.System, System.IsSystem, System.Reachable, System.Step, Bisimulation.Bisimilar}
use Rattle.theory.specs.{declared.relation.Relation.Relation, Blocks.EachTwo}
use Rattle.theory.specs.Quotient.{Fellow, Leader, IsLeader, Number, IsQuotientStep, IsDropped, ShowsNothing, Quotient}
use Rattle.theory.specs.declared.relation.Relation.TheVariants.{Strong, Branching}
use Rattle.quotient_core.specs.{Numbers.TakesState, Numbers.IsNumbering, declared.numbering.Numbers.Numbers}
use Rattle.quotient_core.specs.{declared.numbering.TheConstants.NONE, declared.numbering.Numbering.Numbering}
use Rattle.quotient_core.specs.Triples.{number_of, between_numbers, is_left_out, is_reached, HasShown, ShowEachOther}
use Rattle.theory.proofs.CallerLemmas.{reachable_below, is_leader_itself, number_once, number_carried, first_number}
use Rattle.theory.proofs.CallerLemmas.{place, place_next, place_few, placed_number, reachable_on, numbers_classes}
use Rattle.theory.proofs.CallerLemmas.{all_made, quotient_reordered}
use Rattle.lts.specs.Labels.{text_of, IsTable}
use Rattle.lts.specs.Lts.{Triple, source_of, label_of, target_of, row_of, transition_of, system_from, system_of}
use Rattle.lts.specs.Lts.{IsTriple, InRange, IsLts, Grouped, IsBuilt}
use Rattle.lts.proofs.CallerLemmas.{contains_mapped, mapped_contains, contains_passing, row_of-contains, row_steps}
use Rattle.quotient_core.proofs.Showing.{shown_by-contains}

-- `number_at` is the entry that the table `by_block` of n contains for the block of the state t. The entry is the class
-- number of this block, which is the number of the quotient state that represents the reachable states of the block. If
-- the block has no class number yet, the entry is `NONE`.
abbrev pub number_at : (ℕ → ℕ) → Numbers → ℕ → ℕ
number_at block n t = slice_index n.by_block.items (block t)

-- `Taken` is the invariant of the loop that assigns class numbers to the states. The class number of a reachable state
-- is the number of the quotient state that represents this state. The class number of a block is the number of the
-- quotient state that represents the reachable states of the block. The invariant is about the data n of the loop after
-- the loop has processed all states that are less than s. It holds if all six of the following conditions hold. First,
-- the table `by_block` contains one entry for each of the `count` blocks. Second, the list of classes contains the ID
-- of each block that has a class number, at the index that equals this class number, and contains no other IDs. Third,
-- the block of the first state has the class number 0. Fourth, the list of class numbers contains one entry for each
-- state less than s. If such a state is reachable, the entry is the class number of its block. Fifth, if the block of a
-- reachable state has a class number, this number is correct. Sixth, the number of classes is 1 plus the number of
-- leaders (states that represent their classes) that are less than s and differ from the first state (`place`).
pub record Taken (rel : Relation) (A : System) (block : ℕ → ℕ) (count s : ℕ) (n : Numbers) : Type 0 where
  pub room : length n.by_block.items ≡ count
  pub below : (i : ℕ) → i < length n.classes.items → slice_index n.classes.items i < count
  pub low : (b : ℕ) → b < count → slice_index n.by_block.items b ≢ NONE →
      slice_index n.by_block.items b < length n.classes.items
  pub tied : (b i : ℕ) → b < count → i < length n.classes.items →
      (slice_index n.classes.items i ≡ b) ↔ (slice_index n.by_block.items b ≡ i)
  pub first : number_at block n A.first ≡ 0
  pub numbers_long : length n.numbers.items ≡ s
  pub seen : (t : ℕ) → t < s → Reachable A t →
      (slice_index n.numbers.items t ≡ number_at block n t) × (number_at block n t ≢ NONE)
  pub number : (t : ℕ) → Reachable A t → number_at block n t ≢ NONE → Number rel A t (number_at block n t)
  pub counted : (sys : IsSystem A) → length n.classes.items ≡ suc (place rel A sys s)

-- The class number of a reachable state is the number of the quotient state that represents this state. If the loop has
-- processed a reachable state, its entry in the list of class numbers is its class number (`Taken-number`). The list of
-- classes contains the block ID of this state at this number, and at no other index (`Taken-class`).
module _ {rel : Relation} {A : System} {block : ℕ → ℕ} {count s : ℕ} {n : Numbers} (h : Taken rel A block count s n)
    (t : ℕ) (low : t < s) (way : Reachable A t) where
  pub Taken-number : Number rel A t (slice_index n.numbers.items t)
  Taken-number = let seen = h.seen t low way in rw seen.0 (h.number t way seen.1)

  pub Taken-class : (i : ℕ) → block t < count → (slice_index n.numbers.items t ≡ i)
      ↔ ((i < length n.classes.items) × (slice_index n.classes.items i ≡ block t))
  Taken-class i inside = let seen = h.seen t low way in
      rw seen.0 (grind (arith, h.low (block t) inside seen.1, h.tied (block t) i inside))

-- These lemmas assume that two states share a block if and only if they are bisimilar.
module _ (rel : Relation) (A : System) (block : ℕ → ℕ) (sys : IsSystem A)
    (same : EachTwo A (λ s t. (block s ≡ block t) ↔ Bisimilar rel A s A t)) (count : ℕ)
    (inside : (t : ℕ) → t < A.states → block t < count) where
  share : (s t : ℕ) → Reachable A s → Reachable A t → (block s ≡ block t) ↔ Bisimilar rel A s A t
  share s t ws wt = same s t (reachable_below A sys s ws) (reachable_below A sys t wt)

  -- The following lemmas are about the step in which the loop assigns a class number to the state s. The class number
  -- of s is the number of the quotient state that represents s.
  module _ (s : ℕ) (old new : Numbers) (reached : Bool) (is_reached : IsTrue reached ↔ Reachable A s)
      (ls : s < A.states) (less : s + 1 < NONE) (h : Taken rel A block count s old)
      (takes : TakesState (block s) reached old new) where
    abbrev classes : ℕ
    classes = length old.classes.items

    few : classes ≤ s + 1
    few = omega (arith, h.counted sys, place_few rel A sys s)

    -- The list of classes contains the block ID of each class. When the loop processes the state s, at most one entry
    -- is added to this list: the block ID of s, at the end of the list. All other entries stay the same.
    class_at : (i : ℕ) → i < length new.classes.items → ((i < classes)
        × (slice_index new.classes.items i ≡ slice_index old.classes.items i))
        ⊎ (IsTrue reached × (number_at block old s ≡ NONE) × (i ≡ classes)
        × (slice_index new.classes.items i ≡ block s))
    class_at i l = grind (arith, common_steps, takes.classes)

    -- The table `by_block` contains the class number of each block, or `NONE` if the block has no class number yet.
    -- When the loop processes the state s, the entry of the block of s stays the same, or changes from `NONE` to the
    -- next class number. The entries of all other blocks do not change.
    at : (b : ℕ) → ((slice_index new.by_block.items b ≡ slice_index old.by_block.items b) × (b ≡ block s →
        IsTrue reached → slice_index old.by_block.items b ≢ NONE)) ⊎ (IsTrue reached × (number_at block old s ≡ NONE)
        × (b ≡ block s) × (slice_index old.by_block.items b ≡ NONE) × (slice_index new.by_block.items b ≡ classes))
    at b =
        grind (arith, elements, takes.classes, cases_eq b (block s), h.room, inside s ls)

    -- If the state s is the leader of its class, which means that s represents this class, and s is not the first state
    -- of the system, then the class number of s is the next class number that the loop assigns.
    next_number : Leader rel A s s → s ≢ A.first → Number rel A s classes
    next_number leader other = rw (h.counted sys) (placed_number rel A sys s s _ leader (inr (other, refl)))

    -- The following lemmas assume that s is reachable, and that its block has no class number yet. The block then gets
    -- the next class number, which is the number of a new state of the quotient.
    module _ (marked : IsTrue reached) (none : number_at block old s ≡ NONE) where
      way : Reachable A s
      way = is_reached.0 marked

      apart : block A.first ≢ block s
      apart e = absurd (omega (arith, h.first, ap (slice_index old.by_block.items) e, none))

      other : s ≢ A.first
      other e = apart (ap block (sym e))

      -- If the state s is reachable, and its block has no class number yet, then s is the leader of its class, which
      -- means that s represents this class. The state s is the smallest reachable state of the class, and the class
      -- does not contain the first state of the system.
      leads : Leader rel A s s
      leads =
          let least = λ (k : ℕ) (fellow : Fellow rel A s k).
          let same = (share s k way fellow.0).1 fellow.1 in
          let seen = λ (l : k < s). (h.seen k l fellow.0).1 in
          let low : s ≤ k = grind (arith, cases_lt k s, seen, ap (slice_index old.by_block.items) same, none) in
          low in
          let own = (share s s way way).0 refl in
          inr (λ b. apart (sym ((share s A.first way ([], refl)).1 b)), ((way, own), least))

    -- The leader of a class is the state that represents this class. Suppose that the state s is not reachable, or that
    -- its block already has a class number. Then s is not a leader, unless s is the first state of the system.
    not_other : (IsTrue reached → number_at block old s ≢ NONE) → ¬ (IsLeader rel A s × (s ≢ A.first))
    not_other joins (lead, other) =
        let own : Reachable A s × Leader rel A s s = is_leader_itself rel A sys s lead in
        let some = joins (is_reached.1 own.0) in
        let is = number_once rel A sys s _ _ (h.number s own.0 some) (next_number own.1 other) in
        absurd (omega (arith, is, h.low (block s) (inside s ls) some))

    -- Suppose that the invariant of the loop (`Taken`) holds before the loop processes the state s. Then the invariant
    -- holds afterwards if s is replaced by s + 1.
    pub Taken-adds : Taken rel A block count (s + 1) new
    Taken-adds = record {
      room = grind (arith, length-set {A = ℕ}, takes.classes, h.room);
      below = λ i l. grind (arith, class_at i l, h.below i, inside s ls);
      low = λ b l some. grind (arith, at b, h.low b l, takes.classes, length_push old.classes.items (block s));
      tied = λ b i l below. grind (arith, h.tied b i l, at b, class_at i below, h.low b l, few, less);
      first = grind (arith, at (block A.first), h.first);
      numbers_long = rw takes.numbers (omega (arith, length_push {X = ℕ}, h.numbers_long));
      seen = λ t l path.
          let own = λ (e : t ≡ s). is_reached.1 (subst (Reachable A) e path) in
          let before = λ (e : t < s). h.seen t e path in
          rw takes.numbers (grind (arith, common_steps, h.numbers_long, before, at (block t), own, few, less, l));
      number = λ t path some. elim (at (block t)) [
        | inl (is, _) ↦ rw is (h.number t path (λ none. some (is ∙ none)))
        | inr (marked, none, e, _, is) ↦ rw is (number_carried rel A sys s t classes
            ((share s t (way marked none) path).0 (sym e)) (next_number (leads marked none) (other marked none)))
      ];
      counted = λ sys'. elim (place_next rel A sys' s) [
        | inl (is_other, up) ↦ elim takes.classes [
          | inl (_, _, e, _) ↦ omega (arith, ap length e, length_push old.classes.items (block s), h.counted sys', up)
          | inr (joins, _, _) ↦ absurd (not_other joins is_other)
        ]
        | inr (not, up) ↦ elim takes.classes [
          | inl (marked, none, _, _) ↦ absurd (not ((s, way marked none, leads marked none), other marked none))
          | inr (_, e, _) ↦ omega (arith, ap length e, h.counted sys', up)
        ]
      ];
    }

  -- The invariant of the loop (`Taken`) holds before the loop processes any state. At this time, only the block of the
  -- first state of the system has a class number, which is 0. The class number of a block is the number of the quotient
  -- state that represents the reachable states of the block.
  pub Taken-start : (n : Numbers) → n.by_block.items ≡ set (replicate count NONE) (block A.first) 0 →
      n.numbers.items ≡ [] → n.classes.items ≡ block A.first ∷ [] → Taken rel A block count 0 n
  Taken-start n by_block numbers classes = record {
    room = rw by_block (omega (arith, length-set {A = ℕ}, length-replicate {A = ℕ}));
    below = rw classes (λ i l. grind (arith, common_steps, inside A.first sys.first));
    low = λ b l some. grind (arith, at b l, some, ap length classes);
    tied = λ b i l. rw classes (λ below. grind (arith, common_steps, at b l));
    first = grind (arith, at (block A.first) (inside A.first sys.first));
    numbers_long = ap length numbers;
    seen = λ t l. absurd (omega (arith, l));
    number = λ t path some. elim (at (block t) (inside t (reachable_below A sys t path))) [
      | inl (e, is) ↦ rw is (number_carried rel A sys A.first t 0 ((share A.first t ([], refl) path).0 (sym e))
          (first_number rel A sys))
      | inr (_, is) ↦ absurd (some is)
    ];
    counted = λ sys'. omega (arith, ap length classes, place_few rel A sys' 0);
  }
    where
      at : (b : ℕ) → b < count → ((b ≡ block A.first) × (slice_index n.by_block.items b ≡ 0))
          ⊎ ((b ≢ block A.first) × (slice_index n.by_block.items b ≡ NONE))
      at b l =
          let blank = get_or-replicate count b NONE 0 l in
          let size = length-replicate {A = ℕ} count NONE in
          rw by_block (grind (arith, elements, cases_eq b (block A.first), blank, size, inside A.first sys.first))

-- A triple (source, label ID, target) denotes the transition with this source, this target, and the label with this ID.
-- Suppose that the triples of a list are pairwise different, and that the label table contains a label for each of
-- their label IDs. Then the transitions that these triples denote are pairwise different.
transitions_differ : (labels : List (List ℕ)) (es : List Triple) → IsTable labels →
    ((x : Triple) → Contains es x → label_of x < length labels) →
    AllPairs (λ x y. x ≢ y) es → AllPairs (λ e f. e ≢ f) (map (transition_of labels) es)
transitions_differ labels es table within once i j d low high same =
    let lj : j < length es = omega (arith, high, length-map es (transition_of labels)) in
    let li : i < length es = omega (arith, low, lj) in
    let e : transition_of labels (get_or es i (0, 0, 0)) ≡ transition_of labels (get_or es j (0, 0, 0)) =
    search (rules, get_or-map, li, lj) in
    let label = table.different _ _ (within _ (Contains-get_or es i (0, 0, 0) li))
    (within _ (Contains-get_or es j (0, 0, 0) lj)) (ap (λ t. t.label) e) in
    once i j (0, 0, 0) low lj (λ k. (ap (λ t. t.source) e k, label k, ap (λ t. t.target) e k))

-- Let x be a triple (source, label ID, target), let s and t be states, and let a be the label of x. Suppose that the
-- source of x equals its target if and only if s and t are bisimilar. Then the quotient drops the transition that x
-- denotes if and only if the step s -a-> t is inert (`ShowsNothing`).
dropped_is : (rel : Relation) (A : System) (labels : List (List ℕ)) (x : Triple) (s t : ℕ) →
    (source_of x ≡ target_of x) ↔ Bisimilar rel A s A t →
    IsDropped rel (transition_of labels x) ↔ ShowsNothing rel A s (text_of labels (label_of x)) t
dropped_is Strong A labels x s t same = (λ gone. gone, λ gone. gone)
dropped_is Branching A labels x s t same = (λ h. (h.0, same.0 h.1), λ h. (h.0, same.1 h.1))

-- These lemmas assume that the program has assigned the correct class number to each reachable state of the system g.
-- The class number of a state is the number of the quotient state that represents this state.
module _ {rel : Relation} {g : Grouped} {n : Numbering} (is : IsNumbering rel g n) (lts : IsLts g) where
  abbrev A : System
  A = system_of g

  -- The row of a state is the list of its transitions. If a transition is in the row of a state, its source and its
  -- target are states of the system, and its label ID is the ID of a label in the label table.
  in_range : (s : ℕ) (e : Triple) → Contains (row_of s g.places) e → IsTriple (length g.labels) g.states e
  in_range s e c = All-contains (IsTriple (length g.labels) g.states) g.places e lts.in_range.each
      ((row_of-contains s g.places e).0 c).0

  -- The row of a state is the list of its transitions. If the state s is reachable, then the target of each transition
  -- in the row of s is reachable.
  way_on : (s : ℕ) (e : Triple) → Contains (row_of s g.places) e → Reachable A s → Reachable A (target_of e)
  way_on s e c way = reachable_on A s _ (target_of e) way ((row_steps g s _ _).1 (e, c, refl, refl))

  -- The class number of a reachable state is less than the number of classes.
  below : (s : ℕ) → Reachable A s → number_of n s < length n.classes.items
  below s way = ((is.numbered.class s (number_of n s) ((is.reached s).1 way)).0 refl).0

  module _ (es : List Triple) (shown : HasShown g n (is_reached n) es) (once : AllPairs (λ x y. x ≢ y) es) where
    -- A quotient transition is a triple (source, label ID, target) between quotient states that comes from a transition
    -- of the system, and that the quotient does not leave out. Let the list `es` contain exactly the quotient
    -- transitions of all reachable states. Then the following holds for each triple in `es`. The source and the target
    -- of the triple are less than the number of classes, and its label ID is the ID of a label in the label table. The
    -- triple comes from a step of a reachable state, and the quotient does not drop the transition that the triple
    -- denotes.
    each_is : (x : Triple) → Contains es x → IsTriple (length g.labels) (length n.classes.items) x
        × IsQuotientStep rel A (transition_of g.labels x) × ¬ IsDropped rel (transition_of g.labels x)
    each_is x c =
        let (s, m, d) = (shown.exactly x).0 c in
        let way = (is.reached s).0 m in
        let (e, in_row, from, stays) = (shown_by-contains g n s x).0 d in
        let on = way_on s e in_row way in
        rw (← from) (
          record { source = below s way; label = (in_range s e in_row).label; target = below (target_of e) on },
          (s, target_of e, way, (row_steps g s _ _).1 (e, in_row, refl, refl), is.number s way, is.number _ on),
          λ gone. both_ways _ stays ((is.drops (between_numbers n s e)).1 gone),
        )

    -- A quotient transition is a triple (source, label ID, target) between quotient states that comes from a transition
    -- of the system, and that the quotient does not leave out. Let the list `es` contain exactly the quotient
    -- transitions of all reachable states. Suppose that the length of `es` is at most the number of transitions of the
    -- given system. Then `es` satisfies the limits on the size of a system (`InRange`).
    pub quotient_in_range : length es ≤ length g.places → InRange (length g.labels) 0 (length n.classes.items) es
    quotient_in_range few = let some = below g.first ([], refl) in
        let each = λ (k : ℕ) (d : Triple) (l : k < length es). (each_is (get_or es k d) (Contains-get_or es k d l)).0 in
        search (rules, some, each, is.few, lts.in_range.few_states, lts.in_range.few_transitions)

    -- A quotient transition is a triple (source, label ID, target) between quotient states that comes from a transition
    -- of the system, and that the quotient does not leave out. Let the list `es` contain exactly the quotient
    -- transitions of all reachable states. Suppose that the triples in `es` are pairwise different. Then the system
    -- that is built from `es` is the quotient.
    pub built : (q : Grouped) → IsBuilt 0 (length n.classes.items) g.labels es q → Quotient rel A (system_of q)
    built q made =
        let moved = IsPermutation-sym _ _ (IsPermutation-map (transition_of g.labels) es q.places made.grouping.same) in
        let quotient : Quotient rel A (system_from 0 (length n.classes.items) g.labels es) = record {
          states = is.counted;
          first = refl;
          transitions = λ e. (
            λ c.
                let x = mapped_contains (transition_of g.labels) es e c in
                let is = each_is x.0 x.1 in subst (λ f. IsQuotientStep rel A f × ¬ IsDropped rel f) x.2 (is.1, is.2),
            λ h.
                let ((s, t, way, step, hs, ht), stays) = h in
                let (f, in_row, label, to) = (row_steps g s e.label t).0 step in
                let on : Reachable A t = reachable_on A s e.label t way step in
                let source : number_of n s ≡ e.source = number_once rel A lts.system s _ _ (is.number s way) hs in
                let target : number_of n (target_of f) ≡ e.target =
                ap (number_of n) to ∙ number_once rel A lts.system t _ _ (is.number t on) ht in
                let same : transition_of g.labels (between_numbers n s f) ≡ e =
                λ i. record { source = source i; label = label i; target = target i } in
                let x = between_numbers n s f in
                let leaves = false_from_ne_true _ (λ gone. stays (subst (IsDropped rel) same ((is.drops x).0 gone))) in
                let shows = (shown_by-contains g n s x).1 (f, in_row, refl, leaves) in
                subst (Contains (map (transition_of g.labels) es)) same (contains_mapped (transition_of g.labels) es x
                ((shown.exactly x).1 (s, (is.reached s).1 way, shows))),
          );
          once = transitions_differ g.labels es lts.table (λ x c. (each_is x c).0.label) once;
        } in
        quotient_reordered rel A (system_from 0 (length n.classes.items) g.labels es) (system_of q) made.first
        made.states (subst (λ t. IsPermutation (map (transition_of t) q.places) (map (transition_of g.labels) es))
        (sym made.labels) moved) quotient

  -- The class number of a reachable state is the number of the quotient state that represents this state. Two reachable
  -- states have the same class number if and only if they are bisimilar.
  same_is : (s t : ℕ) → Reachable A s → Reachable A t → (number_of n s ≡ number_of n t) ↔ Bisimilar rel A s A t
  same_is s t ws wt = numbers_classes rel A lts.system s t _ _ (is.number s ws) (is.number t wt)

  -- Each transition of a reachable state gives a triple between quotient states (`between_numbers`). The quotient
  -- leaves out this triple if and only if the transition is inert (`ShowsNothing`). A transition is inert if the
  -- relation is branching bisimilarity, the transition is internal, and its source and its target are bisimilar.
  inert_is : (s : ℕ) (e : Triple) → Reachable A s → Contains (row_of s g.places) e →
      (is_left_out n.dropped (between_numbers n s e) ≡ true) ↔ ShowsNothing rel A s
      (text_of g.labels (label_of e)) (target_of e)
  inert_is s e way c = let inert = dropped_is rel A g.labels (between_numbers n s e) s (target_of e)
      (same_is s (target_of e) way (way_on s e c way)) in
      let out = is.drops (between_numbers n s e) in
      (λ gone. inert.0 (out.0 gone), λ nothing. out.1 (inert.1 nothing))

  -- The quotient transitions of a state are the triples between quotient states that come from the transitions of this
  -- state, and that the quotient does not leave out. Suppose that the same quotient state represents the reachable
  -- states s and t, and that the quotient leaves out no transition of s. Then each quotient transition of t is also a
  -- quotient transition of s.
  pub show_each_other : ShowEachOther g n
  show_each_other s t ms mt same whole x c =
      let ws = (is.reached s).0 ms in
      let wt = (is.reached t).0 mt in
      let row = row_of s g.places in
      let triples : List Triple = map (between_numbers n s) row in
      let out = λ (x : Triple). is_left_out n.dropped x in
      let none : (b : List ℕ) (v : ℕ) → Step A s b v → ¬ ShowsNothing rel A s b v = λ b v own inert.
      let (e, d, label, to) = (row_steps g s b v).0 own in
      let found = contains_passing out triples (between_numbers n s e)
      (contains_mapped (between_numbers n s) row e d) ((inert_is s e ws d).1 (rw (label, to) inert)) in
      let counts = length-filter_both out (λ x. not (out x)) (λ x. refl) triples in
      absurd (omega (arith, counts, whole, length-map row (between_numbers n s), found.1)) in
      let (e, there, from, stays) = (shown_by-contains g n t x).0 c in
      let a = text_of g.labels (label_of e) in
      let (u, step, alike) = all_made rel A s t a (target_of e) lts.system ((same_is s t ws wt).0 same) none
      ((row_steps g t _ _).1 (e, there, refl, refl)) (λ inert. both_ways _ stays ((inert_is t e wt there).1 inert)) in
      let (f, in_row, text, ends) = (row_steps g s a u).0 step in
      let target : number_of n (target_of f) ≡ number_of n (target_of e) = ap (number_of n) ends
      ∙ sym ((same_is (target_of e) u (way_on t e there wt) (reachable_on A s a u ws step)).1 alike) in
      let label : label_of f ≡ label_of e = lts.table.different (label_of f) (label_of e)
      (in_range s f in_row).label (in_range t e there).label text in
      let shown : between_numbers n s f ≡ between_numbers n t e = λ i. (same i, label i, target i) in
      (shown_by-contains g n s x).1 (f, in_row, shown ∙ from, rw shown stays)
