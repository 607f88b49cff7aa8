-- Proves that the forward moves of the search preserve its invariant (`SearchInvariant`). There are four forward moves.
-- First, the search collects an item, which is a pair (label ID, block) or a signature ID. Second, it merges
-- components, which are sets of states on the stack that can reach each other along inert transitions. Third, it pushes
-- a state. Fourth, it marks a transition as read.
use Rattle.std.proofs.Common.{◌≡◌, ◌≢◌, ℕ, ◌+◌, ◌<◌, List, length, slice_index, refl, inl, inr, arith, ◌-◌, ◌≤◌, rules}
use Rattle.std.proofs.Common.{◌∙◌, ◌⊎◌, set, get_or, length-set, get_or-set_same, get_or-set_other, All}
use Rattle.std.proofs.lemmas.List.{get_or_append_left, get_or_push, length_push, get_or_default}
use Rattle.std.proofs.lemmas.List.Elements.{All-push, All-take, All-set}
use Rattle.std.proofs.lemmas.Grind.{elements, common_steps}
use Rattle.std.proofs.lemmas.{Bool.cases_lt, Bool.cases_eq, List.Quantifiers.all_pairs_push, List.Sums.sum_by_push}
use Rattle.theory.specs.{declared.relation.Relation.TheVariants.Branching, Blocks.Inert}
use Rattle.lts.specs.{Lts.system_of, Lts.IsRow, Lts.place_at, Meter.Counts, Visited.price_between}
use Rattle.lts.proofs.CallerLemmas.{row_left}
use Rattle.signatures.specs.Lists.{Grow}
use Rattle.signatures.proofs.CallerLemmas.{Grow-same}
use Rattle.inert.specs.Search.{Pair, HasVisitStates, Search, IsInternedItem, BelongsTo, GivesPair, ComponentHasPair}
use Rattle.inert.specs.Search.{SearchInvariant, Item, Laws, stage_at, IsNotBelow, IsRoot, IsInComponent, Root, OnStack}
use Rattle.inert.specs.Search.{frame_at, IsFrame, IsBeingSearched, IsToBeRead, AreOpen, AreRoots, AreFrames, AreHandled}
use Rattle.inert.specs.Search.{AreCacheable, Connects, Unvisited, Frame, IsFollowed, IsHandled}
use Rattle.inert.specs.SearchMoves.{with_item, CutsRoots, with_pushed, GoesOn, Spends}
use Rattle.inert.specs.{Steps.Under, Steps.remaining, Signed.HasPair}
use Rattle.inert.proofs.Invariant.{pushed, here, no_root, no_frame, IsBefore, AllPairs-take, All-from_take, unseen-set}
use Rattle.inert.proofs.Invariant.{unread-set, kept_still, KeepsStack, roots_kept, accounted_still, sound_still}
use Rattle.inert.proofs.Invariant.{done_still, AreSound, reached, on_stack, ties, frames_some, root_low}

module _ {u : Under} {signatures : List (List (ℕ × ℕ))} {w : Search} (walks : SearchInvariant u signatures w) where
  abbrev grow : Grow signatures signatures
  grow = Grow-same signatures

  -- These lemmas assume that the search appends the item x to its list of items. An item is a pair (label ID, block) or
  -- a signature ID.
  module _ (x : Item) where
    abbrev With : Search
    With = with_item x w

    collect_keeps : KeepsStack w With (length w.stack)
    collect_keeps = grind (arith, common_steps)

    -- A component is a strongly connected set of states on the stack. The current state is the state whose outgoing
    -- transitions are being read. Let an item, which is a pair (label ID, block) or a signature ID, be appended to the
    -- list of items. Then this item belongs to the component that contains the current state.
    of_here : BelongsTo w.roots (length w.items) (here w)
    of_here i d h = grind (arith, common_steps, walks.roots.each, reached)

    pub collected_holds : (z : ℕ × ℕ) → GivesPair signatures x z → ComponentHasPair signatures With (here w) z
    collected_holds z g = search (rules, pushed w.items x (Pair 0 0), of_here)

    pub SearchInvariant-collect : 0 < length w.frames → IsInternedItem signatures x
        → ((z : ℕ × ℕ) → GivesPair signatures x z
        → HasPair Branching u.l u.blocks (slice_index w.stack (here w)) z.0 z.1) → SearchInvariant u signatures With
    SearchInvariant-collect some there sound =
        let roots = roots_kept walks.roots w.frames With.items (λ i d h.
        grind (arith, walks.roots.each i d h, pushed w.items x (Pair 0 0))) in
        let theirs = All-push (IsInternedItem signatures) w.items x walks.there there in
        let sounds : AreSound u signatures With = λ j low. elim (cases_lt j (length w.items)) [
          | inl h ↦ sound_still grow walks collect_keeps j h (omega arith) (λ p low _. low)
          | inr h ↦ let e : j ≡ length w.items = omega (arith, low, h, (pushed w.items x (Pair 0 0)).0) in
              rw e (here w, on_stack walks some, of_here, λ z g. sound z (rw (pushed w.items x (Pair 0 0)).1 at g))
        ] in
        let accounted : AreHandled u signatures With = λ p k lp lk source.
        accounted_still grow walks collect_keeps p k lp lk source (λ ahead. inl ahead) (λ t e. inr (inr e)) in
        search (rules, walks, roots, theirs, sounds, accounted)

  -- The current state is the state whose outgoing transitions are being read. A component is a strongly connected set
  -- of states on the stack. The root of a component is its first state on the stack. These lemmas assume that an inert
  -- step leads from the current state to the state at the index q of the stack. The lemmas also assume that the
  -- component of this state is merged with all components above it on the stack. The merge drops all roots above the
  -- index q.
  module _ (laws : Laws) {q : ℕ} {roots : List Root} (cuts : CutsRoots q w.roots roots) where
    cut_each : (P : Root → Type 0) → All P w.roots → All P roots
    cut_each P each = rw cuts.roots (All-take P cuts.count w.roots each)

    -- A component is a strongly connected set of states on the stack. The root of a component is its first state on the
    -- stack. A merge of components drops all roots above the index q of the stack. If a property P holds for all roots
    -- that remain after the merge, and for all roots above the index q, then P holds for all roots of the search before
    -- the merge.
    cut_back : (P : Root → Type 0) → All P roots → ((r : Root) → q < r.height → P r) → All P w.roots
    cut_back P each above =
        All-from_take P cuts.count w.roots no_root (rw cuts.roots at each) (λ i up low. above _ (cuts.above i up low))

    abbrev Joined : Search
    Joined = record w { roots = roots }

    join_keeps : KeepsStack w Joined (length w.stack)
    join_keeps = grind (arith, common_steps, cuts.roots)

    -- A component is a strongly connected set of states on the stack. A root is the first state of a component on the
    -- stack. Consider the component that contains the state at the index q of the stack. Suppose that this component is
    -- merged with all components above it on the stack. Then no root is above the index q.
    below : All (λ r. r.height ≤ q) roots
    below i d h =
        let root = get_or_default w.roots (cuts.count - 1) d no_root in
        grind (arith, elements, cuts.below, cuts.roots, walks.roots.ascending i (cuts.count - 1), root)

    -- A component is a strongly connected set of states on the stack. The current state is the state whose outgoing
    -- transitions are being read. Suppose that an inert step leads from the current state to a state t on the stack,
    -- and that the component of t is merged with all components above it on the stack. Then t and the current state are
    -- in the same component.
    pub joined_here : (t : ℕ) → stage_at w.stages t ≡ OnStack q → IsInComponent Joined (here w) t
    joined_here t is =
        (q, is, λ i d h _. below i d h, λ i d h _. cut_each (λ r. r.height ≤ here w) (reached walks) i d h)

    pub SearchInvariant-join : q < length w.stack
        → Inert (system_of u.l) (slice_index u.blocks) (slice_index w.stack (here w))
        (slice_index w.stack q) → SearchInvariant u signatures Joined
    SearchInvariant-join low step =
        let rooted : AreRoots Joined = record {
          first = λ some all. walks.roots.first some (cut_back (λ r. 0 < r.height) all (λ r up. omega (arith, up)));
          ascending = rw cuts.roots (AllPairs-take IsBefore cuts.count w.roots walks.roots.ascending);
          each = cut_each (IsRoot w.frames w.items) walks.roots.each;
        } in
        let connects : Connects u Joined = λ p r lp lr h. elim (cases_lt p q) [
          | inl before ↦ walks.connects p r lp lr (cut_back
              (λ x. x.height ≤ p → x.height ≤ r) h (λ x up le. absurd (omega (arith, up, le, before))))
          | inr after ↦
              let up : IsNotBelow roots q r = λ i d h' le. h i d h' (omega (arith, le, after)) in
              let on = laws.after (system_of u.l) (slice_index u.blocks) _ _ _ (ties walks p lp) step in
              let old = cut_back (λ x. x.height ≤ q → x.height ≤ r) up (λ x high le. absurd (omega (arith, high))) in
              laws.joined (system_of u.l) (slice_index u.blocks) _ _ _ on (walks.connects q r low lr old)
        ] in
        let accounted : AreHandled u signatures Joined = λ p k lp lk source.
        accounted_still grow walks join_keeps p k lp lk source (λ ahead. inl ahead) (λ t e. inr (inr e)) in
        search (rules, walks, rooted, connects, sound_still grow walks join_keeps, accounted)

  -- These lemmas assume that the search pushes the unvisited state t.
  module _ (laws : Laws) {t start end : ℕ} (within : t < length w.stages) (unseen : stage_at w.stages t ≡ Unvisited)
      (row : IsRow u.l.places t start end) where
    abbrev pub Entered : Search
    Entered = with_pushed t start end (length w.items) w

    abbrev n : ℕ
    n = length w.stack

    abbrev NewFrame : Frame
    NewFrame = record { height = length w.stack; next = start; end = end }

    abbrev NewRoot : Root
    NewRoot = record { height = length w.stack; items = length w.items }

    before_new : (P : Root → Type 0) → All P Entered.roots → All P w.roots
    before_new P all i d h = search (rules, get_or_append_left, w.roots, length_push)

    -- After the state t is pushed at the index n of the stack, its status is `OnStack n`. The statuses of all other
    -- states have not changed.
    stage_of : (s : ℕ) → ((s ≡ t) × (stage_at Entered.stages s ≡ OnStack n))
        ⊎ (stage_at Entered.stages s ≡ stage_at w.stages s) × (s ≢ t)
    stage_of s = grind (arith, elements, cases_eq s t, within)

    enter_keeps : KeepsStack w Entered n
    enter_keeps = grind (arith, get_or_append_left, length_push, get_or_push, stage_of, unseen)

    -- The current state is the state whose outgoing transitions are being read. If the search pushes the state t, it
    -- has gone from the current state to t, and has not yet returned from t (`IsBeingSearched`).
    pub entered_met : 0 < length w.frames → IsBeingSearched Entered (here w) t
    entered_met some = grind (arith, common_steps, pushed w.stack t 0, pushed w.frames NewFrame no_frame)

    entered_still : (p u : ℕ) → IsBeingSearched w p u → IsBeingSearched Entered p u
    entered_still p u (i, low, is, to) = let on = (walks.frames.each (i + 1) no_frame low).on_stack in
        grind (arith, pushed w.frames NewFrame no_frame, pushed w.stack t 0, on, low, is, to)

    ahead_still : (p k : ℕ) → IsToBeRead w p k → IsToBeRead Entered p k
    ahead_still p k (i, low, is, ahead) = grind (arith, common_steps, pushed w.frames NewFrame no_frame)

    opened : AreOpen Entered.stages Entered.stack
    opened = record {
      placed = λ p h. grind (arith, walks.opened.placed p, stage_of, pushed w.stack t 0, unseen, h);
      only = λ s p is. grind (arith, stage_of s, walks.opened.only s p, pushed w.stack t 0, is);
    }

    roots : AreRoots Entered
    roots = record {
      first = λ _ all. let before = before_new (λ r. 0 < r.height) all in
          grind (arith, all (length w.roots) no_root, pushed w.roots NewRoot no_root, walks.roots.first, before);
      ascending = grind (arith, common_steps, all_pairs_push, walks.roots.ascending, root_low, walks.roots.each);
      each = All-push (IsRoot Entered.frames Entered.items) w.roots NewRoot
          (λ i d h. grind (arith, walks.roots.each i d h, pushed w.frames NewFrame no_frame))
          (grind (arith, pushed w.frames NewFrame no_frame));
    }

    frames : AreFrames u.l Entered.stack Entered.frames
    frames = record {
      ascending = grind (arith, common_steps, all_pairs_push, walks.frames.ascending, walks.frames.each, on_stack);
      each = All-push (IsFrame u.l Entered.stack) w.frames NewFrame
          (λ i d h. grind (arith, walks.frames.each i d h, pushed w.stack t 0))
          (grind (arith, pushed w.stack t 0, row));
    }

    accounted : AreHandled u signatures Entered
    accounted p k lp lk source = elim (cases_lt p n) [
      | inl low ↦ accounted_still grow walks enter_keeps p k low lk source (λ ahead. inl (ahead_still p k ahead))
          (λ u e. inr (inr (entered_still p u e)))
      | inr high ↦ search (rules, row.exactly, pushed w.stack t 0, pushed w.frames NewFrame no_frame)
    ]

    module _ (step : 0 < length w.frames →
        Inert (system_of u.l) (slice_index u.blocks) (slice_index w.stack (here w)) t) where
      connects : Connects u Entered
      connects p q lp lq h = elim (cases_lt p n) [
        | inl low ↦ elim (cases_lt q n) [
          | inl low' ↦ rw ((pushed w.stack t 0).2 p low, (pushed w.stack t 0).2 q low')
              (walks.connects p q low low' (before_new (λ r. r.height ≤ p → r.height ≤ q) h))
          | inr high' ↦
              let e : q ≡ n = omega (arith, lq, high', (pushed w.stack t 0).0) in
              let (longer, last, same) = pushed w.stack t 0 in
              rw (same p low, e, last) (laws.after (system_of u.l) (slice_index u.blocks) _ _ _ (ties walks p low)
              (step (frames_some walks (omega (arith, low)))))
        ]
        | inr high ↦
            let new = pushed w.roots NewRoot no_root in
            let e : p ≡ q = grind (arith, h (length w.roots) no_root, new, lp, lq, high, (pushed w.stack t 0).0) in
            rw e (laws.here (system_of u.l) (slice_index u.blocks) (slice_index Entered.stack q))
      ]

      SearchInvariant-enter : SearchInvariant u signatures Entered
      SearchInvariant-enter =
          let fewer = unseen-set w.stages t (OnStack n) refl within unseen in
          let signed : AreCacheable u signatures Entered.stages = λ s k is.
          kept_still grow u w.stages Entered.stages enter_keeps.finished s k
          (walks.signed s k (grind (arith, stage_of s, is))) in
          let sound : AreSound u signatures Entered =
          λ j lj. sound_still grow walks enter_keeps j lj (omega (arith, (pushed w.stack t 0).0)) (λ p lp _. lp) in
          let sizes : HasVisitStates u.l.states (length signatures) (length Entered.stack) Entered.stages =
          grind (arith, walks.sizes, length-set, pushed w.stack t 0, fewer) in
          search (rules, walks, sizes, opened, signed, roots, frames, connects, sound, accounted)

      -- Suppose that an inert step leads from the current state, if there is one, to the state t. If the search pushes
      -- t, the invariant of the search still holds, and the number of visits (reads of transitions that the meter
      -- counts) that the search still has to make does not change (`GoesOn`).
      pub entered_on : (counts : Counts) → GoesOn u signatures signatures counts counts w Entered
      entered_on counts =
          let read = unread-set w.stages t (OnStack n) refl within unseen (remaining u) in
          let row = row_left u.visited u.l.places t start end row in
          let push = sum_by_push (λ y. price_between u.visited y.next y.end) w.frames NewFrame in
          let spends : Spends u counts counts w Entered = omega (arith, read, row, push) in
          grind (arith, SearchInvariant-enter, grow, stage_of, unseen, spends)

  -- Each frame belongs to a state on the stack, and records which outgoing transitions of this state are still to be
  -- read. These lemmas are about the step in which the search reads the next transition of the frame with the index i.
  -- This transition is at the place m in the list of all transitions, and the step marks it as read.
  module _ {i m : ℕ} {x : Frame} (low : i < length w.frames) (is : x ≡ record (frame_at w.frames i) { next = m + 1 })
      (next : (frame_at w.frames i).next ≡ m) (more : m < (frame_at w.frames i).end) where
    abbrev pub Moved : Search
    Moved = record w { frames = set w.frames i x }

    same_size : length Moved.frames ≡ length w.frames
    same_size = length-set w.frames i x

    places_same : (j : ℕ) (d : Frame) → (get_or Moved.frames j d).height ≡ (get_or w.frames j d).height
    places_same j d = grind (arith, elements, common_steps, is, get_or_default w.frames i no_frame d)

    next_keeps : KeepsStack w Moved (length w.stack)
    next_keeps = grind arith

    next_entered : (p t : ℕ) → IsBeingSearched w p t → IsFollowed signatures Moved p t
    next_entered p t (j, lj, at, to) = let next = places_same (j + 1) no_frame in
        inr (inr (grind (arith, lj, same_size, places_same j no_frame, next, at, to)))

    module _ (done : IsHandled u signatures w (frame_at w.frames i).height (place_at u.l.places m)) where
      -- A place is an index in the list of all transitions. Suppose that the transition at the place m was processed
      -- and is now marked as read. Then each transition that was still to be read before is still to be read now, or
      -- was processed.
      next_ahead : (p k : ℕ) → p < length w.stack → IsToBeRead w p k →
          IsToBeRead Moved p k ⊎ IsHandled u signatures Moved p (place_at u.l.places k)
      next_ahead p k lp (j, lj, at, ahead) = elim (cases_lt k (frame_at Moved.frames j).next) [
        | inr still ↦ inl (j, omega (arith, lj, same_size), places_same j no_frame ∙ at, omega (arith, still))
        | inl read ↦
            let same : j ≡ i = grind (arith, cases_eq j i, get_or-set_other w.frames i j x no_frame, ahead, read) in
            let first : k ≡ m = grind (arith, same, get_or-set_same w.frames i x no_frame low, is, next, ahead, read) in
            inr (done_still grow walks next_keeps p (place_at u.l.places k) lp (next_entered p)
            (rw (first, ← at, same) done))
      ]

      pub SearchInvariant-next : SearchInvariant u signatures Moved
      SearchInvariant-next =
          let roots = roots_kept walks.roots Moved.frames w.items (λ k d h.
          grind (arith, walks.roots.each k d h, same_size, places_same)) in
          let frames : AreFrames u.l w.stack Moved.frames = record {
            ascending = λ j k d h l. grind (arith, walks.frames.ascending j k d h, places_same, same_size);
            each = let frame = walks.frames.each i no_frame low in
                All-set (IsFrame u.l w.stack) w.frames i x (rw is (grind (arith, frame, next, more))) walks.frames.each;
          } in
          let accounted : AreHandled u signatures Moved = λ p k lp lk source.
          accounted_still grow walks next_keeps p k lp lk source (next_ahead p k lp) (next_entered p) in
          search (rules, walks, roots, frames, sound_still grow walks next_keeps, accounted)
