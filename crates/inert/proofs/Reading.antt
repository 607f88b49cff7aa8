-- Lemmas about how the search reads the row (the outgoing transitions) of a state. The code marks a transition as read
-- before it processes the transition. The proofs use the opposite order, which has the same result. The last lemmas are
-- about the first phase of a search. In this phase, the first state of the search is not yet on the stack and has no
-- frame. A frame belongs to a state on the stack, and records which outgoing transitions of this state are still to be
-- read. In the first phase, the search behaves as if its first state were on the stack and had a frame.
use Rattle.std.proofs.Common.{◌≡◌, ℕ, ◌+◌, ◌-◌, ◌<◌, ◌≤◌, List, [], ◌∷◌, length, slice_index, Bool, refl, sym, ◌∙◌, ap}
use Rattle.std.proofs.Common.{subst, inl, inr, arith, set, IsTrue, get_or-set_same, length-set, rules, get_or-set_other}
use Rattle.std.proofs.lemmas.{List.length_push, List.get_or_append_left, List.set-append_left}
use Rattle.theory.specs.{declared.relation.Relation.TheVariants.Branching, Blocks.Inert}
use Rattle.lts.specs.Lts.{Triple, source_of, target_of, place_at, system_of, IsLts}
use Rattle.lts.specs.{Visited.price, Meter.Counts, Meter.Costs}
use Rattle.lts.proofs.CallerLemmas.{place_step}
use Rattle.inert.specs.Search.{Search, Laws, frame_at, top, IsFrame, IsFollowed, IsHandled, SearchInvariant, OnStack}
use Rattle.inert.specs.Search.{Frame, Root, Item, Pair, Interned, unseen, nothing, stage_at, VisitState}
use Rattle.inert.specs.SearchMoves.{with_pushed, with_item, HandlesStep, ahead, steps, GoesOn, Spends, LeadsOn}
use Rattle.inert.specs.SearchMoves.{Finishes, Closes, IsUnionOfItems}
use Rattle.inert.specs.declared.lens.Step.TheVariants.{Inert as Goes, Shows}
use Rattle.inert.specs.Steps.{Under, IsInert, IsStep}
use Rattle.inert.specs.{Search.Unvisited, Search.Completed, declared.lens.Step.Step, Signed.HasPair, Signed.pair_under}
use Rattle.inert.proofs.Invariant.{no_frame, here, stays_on, goes_on, unseen-set, rest-next, pair_before}
use Rattle.inert.proofs.Forward.{SearchInvariant-collect, collected_holds, SearchInvariant-join, joined_here}
use Rattle.inert.proofs.Forward.{entered_on, entered_met, SearchInvariant-next}
use Rattle.inert.proofs.{Invariant.list_signed, Resting.within, Back.popped, Back.closed}

-- Each frame belongs to a state on the stack, and records which outgoing transitions of this state are still to be
-- read. The search has the data `old` at one point, and the data `new` at a later point. `Stays` holds if the stack,
-- the number of frames and the number of unvisited states are the same at both points, and if the last frame is the
-- same except for its next transition. In `new`, this next transition is at the place k, which is an index in the list
-- of all transitions. `Stays` holds if the search has only read transitions of the current state, and has pushed no
-- state.
pub record Stays (old new : Search) (k : ℕ) : Type 0 where
  pub size : length new.frames ≡ length old.frames
  pub stack : new.stack ≡ old.stack
  pub unseen : unseen new.stages ≡ unseen old.stages
  pub here : top new.frames ≡ record (top old.frames) { next = k }

-- The search has the data `old` before it reads a transition of the current state, and the data `new` afterwards. The
-- meter has the counts `first` before, and `second` afterwards. The flag `enters` is true if the search has pushed a
-- state. A place is an index in the list of all transitions. `Proceeds` holds if all three of the following conditions
-- hold. First, the search has gone on from `old` to `new` (`GoesOn`). Second, if no state was pushed, `Stays` holds:
-- the transition of the current state that is to be read next is at the place k. Third, if a state was pushed, the
-- value of `steps` has decreased. This value is an upper bound for the number of states that the search still pushes
-- plus the number of frames that it still pops.
pub record Proceeds (u : Under) (signatures : List (List (ℕ × ℕ))) (first second : Counts) (old new : Search) (k : ℕ)
    (enters : Bool) : Type 0 where
  pub on : GoesOn u signatures signatures first second old new
  pub stays : ¬ IsTrue enters → Stays old new k
  pub nearer : IsTrue enters → steps new < steps old

-- The last frame of the search records which outgoing transitions of the current state are still to be read. These
-- lemmas assume that the first of these transitions is at the place k, which is an index in the list of all
-- transitions.
module _ (laws : Laws) {u : Under} (lts : IsLts u.l) {signatures : List (List (ℕ × ℕ))} {w : Search}
    (walks : SearchInvariant u signatures w)
    (some : 0 < length w.frames) {k : ℕ} (next : (top w.frames).next ≡ k) (more : k < (top w.frames).end) where
  abbrev e : Triple
  e = place_at u.l.places k

  frame : IsFrame u.l w.stack (top w.frames)
  frame = walks.frames.each (length w.frames - 1) no_frame (omega (arith, some))

  place_low : k < length u.l.places
  place_low = omega (arith, frame.row.within, more)

  source : source_of e ≡ slice_index w.stack (here w)
  source = (frame.row.exactly k place_low).1 (omega (arith, frame.first, next), more)

  -- A visit is a read of a transition that the meter counts. Reading the transition at the place (index) k takes 0 or 1
  -- visits. This number of visits is at most the number of visits that the search still has to make.
  pub next_ahead : price u.visited k ≤ ahead u w
  next_ahead =
      let read = rest-next u.visited w.frames (length w.frames - 1) (record (top w.frames) { next = k + 1 }) in
      grind (arith, read, some, next, more)

  -- The current state is the state whose outgoing transitions are being read. If the transition e of the current state
  -- is inert, then an inert step leads from the current state to the target of e.
  inert_step : IsInert u (slice_index u.blocks (source_of e)) e →
      Inert (system_of u.l) (slice_index u.blocks) (slice_index w.stack (here w)) (target_of e)
  inert_step inert = rw (← source) (rw inert.0 at (place_step u.l k place_low), inert.1)

  -- The current state is the state whose outgoing transitions are being read. If the transition e of the current state
  -- is not inert, then its pair (label ID, target block) is in the signature of the current state.
  own_pair : ¬ IsInert u (slice_index u.blocks (source_of e)) e
      → HasPair Branching u.l u.blocks (slice_index w.stack (here w)) (pair_under u.blocks e).0
      (pair_under u.blocks e).1
  own_pair other =
      let here = laws.here (system_of u.l) (slice_index u.blocks) (source_of e) in
      grind (arith, lts.in_range.each k (0, 0, 0) place_low, source, here, place_step u.l k place_low, other)

  -- Let w be the data of the search before it processes the transition e, and let m be the data after this. In m, the
  -- transition e is not yet marked as read. `Taken` lists the facts that then hold for m. The flag `enters` is true if
  -- the search has pushed a state while it processed e.
  record Taken (m : Search) (enters : Bool) : Type 0 where
    on : (counts : Counts) → GoesOn u signatures signatures counts counts w m
    done : IsHandled u signatures m (here w) e
    same_frame : frame_at m.frames (length w.frames - 1) ≡ top w.frames
    longer : length w.frames ≤ length m.frames
    still : ¬ IsTrue enters → (m.frames ≡ w.frames) × (m.stack ≡ w.stack) × (unseen m.stages ≡ unseen w.stages)
    nearer : IsTrue enters → steps m < steps w

  -- Let j be the index of the last frame of w, and let y be this frame after the transition e was marked as read.
  -- Reading e takes 0 or 1 visits (reads that the meter counts). The meter has the counts `first` before this read, and
  -- `second` afterwards. `Marked m` is the data m with the frame y at the index j, so that e is marked as read.
  module _ {first second : Counts} (visit : let n = price u.visited k in Costs first second 0 n n) {j : ℕ}
      (last : j ≡ length w.frames - 1) {y : Frame} (is : y ≡ record (frame_at w.frames j) { next = k + 1 }) where
    abbrev Marked : Search → Search
    Marked m = record m { frames = set m.frames j y }

    -- Suppose that the search has processed the transition e, and then marks it as read. Then the invariant of the
    -- search holds again (`Proceeds`).
    mark : {m : Search} {enters : Bool} → Taken m enters →
        Proceeds u signatures first second w (Marked m) (k + 1) enters
    mark {m} {enters} took =
        let low : j < length m.frames = omega (arith, took.longer, last, some) in
        let same : frame_at m.frames j ≡ top w.frames = ap (frame_at m.frames) last ∙ took.same_frame in
        let is_next : y ≡ record (frame_at m.frames j) { next = k + 1 } = grind (arith, is, last, same) in
        let at : (frame_at m.frames j).next ≡ k = ap (λ x. x.next) same ∙ next in
        let before : k < (frame_at m.frames j).end = omega (arith, more, ap (λ x. x.end) same) in
        let done = subst (λ (x : Frame). IsHandled u signatures m x.height e) (sym same) took.done in
        let walks = SearchInvariant-next (took.on first).walks low is_next at before done in
        let spends : Spends u first second m (Marked m) =
        grind (arith, rest-next u.visited m.frames j y low, is_next, at, before, visit) in
        let on = goes_on (took.on first) (stays_on walks refl spends) in
        grind (arith, on, took, length-set m.frames j y, get_or-set_same m.frames j y no_frame low, is, last)

    -- Suppose that the search pushes no state when it processes the transition e, and that only its open components and
    -- its items change. If it then marks e as read, the invariant of the search holds again (`Proceeds`).
    stayed : (roots : List Root) (items : List Item) {enters : Bool} → let m : Search =
        record w { roots = roots; items = items } in
        SearchInvariant u signatures m → IsHandled u signatures m (here w) e → ¬ IsTrue enters →
        Proceeds u signatures first second w (Marked m) (k + 1) enters
    stayed roots items after done stay =
        let on = λ (counts : Counts). stays_on {first = counts} {second = counts} {old = w} after refl (omega arith) in
        mark (grind (arith, on, done, stay))

    -- These lemmas assume that the transition e is inert. Its target can be unvisited, on the stack, or completed. In
    -- each case, the invariant of the search still holds after the search has marked e as read and has processed e
    -- (`Proceeds`).
    module _ (inert : IsInert u (slice_index u.blocks (source_of e)) e) where
      inert_done : (m : Search) → IsFollowed signatures m (here w) (target_of e) → IsHandled u signatures m (here w) e
      inert_done m is = record { shown = λ other. absurd (other inert); followed = λ _. is }

      followed : (m : Search) (enters : Bool) → HandlesStep u.l.places (Goes (target_of e)) (Marked w) m enters
          → Proceeds u signatures first second w m (k + 1) enters
      followed m enters (inl (unseen, (start, end, row, new), went)) =
          let within : target_of e < length w.stages =
          grind (arith, walks.sizes.size, lts.in_range.each k (0, 0, 0) place_low) in
          let x : Frame = record { height = length w.stack; next = start; end = end } in
          let on = entered_on walks laws within unseen row (λ _. inert_step inert) in
          let met = entered_met walks laws within unseen row some in
          let done = inert_done (with_pushed (target_of e) start end (length w.items) w) (inr (inr met)) in
          let one = unseen-set w.stages (target_of e) (OnStack (length w.stack)) refl within unseen in
          let same = get_or_append_left w.frames (x ∷ []) no_frame (length w.frames - 1) in
          rw (new, ← set-append_left w.frames (x ∷ []) j y (omega (arith, last, some)))
          (mark (grind (arith, on, done, one, same, some, length_push w.frames x, went)))
      followed m enters (inr (inl (q, stage, cuts, new, stay))) =
          let was = walks.opened.only (target_of e) q stage in
          rw new (stayed m.roots w.items (SearchInvariant-join walks laws cuts was.0 (rw was.1 (inert_step inert)))
          (inert_done (record w { roots = m.roots }) (inl (joined_here walks laws cuts (target_of e) stage))) stay)
      followed m enters (inr (inr (id, stage, new, stay))) =
          let inside : slice_index w.stack (here w) < u.l.states =
          omega (arith, source, (lts.in_range.each k (0, 0, 0) place_low).source) in
          let block = inert.1 ∙ ap (slice_index u.blocks) source in
          let signed = list_signed walks (here w) (target_of e) id frame.on_stack inside block stage in
          let s = slice_index w.stack (here w) in
          let tie = laws.after (system_of u.l) (slice_index u.blocks) s s (target_of e)
          (laws.here (system_of u.l) (slice_index u.blocks) s) (inert_step inert) in
          rw new (stayed w.roots (with_item (Interned id) w).items
          (SearchInvariant-collect walks (Interned id) some (λ j e'. let same : j ≡ id = cc in rw same signed.within)
          (λ z g. pair_before laws u s (target_of e) z tie ((signed.signature.exactly z.0 z.1).0 g)))
          (inert_done (with_item (Interned id) w)
          (inr (inl (id, stage, collected_holds walks (Interned id))))) stay)

    -- If the search first marks the transition e as read, and then processes it, the invariant of the search still
    -- holds (`Proceeds`).
    own : (step : Step) (m : Search) (enters : Bool) → IsStep u (slice_index u.blocks (source_of e)) e step
        → HandlesStep u.l.places step (Marked w) m enters → Proceeds u signatures first second w m (k + 1) enters
    own (Shows a b) m enters (other, is) (new, stay) =
        rw new (stayed w.roots (with_item (Pair a b) w).items
        (SearchInvariant-collect walks (Pair a b) some (λ j e'. absurd (cc e'))
        (λ z g. subst (λ (x : ℕ × ℕ). HasPair Branching u.l u.blocks (slice_index w.stack (here w)) x.0 x.1)
        (sym is ∙ g) (own_pair other)))
        (record {
          shown = λ _. collected_holds walks (Pair a b) (pair_under u.blocks e) is;
          followed = λ inert. absurd (other inert);
        }) stay)
    own (Goes t) m enters (inert, is) takes = followed inert m enters (rw is at takes)

    -- The lemma `own` also holds if the block of the current state is given in another form. Whether e is inert or not,
    -- the invariant of the search still holds after the search has marked e as read and processed it (`Proceeds`).
    pub taken : {block : ℕ} → block ≡ slice_index u.blocks (slice_index w.stack (here w)) → (step : Step)
        → IsStep u block e step → {m : Search} {enters : Bool} → HandlesStep u.l.places step (Marked w) m enters
        → Proceeds u signatures first second w m (k + 1) enters
    taken is_block step is_step takes =
        let same = is_block ∙ ap (slice_index u.blocks) (sym source) in own step _ _ (rw same at is_step) takes

-- Returns the data of a search with an empty stack. The argument `stages` contains the status of each state. The
-- argument `items` contains the items that the search has collected. An item is a pair (label ID, block) or a signature
-- ID.
abbrev pub collecting : List VisitState → List Item → Search
collecting stages items = record (nothing stages) { items = items }

-- An item is a pair (label ID, block) or a signature ID. Returns the data of a search that has collected the items
-- `items`, and has pushed the state s as its first state. The frame of s records which transitions of s are still to be
-- read. These transitions are at the places k (indices in the list of all transitions) with `next` <= k < `end`.
abbrev pub framed : ℕ → ℕ → ℕ → List VisitState → List Item → Search
framed s next end stages items = with_pushed s next end 0 (collecting stages items)

-- These lemmas are about the first phase of a search, in which the first state s of the search is not on the stack. A
-- frame records which outgoing transitions of a state are still to be read, and a place is an index in the list of all
-- transitions. The lemmas assume the following. If s were on the stack, with a frame for its transitions at the places
-- from k on, the search would have gone on from `old` (`GoesOn`), and the meter would have counted from `first` to
-- `second`.
module _ (laws : Laws) {u : Under} (lts : IsLts u.l) {signatures : List (List (ℕ × ℕ))} {first second : Counts}
    {old w : Search} {s end k : ℕ} (low : s < length old.stages) (same : w ≡ collecting old.stages w.items)
    (begun : GoesOn u signatures signatures first second old (framed s k end old.stages w.items)) where
  abbrev Framed : Search
  Framed = framed s k end old.stages w.items

  -- These lemmas assume that the transition at the place k (the index k in the list of all transitions) belongs to the
  -- first state s of the search, and is read next.
  module _ (more : k < end) {third : Counts} (visit : let n = price u.visited k in Costs second third 0 n n) where
    abbrev Is : Step → Type 0
    Is step = IsStep u (slice_index u.blocks s) (place_at u.l.places k) step

    abbrev Next : Search → Type 0
    Next m = GoesOn u signatures signatures first third old m × (¬ (stage_at m.stages s ≡ Unvisited))

    -- A place is an index in the list of all transitions. A frame records which outgoing transitions of a state are
    -- still to be read. Suppose that the first state s of the search is on the stack with a frame for its transitions
    -- at the places greater than k, and that the search then processes the transition at the place k. Then the search
    -- has gone on (`GoesOn`), and s is not unvisited.
    pub takes_framed : (step : Step) {m : Search} (enters : Bool) → Is step →
        HandlesStep u.l.places step (framed s (k + 1) end old.stages w.items) m enters → Next m
    takes_framed step enters is takes =
        let went = (taken laws lts begun.walks (omega arith) refl more visit refl refl refl step is takes).on in
        (goes_on begun went, grind (arith, went.seen.unseen s, get_or-set_same old.stages s (OnStack 0) Unvisited low))

    -- A place is an index in the list of all transitions. A frame records which outgoing transitions of a state are
    -- still to be read. Suppose that the transition at the place k is not inert, or that its target is completed. If
    -- the search processes this transition without pushing its first state s, two facts hold. First, the stack is still
    -- empty. Second, if s were on the stack with a frame for its transitions at the places greater than k, the search
    -- would have gone on (`GoesOn`), and s would not be unvisited.
    module _ (none : stage_at old.stages s ≡ Unvisited) where
      abbrev Collects : Search → Type 0
      Collects m = (m ≡ collecting old.stages m.items) × Next (framed s (k + 1) end old.stages m.items)

      pub takes_bare : {m : Search} (enters : Bool) (step : Step) → Is step → ¬ LeadsOn w.stages step →
          HandlesStep u.l.places step w m enters → Collects m
      takes_bare enters (Shows a b) is still (new, stay) =
          rw (new, same) (refl, takes_framed (Shows a b) enters is (refl, stay))
      takes_bare enters (Goes t) is still (inl (unseen, new, went)) = absurd (still (t, refl, inl unseen))
      takes_bare enters (Goes t) is still (inr (inl (q, stage, cuts, new, stay))) =
          absurd (still (t, refl, inr (q, stage)))
      takes_bare enters (Goes t) is still (inr (inr (id, stage, new, stay))) =
          let was = rw same at stage in
          let stage' = get_or-set_other old.stages s t (OnStack 0) Unvisited (λ e. cc) ∙ was in
          rw (new, same) (refl, takes_framed (Goes t) enters is (inr (inr (id, stage', refl, stay))))

  -- An item is a pair (label ID, block) or a signature ID. A signature ID represents all pairs of the signature with
  -- this ID. These lemmas assume that all transitions of the first state s were read. The lemmas also assume that s is
  -- then completed with the ID of a signature, and that this signature contains exactly the pairs that the collected
  -- items represent.
  module _ (over : end ≤ k) {lists' : List (List (ℕ × ℕ))} {id : ℕ}
      (listed : IsUnionOfItems w.items signatures lists' id) where
    abbrev Ended : Search
    Ended = nothing (set old.stages s (Completed id))

    finishes : Finishes (s ∷ []) 0 id Framed.stages Ended.stages
    finishes = search rules

    closes : Closes (record { height = 0; items = 0 }) signatures lists' (popped Framed) Ended
    closes = search (rules, id, listed, finishes)

    pub begun_ends : {new : Search} → new ≡ record w { stages = set w.stages s (Completed id); items = [] }
        → GoesOn u signatures lists' first second old new × (¬ (stage_at new.stages s ≡ Unvisited))
    begun_ends is =
        let most = (begun.walks.frames.each 0 no_frame (omega arith)).most in
        let on = (closed laws lts begun.walks (omega arith) (omega (arith, most, over)) refl closes).0 second in
        let now = get_or-set_same old.stages s (Completed id) Unvisited low in
        rw (is, same) (goes_on begun on, grind (arith, now))
