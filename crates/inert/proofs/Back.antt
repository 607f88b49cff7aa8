-- Lemmas about how the search goes back from a state whose outgoing transitions were all read. The frame of the state,
-- which records that no outgoing transition is still to be read, is then popped. A component is a strongly connected
-- set of states on the stack. If the state is the first state of a component on the stack, this component is completed.
use Rattle.std.proofs.Common.{◌≡◌, ◌≢◌, ℕ, ◌+◌, ◌-◌, ◌<◌, ◌≤◌, List, length, slice_index, sym, ◌∙◌, ap, inl, inr, rules}
use Rattle.std.proofs.Common.{refl, arith, take, get_or, Contains, get_or-take, length-take-le, length-append, All}
use Rattle.std.proofs.Math.Logic.{⊎_map}
use Rattle.std.proofs.lemmas.{Bool.cases_eq, Bool.cases_lt, Grind.common_steps, List.get_or_default}
use Rattle.std.proofs.lemmas.{List.get_or_append_left, List.Elements.All-take, List.Elements.All-from_get_or}
use Rattle.lts.specs.{Lts.source_of, Lts.place_at, Lts.IsLts, Meter.Counts}
use Rattle.signatures.specs.Lists.{list_at}
use Rattle.signatures.proofs.CallerLemmas.{Grow-same}
use Rattle.inert.specs.Steps.{Under, remaining}
use Rattle.inert.specs.Search.{Search, stage_at, frame_at, IsToBeRead, IsBeingSearched, IsFollowed, SearchInvariant}
use Rattle.inert.specs.Search.{Laws, item_at, BelongsTo, IsNotBelow, IsRoot, IsInternedItem, IsFrame, AreFrames}
use Rattle.inert.specs.Search.{AreHandled, ComponentHasPair, AreOpen, IsSigned, IsSound, Root, Pair, Interned}
use Rattle.inert.specs.Search.{is_unvisited, unseen, KeepsVisited, rest}
use Rattle.inert.specs.SearchMoves.{HasRead, Closes, SignsMore, GoesOn, Spends}
use Rattle.inert.proofs.Invariant.{no_frame, here, last, no_root, IsBefore, AllPairs-take, All-from_take, kept_still}
use Rattle.inert.proofs.Invariant.{KeepsStack, roots_kept, accounted_still, sound_still, AreSound, stays_on}
use Rattle.inert.proofs.Invariant.{unseen-same, unread-same, rest-cut, reached, on_stack, not_last, last_most}
use Rattle.inert.proofs.Invariant.{none_ahead, pair_before, last_low, root_low}
use Rattle.inert.proofs.Signatures.{exact}

-- Each frame belongs to a state on the stack, and records which outgoing transitions of this state are still to be
-- read. Returns the data that result from the data w of the search if the last frame is removed. The stack of states
-- does not change.
abbrev pub popped : Search → Search
popped w = record w { frames = take (length w.frames - 1) w.frames }

module _ {u : Under} {signatures : List (List (ℕ × ℕ))} {w : Search} (walks : SearchInvariant u signatures w) where
  pub popped_size : length (popped w).frames ≡ length w.frames - 1
  popped_size = length-take-le (length w.frames - 1) w.frames (omega arith)

  popped_same : (i : ℕ) → i < length w.frames - 1 → (i < length (popped w).frames)
      × (frame_at (popped w).frames i ≡ frame_at w.frames i)
  popped_same i h = (omega (arith, popped_size, h), get_or-take (length w.frames - 1) w.frames i no_frame h)

  -- Each frame belongs to a state on the stack, and records which outgoing transitions of this state are still to be
  -- read. Suppose that a state with a frame is below the state of the last frame on the stack. If the last frame is
  -- popped, this lower state still has a frame.
  popped_framed : (p : ℕ) → p < here w → (i : ℕ) × (i < length w.frames) × ((frame_at w.frames i).height ≡ p)
      → (i : ℕ) × (i < length (popped w).frames) × ((frame_at (popped w).frames i).height ≡ p)
  popped_framed p before (i, low, is) = grind (arith, not_last walks i low, before, popped_same i, is)

  -- A component is a strongly connected set of states on the stack. Each frame belongs to a state on the stack, and
  -- records which outgoing transitions of this state are still to be read. These lemmas make two assumptions about the
  -- state of the last frame. First, all outgoing transitions of this state were read. Second, this state is not the
  -- first state of a component on the stack.
  module _ (some : 0 < length w.frames) (read : HasRead w) (apart : (last w.roots).height ≢ here w) where
    pop_keeps : KeepsStack w (popped w) (length w.stack)
    pop_keeps = grind arith

    -- The current state is the state whose outgoing transitions were just read. A component is a strongly connected set
    -- of states on the stack. The root of a component is its first state on the stack. If the current state is not a
    -- root, all roots are below the current state on the stack.
    earlier : All (λ r. r.height < here w) w.roots
    earlier i d h = grind (arith, last_most walks i d h, reached walks (length w.roots - 1) no_root, apart, h)

    entered_popped : (p t : ℕ) → IsBeingSearched w p t → IsFollowed signatures (popped w) p t
    entered_popped p t (i, low, is, to) = elim (cases_lt (i + 1) (length w.frames - 1)) [
      | inl low' ↦ inr (inr (grind (arith, popped_same i, popped_same (i + 1), low', is, to)))
      | inr high ↦
          let there : slice_index w.stack (here w) ≡ t = grind (arith, low, high, to) in
          let down : IsNotBelow w.roots (here w) p = λ j d h _.
          let (k, lk, height) = (walks.roots.each j d h).framed in
          let up = walks.frames.ascending k i no_frame in
          grind (arith, up, not_last walks k lk, earlier j d h, high, height, is, low) in
          let placed = walks.opened.placed (here w) (on_stack walks some) in
          inl (here w, rw there at placed, λ j d h _. reached walks j d h, down)
    ]

    ahead_popped : (p k : ℕ) → k < length u.l.places → source_of (place_at u.l.places k) ≡ slice_index w.stack p →
        IsToBeRead w p k → IsToBeRead (popped w) p k
    ahead_popped p k lk source (i, low, is, ahead) =
        grind (arith, popped_same i, none_ahead walks read p k i lk source low, low, is, ahead)

    SearchInvariant-pop : SearchInvariant u signatures (popped w)
    SearchInvariant-pop =
        let roots = roots_kept walks.roots (popped w).frames w.items (λ i d h.
        grind (arith, popped_framed, earlier i d h, walks.roots.each i d h)) in
        let frames : AreFrames u.l w.stack (popped w).frames =
        grind (arith, common_steps, AllPairs-take, walks.frames.ascending, All-take, walks.frames.each) in
        let accounted : AreHandled u signatures (popped w) =
        λ p k lp lk source. accounted_still (Grow-same signatures) walks pop_keeps p k lp lk source
        (λ ahead. inl (ahead_popped p k lk source ahead)) (entered_popped p) in
        search (rules, walks, roots, frames, accounted)

    -- A component is a strongly connected set of states on the stack. Each frame belongs to a state on the stack, and
    -- records which outgoing transitions of this state are still to be read. Suppose that all outgoing transitions of
    -- the state to which the last frame belongs were read, and that this state is not the first state of a component on
    -- the stack. If the search then removes the last frame, the invariant of the search still holds, and the number of
    -- visits (reads of transitions that the meter counts) that are still to be made does not change (`GoesOn`).
    pub popped_on : (counts : Counts) → GoesOn u signatures signatures counts counts w (popped w)
    popped_on counts = stays_on SearchInvariant-pop refl (omega (arith, rest-cut u.visited w.frames some read))

-- A component is a strongly connected set of states on the stack. Each frame belongs to a state on the stack, and
-- records which outgoing transitions of this state are still to be read. These lemmas make three assumptions. First,
-- all outgoing transitions of the state to which the last frame belongs were read. Second, this state is the first
-- state of a component on the stack. Third, the last frame was then popped, and this component was completed
-- (`Closes`).
module _ (laws : Laws) {u : Under} (lts : IsLts u.l) {before signatures : List (List (ℕ × ℕ))} {w new : Search}
    (walks : SearchInvariant u before w) (some : 0 < length w.frames) (read : HasRead w)
    (height : (last w.roots).height ≡ here w)
    (closes : Closes (last w.roots) before signatures (popped w) new) where
  -- A component is a strongly connected set of states on the stack. The component that is completed begins at the index
  -- q of the stack. The items of this component, which are pairs (label ID, block) and signature IDs, begin at the
  -- index `c0` of the list of items.
  abbrev q : ℕ
  q = (last w.roots).height

  abbrev c0 : ℕ
  c0 = (last w.roots).items

  signed : (p : ℕ) → q ≤ p → p < length w.stack → IsSigned u (slice_index w.stack p) signatures closes.id
  signed p high = exact laws lts walks some read height closes.listed p (omega (arith, high, height))

  low_q : q < length w.stack
  low_q = root_low walks (length w.roots - 1) no_root (last_low walks some)

  few : c0 ≤ length w.items
  few = (walks.roots.each (length w.roots - 1) no_root (last_low walks some)).within

  -- A component is a strongly connected set of states on the stack. Suppose that the component at the top of the stack
  -- begins at the index q of the stack. After this component was completed, exactly q states are on the stack.
  size : length new.stack ≡ q
  size = ap length closes.stack ∙ length-take-le q w.stack (omega (arith, low_q))

  state_same : (p : ℕ) → p < q → slice_index new.stack p ≡ slice_index w.stack p
  state_same p h = ap (λ l. slice_index l p) closes.stack ∙ get_or-take q w.stack p 0 h

  before_last : All (λ x. x.height < q) (popped w).frames
  before_last i d h = let frame = get_or_default w.frames (length w.frames - 1) d no_frame in
      grind (arith, get_or-take, popped_size walks, walks.frames.ascending i (length w.frames - 1) d, frame, height, h)

  same_unseen : (s : ℕ) → is_unvisited (stage_at new.stages s) ≡ is_unvisited (stage_at w.stages s)
  same_unseen s = grind (arith, closes.stages.others s, walks.opened.placed, closes.stages.members)

  closed_seen : KeepsVisited w.stages new.stages
  closed_seen = grind (arith, closes.stages.others, closes.stages.members, walks.opened.placed)

  closed_signs : SignsMore u signatures w.stages new.stages
  closed_signs s k is = ⊎_map (λ e. sym e ∙ is)
      (λ (m, from, high, same). grind (arith, closes.stages.members m, signed m, from, high, same, is))
      (closes.stages.others s)

  -- The stack is divided into components, which are strongly connected sets of states. Each component collects items:
  -- pairs (label ID, block) and signature IDs. The items of the completed component begin at the index `c0` of the list
  -- of items. The first `c0` items belong to other components, and do not change when the component is completed.
  item_same : (j : ℕ) → j < c0 → (j < length new.items) × (item_at new.items j ≡ item_at w.items j)
  item_same j h =
      grind (arith, closes.led, closes.alone, few, get_or_append_left, length-append, get_or-take, length-take-le)

  -- A component is a strongly connected set of states on the stack. The items that a component of the stack collects
  -- are pairs (label ID, block) and signature IDs. The items of the completed component began at the index `c0` of the
  -- list of items. Suppose that the search came to the completed component from a state of another component. Then the
  -- list of items now has `c0 + 1` items, and the last of these items is the signature ID of the completed component.
  item_new : 0 < length new.frames → (length new.items ≡ c0 + 1)
      × (item_at new.items c0 ≡ Interned closes.id)
  item_new more = grind (arith, common_steps, closes.led, closes.frames, more, length-take-le c0 w.items few)

  no_item : length new.frames ≡ 0 → length new.items ≡ c0
  no_item none = ap length (closes.alone (sym (ap length closes.frames) ∙ none)) ∙ length-take-le c0 w.items few

  each_item : (P : ℕ → Type 0) → ((j : ℕ) → j < c0 → P j) → (0 < length new.frames → P c0) → (j : ℕ) →
      j < length new.items → P j
  each_item P old last j low = grind (arith, old j, last, item_new, no_item, low)

  -- A component is a strongly connected set of states on the stack. The root of a component is its first state on the
  -- stack. Suppose that the last component is completed, and that its root is therefore removed from the list of roots.
  -- Then each remaining root is at the same index of the list of roots as before. Before the last component was
  -- completed, this root satisfied `IsRoot` and came before the removed root.
  root_left : (i : ℕ) (d : Root) → i < length new.roots → (i < length w.roots)
      × (get_or new.roots i d ≡ get_or w.roots i d) × IsRoot w.frames w.items (get_or w.roots i d)
      × IsBefore (get_or w.roots i d) (last w.roots)
  root_left i d h = let n = length w.roots - 1 in
      let last = get_or_default w.roots n d no_root in
      let same = get_or-take n w.roots i d in
      let before = walks.roots.ascending i n d in
      grind (arith, h, closes.roots, length-take-le n w.roots, last, same, before, walks.roots.each i)

  -- A component is a strongly connected set of states on the stack. The root of a component is its first state on the
  -- stack. Suppose that the last component of the search w is completed, and that its root is therefore removed from
  -- the list of roots. If a property P holds for each remaining root and for the removed root, it holds for each root
  -- of w.
  root_back : (P : Root → Type 0) → All P new.roots → P (last w.roots) → All P w.roots
  root_back P all here = All-from_take P (length w.roots - 1) w.roots no_root (rw (← closes.roots) all)
      (λ i high low. let e : i ≡ length w.roots - 1 = omega (arith, high, low) in rw e here)

  keeps : KeepsStack w new q
  keeps = record {
    within = omega (arith, low_q);
    states = state_same;
    below = λ p r h low up. let le = up (length w.roots - 1) no_root (last_low walks some) in grind (arith, le, h);
    roots = λ i d h. let remaining = root_left i d h in inl (remaining.0, remaining.1);
    items = λ j p low h of. item_same j ((of (length w.roots - 1) no_root (last_low walks some)).1 h);
    opened = λ s p low is. grind (arith, closes.stages.others s, walks.opened.only s p, walks.opened.placed);
    finished = closed_seen.finished;
  }

  -- A component is a strongly connected set of states on the stack. The search came from some state to the completed
  -- component. The number `back` is the index of this state on the stack.
  abbrev back : ℕ
  back = (frame_at w.frames (length w.frames - 2)).height

  back_low : 0 < length new.frames → back < q
  back_low more = grind (arith, closes.frames, popped_size walks, walks.frames.ascending, height, more)

  -- A component is a strongly connected set of states on the stack. The root of a component is its first state on the
  -- stack. Suppose that the search came to the completed component from a state of another component. Then no remaining
  -- root is higher on the stack than this state.
  up_to_back : 0 < length new.frames → All (λ r. r.height ≤ back) new.roots
  up_to_back more k d h = let (low, same, root, before) = root_left k d h in let (i, li, is) = root.framed in
      let less = not_last walks i li (omega (arith, is, before.0, height)) in
      grind (arith, walks.frames.ascending i (length w.frames - 2) no_frame, less, is, same)

  of_back : 0 < length new.frames → BelongsTo new.roots c0 back
  of_back more i d h = grind (arith, root_left i d h, up_to_back more i d h)

  back_holds : 0 < length new.frames → (z : ℕ × ℕ) → Contains (list_at signatures closes.id) z →
      ComponentHasPair signatures new back z
  back_holds more z c = (c0, omega (arith, (item_new more).0), rw (item_new more).1 c, of_back more)

  entered_still : (p t : ℕ) → IsBeingSearched w p t → IsFollowed signatures new p t
  entered_still p t (i, low, is, to) = elim (cases_eq (i + 1) (length w.frames - 1)) [
    | inl e ↦
        let more : 0 < length new.frames = omega (arith, e, popped_size walks, ap length closes.frames) in
        let at : back ≡ p = grind (arith, e, is) in
        let there : slice_index w.stack q ≡ t = grind (arith, e, height, to) in
        inr (inl (closes.id, grind (arith, there, closes.stages.members q, low_q), rw (← at) (back_holds more)))
    | inr d ↦
        let before = before_last (i + 1) no_frame in let same = popped_same walks in
        inr (inr (grind (arith, same i, same (i + 1), closes.frames, low, d, is, to, state_same, before)))
  ]

  opened : AreOpen new.stages new.stack
  opened = record {
    placed = λ p h. grind (arith, h, size, state_same p, keeps.opened (slice_index w.stack p) p, walks.opened.placed p);
    only = λ s p is.
        grind (arith, closes.stages.others s, closes.stages.members, walks.opened.only s p, state_same p, is, size);
  }

  sound : AreSound u signatures new
  sound = each_item (IsSound u signatures new)
      (λ j h. sound_still closes.listed.grow walks keeps j (omega (arith, h, few)) (omega (arith, size))
      (λ p lp of. let le = (of (length w.roots - 1) no_root (last_low walks some)).0 in grind (arith, le, h)))
      (λ more. let low = back_low more in (
        back,
        omega (arith, low, size),
        of_back more,
        λ z g. rw (state_same back low) (pair_before laws u (slice_index w.stack back) (slice_index w.stack q) z
            (walks.connects back q (omega (arith, low, low_q)) low_q (λ i d h le. omega (arith, le, low)))
            (((signed q (omega arith) low_q).signature.exactly z.0 z.1).0 (rw (item_new more).1 at g))),
      ))

  SearchInvariant-closed : SearchInvariant u signatures new
  SearchInvariant-closed = record {
    sizes = let same = unseen-same w.stages new.stages same_unseen closes.stages.size in
        omega (arith, closes.stages.size, same, walks.sizes, size, low_q, closes.listed.grow.longer);
    opened = opened;
    signed = λ s k is. let still = kept_still closes.listed.grow u w.stages new.stages closed_seen.finished s k in
        grind (arith, closed_signs s k is, still, walks.signed s k);
    roots = record {
      first = λ h all. walks.roots.first (omega (arith, low_q)) (root_back (λ r. 0 < r.height) all
          (omega (arith, h, size)));
      ascending = rw closes.roots (AllPairs-take IsBefore (length w.roots - 1) w.roots walks.roots.ascending);
      each = λ i d h. let (low, same, root, before) = root_left i d h in
          let framed = popped_framed walks _ (omega (arith, before.0, height)) root.framed in
          let room : c0 ≤ length new.items = grind (arith, item_new, no_item) in
          rw (same, closes.frames) (record { framed = framed; within = omega (arith, before.1, room) });
    };
    frames = rw closes.frames (record {
      ascending = AllPairs-take (λ x y. x.height < y.height) (length w.frames - 1) w.frames walks.frames.ascending;
      each = λ i d h. let was = All-take (IsFrame u.l w.stack) (length w.frames - 1) w.frames walks.frames.each i d h in
          grind (arith, was, before_last i d h, size, state_same);
    });
    connects = λ p r lp lr h. let back = root_back (λ x. x.height ≤ p → x.height ≤ r) h in
        grind (arith, lp, lr, size, low_q, state_same, walks.connects p r, back);
    there = let within = (signed q (omega arith) low_q).within in
        All-from_get_or (IsInternedItem signatures) new.items (Pair 0 0)
        (each_item (λ j. IsInternedItem signatures (item_at new.items j))
        (λ j h. grind (arith, item_same j h, walks.there j (Pair 0 0), few, closes.listed.grow.longer))
        (λ more. grind (arith, item_new more, within)));
    sound = sound;
    accounted = λ p k lp lk source.
        let low : p < q = omega (arith, lp, size) in
        accounted_still closes.listed.grow walks keeps p k low lk source (λ (i, li, is, ahead).
        inl (grind (arith, not_last walks i li, low, height, popped_same walks i, closes.frames, is, ahead)))
        (entered_still p);
  }

  -- A component is a strongly connected set of states on the stack. Suppose that the component at the top of the stack
  -- is completed. Then the invariant of the search still holds, and the number of visits (reads of transitions that the
  -- meter counts) that are still to be made does not change (`GoesOn`). The number of unvisited states does not change
  -- either.
  pub closed : ((counts : Counts) → GoesOn u before signatures counts counts w new)
      × (unseen new.stages ≡ unseen w.stages)
  closed =
      let cut = rest-cut u.visited w.frames some read in
      let frames = ap (rest u.visited) closes.frames in (
        λ counts. let spends : Spends u counts counts w new =
            omega (arith, unread-same w.stages new.stages same_unseen (remaining u), cut, frames) in
            search (rules, SearchInvariant-closed, closes.listed.grow, closed_seen, closed_signs, spends),
        unseen-same w.stages new.stages same_unseen closes.stages.size,
      )
