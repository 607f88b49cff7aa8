-- Lemmas about the data of the search while no search is in progress, before and after the search has completed the
-- active states, which are the states that the round processes. Some of these lemmas are about two lists of signature
-- IDs. The first list contains the ID of the cached signature of each state. The second list contains the IDs that are
-- used to split the blocks.
use Rattle.std.proofs.Common.{rules, ◌≡◌, ◌⊎◌, ◌∙◌, ℕ, ◌<◌, ◌≤◌, List, length, slice_index, refl, sym, ap, arith}
use Rattle.std.proofs.Math.ListN.{get_or-map}
use Rattle.std.proofs.lemmas.List.{get_or_past, length-map, nil_from_length, get_or_default}
use Rattle.std.proofs.lemmas.{Bool.cases_lt, List.Sums.count_by-le-length, Grind.common_steps}
use Rattle.lts.specs.Meter.{Counts}
use Rattle.partition.specs.Blocks.{IsMember, InactiveHaveNone}
use Rattle.inert.specs.Search.{Search, nothing, stage_at, id_of, cached, AreCacheable, IsFinished, HasEnded}
use Rattle.inert.specs.Search.{AreMarkedUnvisited, HasVisitStates, is_unvisited, SearchInvariant, Unvisited, OnStack}
use Rattle.inert.specs.{Search.Completed, Search.VisitState, Steps.Under, Signed.CachesBeside, Signed.SignsActive}
use Rattle.inert.specs.{Signed.IsIdIfChanged, SearchMoves.IsAtRest, SearchMoves.ReturnsToRest}
use Rattle.inert.proofs.Invariant.{no_root, frames_some, root_low}

-- The status of a completed state contains a signature ID. The cached signature ID of a state is the ID that its status
-- contains, or 0 if the state is not completed. If the number s is at least the number of states, this ID is 0.
pub cached_at : (stages : List VisitState) (s : ℕ) → slice_index (cached stages) s ≡ id_of (stage_at stages s)
cached_at stages s = get_or-map id_of stages s Unvisited

-- These lemmas make two assumptions. First, all states were completed. Second, the active states, which are the states
-- that the round processes, were then marked as unvisited.
module _ {active : List ℕ} {old w : Search} (woken : AreMarkedUnvisited old.stages active w) (over : HasEnded old) where
  others : (s : ℕ) → s < length w.stages → IsMember active s ⊎ IsFinished w.stages s
  others s h = grind (arith, h, over.all s, woken.size, woken.others s)

  pub unvisited : (s : ℕ) → IsMember active s → stage_at w.stages s ≡ Unvisited
  unvisited s one = ap (stage_at w.stages) (sym one.2) ∙ woken.unvisited one.0 one.1

  -- Each state has the status `Unvisited` or `Completed`. States are numbers, and a number s that is not a state of the
  -- system has the status `Unvisited` by default.
  unless_finished : (s : ℕ) → (stage_at w.stages s ≡ Unvisited) ⊎ IsFinished w.stages s
  unless_finished s = let past = get_or_past w.stages s Unvisited in
      grind (arith, cases_lt s (length w.stages), past, others s, unvisited s)

  -- The active states are the states that the round processes, and they are marked as unvisited. Suppose that at least
  -- one signature is interned. Suppose also that each cached signature ID is the ID of an interned signature. If a
  -- state is not active but shares a block with an active state, the cached ID of this state must be the ID of its
  -- branching signature (`CachesBeside`). Then no search is in progress, and the invariant of the search holds
  -- (`IsAtRest`). So a search can begin.
  pub woken_rests : {u : Under} {signatures : List (List (ℕ × ℕ))}
      → CachesBeside u.l u.blocks active signatures (cached old.stages) → 1 ≤ length signatures
      → IsAtRest u signatures w
  woken_rests {u = u} {signatures = signatures} had some =
      let size : length old.stages ≡ u.l.states = sym (length-map old.stages id_of) ∙ had.states in
      let signed : AreCacheable u signatures w.stages = λ s k is.
      let inside : s < length old.stages = grind (arith, get_or_past w.stages s Unvisited, is, woken.size) in
      let id : slice_index (cached old.stages) s ≡ k =
      grind (arith, woken.others s, unvisited s, is, cached_at old.stages s) in
      record {
        within = let within = had.each s 0 in grind (arith, id, within, inside, length-map old.stages id_of);
        signature = λ t low block.
            grind (arith, others t, had.beside s t, size, inside, low, block, id, woken.size, unvisited s, is);
      } in
      let sizes : HasVisitStates u.l.states (length signatures) 0 w.stages =
      omega (arith, woken.size, size, some, count_by-le-length is_unvisited w.stages) in
      record {
        empty = woken.empty;
        walks = rw woken.empty (grind (arith, sizes, unless_finished, signed));
      }

finished_stage : (m : VisitState) → ¬ (m ≡ Unvisited) → ((p : ℕ) → ¬ (m ≡ OnStack p)) → (k : ℕ) × (m ≡ Completed k)
finished_stage Unvisited seen shut = absurd (seen refl)
finished_stage (OnStack p) seen shut = absurd (shut p refl)
finished_stage (Completed k) seen shut = (k, refl)

module _ {u : Under} {signatures : List (List (ℕ × ℕ))} {w : Search} (rests : IsAtRest u signatures w) where
  pub within : {s : ℕ} → s < u.l.states → s < length w.stages
  within inside = let size = rests.walks.sizes.size in omega (arith, size, inside)

  -- If no search is in progress (`IsAtRest`), each visited state is completed.
  pub finished : (s : ℕ) → ¬ (stage_at w.stages s ≡ Unvisited) → IsFinished w.stages s
  finished s found = finished_stage (stage_at w.stages s) found
      (λ p is. let on = rests.walks.opened.only s p is in omega (arith, on.0, ap (λ w. length w.stack) rests.empty))

-- Each frame belongs to a state on the stack, and records which outgoing transitions of this state are still to be
-- read. Suppose that the invariant of the search holds, and that there is no frame. Then no search is in progress,
-- which means that the stack and all other lists of the search are empty.
pub walk_rests : {u : Under} {signatures : List (List (ℕ × ℕ))} {w : Search} → SearchInvariant u signatures w
    → length w.frames ≡ 0 → w ≡ nothing w.stages
walk_rests {w = w} walks none =
    let stack : length w.stack ≡ 0 = grind (arith, frames_some walks, none) in
    let roots : length w.roots ≡ 0 = grind (arith, root_low walks 0 no_root, stack) in
    let items : length w.items ≡ 0 = grind (arith, walks.sound 0, stack) in
    search (rules, w.stages, stack, nil_from_length, w.stack, w.frames, roots, w.roots, items)

-- The active states are the states that the round processes. These lemmas assume that three events happened one after
-- the other. First, all states were completed. Second, the active states were marked as unvisited. Third, the search
-- has completed the active states again.
module _ {u : Under} {before signatures : List (List (ℕ × ℕ))} {active : List ℕ} {earlier later : Counts}
    {first woken done : Search} (had : CachesBeside u.l u.blocks active before (cached first.stages))
    (over : HasEnded first) (woke : AreMarkedUnvisited first.stages active woken)
    (back : ReturnsToRest u before signatures earlier later woken done)
    (all : (i : ℕ) → i < length active → IsFinished done.stages (slice_index active i)) where
  abbrev now : List ℕ
  now = cached done.stages

  states : length first.stages ≡ u.l.states
  states = sym (length-map first.stages id_of) ∙ had.states

  its : (s : ℕ) → IsMember active s → IsFinished done.stages s
  its s (i, low, is) = rw (← is) (all i low)

  pub over_again : HasEnded done
  over_again = let size = back.on.walks.sizes.size in let seen = back.on.seen.finished in
      record {
        empty = back.empty;
        all = λ s h. grind (arith, h, woke.others s, its s, over.all s, size, states, seen s);
      }

  -- The active states are the states that the round processes. These lemmas make three assumptions. First, each state
  -- that is not active has the ID 0 in the list `signature_ids`. Second, the list `put` contains, for each active
  -- state, the ID that was cached for this state before the search. Third, the list `signature_ids` results from `put`
  -- when each of these IDs is replaced, after the search, by the ID that is used to split the block of the state.
  module _ (put signature_ids : List ℕ) (none : InactiveHaveNone active signature_ids)
      (were : (i : ℕ) → i < length active → let s = slice_index active i in
      slice_index put s ≡ id_of (stage_at first.stages s))
      (show : (i : ℕ) → i < length active → let s = slice_index active i in
      IsIdIfChanged (slice_index put s) (id_of (stage_at done.stages s)) (slice_index signature_ids s)) where
    all_shown : (s : ℕ) → IsMember active s →
        IsIdIfChanged (slice_index (cached first.stages) s) (slice_index now s) (slice_index signature_ids s)
    all_shown s one = grind (arith, common_steps, cached_at, first.stages, done.stages)

    -- The active states are the states that the round processes. After the search, the cached signature ID of each
    -- active state is the ID of its signature, and the cached signature ID of every other state has not changed
    -- (`SignsActive`).
    pub signs_active : SignsActive u.l u.blocks active before signatures (cached first.stages) now signature_ids
    signs_active = record {
      grow = back.on.grow;
      states = length-map done.stages id_of ∙ back.on.walks.sizes.size;
      each = λ s d h. let size = length-map done.stages id_of in let is = get_or_default now s 0 d h in
          grind (arith, over_again.all s, size, cached_at done.stages s, is, back.on.walks.signed s);
      signed = λ s one. grind (arith, its s one, cached_at done.stages s, back.on.signs s, unvisited woke over s one);
      still = λ s. let inside = cases_lt s (length first.stages) in let size = back.on.walks.sizes.size in
          grind (arith, inside, woke.others s, over.all s, cached_at, back.on.seen, get_or_past, states, size);
      ids = λ s d h. let is = get_or_default signature_ids s 0 d h in let walks = back.on.walks in
          grind (arith, is, none s h, all_shown s, its s, walks.signed s, cached_at done.stages s, walks.sizes);
      changed = all_shown;
    }
