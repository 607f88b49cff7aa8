-- A visit is a read of a transition that the meter counts. The first lemmas of this file are about the number of visits
-- that two successive calls make, and about the number of transitions of the states in a set. None of the calls begins
-- a round. The other lemmas are about the search for the reachable states. They describe how two sets change when the
-- search marks a state or reads the transitions of a state: the set of the marked states, and the set of the
-- transitions that the search may still read.
use Rattle.std.proofs.Common.{rules, ◌≡◌, ℕ, ◌+◌, ◌≤◌, Bool, cond, List, length, ◌≢◌, sum_by, ap, ◌⊎◌, ◌<◌, true, false}
use Rattle.std.proofs.Common.{not, ◌&&◌, eqb, ltb, [], ◌∷◌, ◌++◌, get_or, set, replicate, Contains, refl, inl, inr}
use Rattle.std.proofs.Common.{arith, get_or-set_same, get_or-set_other, length-set, append-nil}
use Rattle.std.proofs.lemmas.{List.get_or_default, List.length-replicate, List.get_or_past, Grind.common_steps}
use Rattle.std.proofs.lemmas.{Bool.Decides.nat_tests, Bool.cases_eq, Bool.cases_Bool, Bool.both_ways}
use Rattle.std.proofs.lemmas.List.Sums.{length-filter, count_by-le-length, sum_by_push, sum_by-cons}
use Rattle.std.proofs.lemmas.List.Elements.{Contains-append_cases, Contains-append_left, Contains-append_right}
use Rattle.lts.proofs.CallerLemmas.{length-filter-sum}
use Rattle.lts.specs.Lts.{Triple, source_of, row_of, Grouped, system_of}
use Rattle.lts.specs.Meter.{Counts, HasRoomFor, Costs}
use Rattle.quotient_core.specs.{Triples.rows_of, Numbers.IsMarked, declared.search.Search.Search}
use Rattle.quotient_core.specs.Search.{MarksState, Searches, ReadsOnce, is_ahead, places_ahead}
use Rattle.theory.specs.System.{Step, Reachable}
use Rattle.theory.proofs.CallerLemmas.{contains_here, contains_there, contains_cases, contains_none}

-- Suppose that one call makes at most `first` visits (reads of transitions that the meter counts), and that the next
-- call makes at most `second` visits. Then the two calls together make at most `first + second` visits.
pub visits_then : {old mid new : Counts} {first second most : ℕ} → Costs old mid 0 0 first → Costs mid new 0 0 second →
    first + second ≤ most → Costs old new 0 0 most
visits_then before after fits = search rules

-- The meter counts visits, which are reads of transitions. Suppose that, at some time, the meter could count `all` more
-- visits without overflow. Suppose also that the meter has counted at most `few` visits since then, and that `few +
-- row` is at most `all`. Then the meter can still count `row` more visits without overflow.
pub room_after : {old mid : Counts} {all few row : ℕ} → HasRoomFor old 0 all → Costs old mid 0 0 few → few + row ≤ all →
    HasRoomFor mid 0 row
room_after room cost fits = search rules

-- `Parts` holds if each state that satisfies p satisfies exactly one of q and r, and each other state satisfies neither
-- q nor r.
abbrev pub Parts : (ℕ → Bool) → (ℕ → Bool) → (ℕ → Bool) → Type 0
Parts p q r = (s : ℕ) → cond (p s) 1 0 ≡ cond (q s) 1 0 + cond (r s) 1 0

pub rows_part : (p q r : ℕ → Bool) → Parts p q r → (places : List Triple) →
    length (rows_of p places) ≡ length (rows_of q places) + length (rows_of r places)
rows_part p q r parts places = length-filter-sum (λ e. p (source_of e)) (λ e. q (source_of e)) (λ e. r (source_of e))
    (λ e. parts (source_of e)) places

pub rows_few : (p : ℕ → Bool) (places : List Triple) → length (rows_of p places) ≤ length places
rows_few p places = search (rules, length-filter, count_by-le-length)

-- `Follows` holds if the following is true for each marked state u that the scan of the search has passed and that is
-- not in the queue `waiting`. If the relation R leads from u to a state v with some label, then v is marked. The search
-- scans the states in ascending order, and has passed all states that are less than `next`.
abbrev pub Follows : (ℕ → List ℕ → ℕ → Type 0) → List Bool → ℕ → List ℕ → Type 0
Follows R marked next waiting =
    (u v : ℕ) (a : List ℕ) → u < next → IsMarked marked u → R u a v → Contains waiting u ⊎ IsMarked marked v

-- Suppose that the list of marks contains exactly one entry for each state of the system. Then each number that is
-- marked is a state of the system.
pub marked_below : (states : ℕ) (marked : List Bool) (s : ℕ) → length marked ≡ states → IsMarked marked s → s < states
marked_below states marked s size m = search (rules, both_ways, get_or_past)

-- Suppose that only the first state is marked, that the queue is empty, and that no transition was read yet. Then the
-- invariant of the search (`ReadsOnce`) holds.
pub ReadsOnce-first : (g : Grouped) (at : Counts) → g.first < g.states →
    ReadsOnce g (set (replicate g.states false) g.first true) 0 [] at at
ReadsOnce-first g at below = record {
  search =
      let reached : Reachable (system_of g) g.first = ([], refl) in
      let none : (s : ℕ) → get_or (replicate g.states false) s false ≡ false = λ s. grind (arith, common_steps) in
      search (rules, length-replicate, both_ways, none, get_or-set_other, contains_none);
  visits =
      (0, search rules, omega (arith, rows_few (is_ahead 0 (set (replicate g.states false) g.first true)) g.places));
}

-- The search scans the states in ascending order. The following lemmas are about the step in which the search marks a
-- state t. If t was not marked before, and the scan has already passed t, then the search puts t into the queue.
module _ {t next : ℕ} {old new : Search} (marks : MarksState t next old new) (l : t < length old.marked.items) where
  -- When the state t is marked, the marks of all other states stay the same.
  pub mark_at : (u : ℕ) → ((u ≡ t) × (get_or new.marked.items u false ≡ true))
      ⊎ ((u ≢ t) × (get_or new.marked.items u false ≡ get_or old.marked.items u false))
  mark_at u = let other = get_or-set_other old.marked.items t u true false in
      rw marks.marked (grind (arith, cases_eq u t, get_or-set_same old.marked.items t true false l, other))

  abbrev waits : Bool
  waits = ltb t next && not (get_or old.marked.items t false)

  follows_mark : (R : ℕ → List ℕ → ℕ → Type 0) (waiting : List ℕ) → Follows R old.marked.items next waiting →
      Follows R new.marked.items next (waiting ++ cond waits (t ∷ []) [])
  follows_mark R waiting on u v a low m r =
      let same = Contains-append_left waiting (cond waits (t ∷ []) []) u in
      let put = contains_here t [] in
      let added = Contains-append_right waiting (cond waits (t ∷ []) []) t in
      grind (arith, nat_tests, mark_at u, cases_Bool waits, on u v a, put, added, same, mark_at v)

  -- Suppose that the invariant of the search (`Searches`) holds, and that the state s is at the front of the queue.
  -- Suppose that the search then marks a state t, which is reachable if s is reachable. Then the invariant still holds.
  pub Searches-step : (g : Grouped) (s : ℕ) → (Reachable (system_of g) s → Reachable (system_of g) t) →
      Searches g old.marked.items next (s ∷ old.queue.items) → Searches g new.marked.items next (s ∷ new.queue.items)
  Searches-step g s reached held =
      let way = reached (held.only_reachable s (held.each_waiting s (contains_here s old.queue.items))) in
      let waiting = s ∷ old.queue.items in
      let on = follows_mark (Step (system_of g)) waiting held.followed in
      let size : length new.marked.items
      ≡ g.states = rw marks.marked (omega (arith, length-set {A = Bool}, held.size)) in
      let each : (u : ℕ) → Contains (waiting ++ cond waits (t ∷ []) []) u → IsMarked new.marked.items u =
      λ u c. let parts = Contains-append_cases waiting (cond waits (t ∷ []) []) u c in
      grind (arith, nat_tests, parts, contains_cases t [] u, contains_none u, held.each_waiting u, mark_at u) in
      let only : (u : ℕ) → IsMarked new.marked.items u → IsMarked old.marked.items u ⊎ (t ≡ u) =
      λ u m. grind (arith, mark_at u) in
      let keeps : (u : ℕ) → IsMarked old.marked.items u → IsMarked new.marked.items u =
      λ u m. grind (arith, mark_at u) in
      rw marks.queue (search (rules, held, size, way, each, on, only, keeps))

  -- When the state t is marked, the number of transitions that the search may still read stays the same.
  pub places_ahead-marks : (places : List Triple) → places_ahead places next new.marked.items new.queue.items
      ≡ places_ahead places next old.marked.items old.queue.items
  places_ahead-marks places = let row = λ (s : ℕ). length (row_of s places) in elim (cases_Bool waits) [
    | inl w ↦
        let less = rows_part (is_ahead next old.marked.items) (is_ahead next new.marked.items) (λ s. eqb s t)
        (λ s. grind (arith, nat_tests, mark_at s, w)) places in
        rw (marks.queue, w) (omega (arith, less, sum_by_push row old.queue.items t))
    | inr w ↦
        let same : (s : ℕ) → is_ahead next new.marked.items s ≡ is_ahead next old.marked.items s =
        λ s. grind (arith, nat_tests, mark_at s, w) in
        rw (marks.queue, w, append-nil)
        (ap (λ p. length (rows_of p places) + sum_by row old.queue.items) (λ i u. same u i))
  ]

-- The following lemmas assume that the invariant of the search holds (`ReadsOnce`). The search scans the states in
-- ascending order, and the scan passes the state `next`.
module _ {g : Grouped} {marked : List Bool} {next : ℕ} {waiting : List ℕ} {old mid : Counts}
    (reads : ReadsOnce g marked next waiting old mid) where
  -- If the state `next` is marked, it is added at the front of the queue. The invariant of the search (`ReadsOnce`)
  -- then holds after the scan has passed `next`.
  pub ReadsOnce-pass : {b : Bool} {states : ℕ} → states ≡ g.states → next < states → b ≡ get_or marked next b → b ≡ true
      → ReadsOnce g marked (next + 1) (next ∷ waiting) old mid
  ReadsOnce-pass all low e m =
      let held = reads.search in
      let size = held.size in
      let here : IsMarked marked next = grind (arith, get_or_default) in
      let there = contains_there next waiting in
      let on : Follows (Step (system_of g)) marked (next + 1) (next ∷ waiting) =
      λ u v a l m r. grind (arith, cases_eq u next, held.followed u v a, contains_here next waiting, there u) in
      let each : (u : ℕ) → Contains (next ∷ waiting) u → IsMarked marked u = search rules in
      let part = rows_part (is_ahead next marked) (is_ahead (next + 1) marked) (λ u. eqb u next)
      (λ u. grind (arith, nat_tests, cases_eq u next, here)) g.places in
      let row = sum_by-cons (λ (t : ℕ). length (row_of t g.places)) next waiting in
      record {
        search = search (rules, held, each, on);
        visits = (reads.visits.0, reads.visits.1, omega (arith, reads.visits.2, part, row));
      }

  -- If the state `next` is not marked, the invariant of the search (`ReadsOnce`) holds after the scan has passed
  -- `next`, with the same queue.
  pub ReadsOnce-skip : get_or marked next false ≡ false → ReadsOnce g marked (next + 1) waiting old mid
  ReadsOnce-skip unmarked =
      let held = reads.search in
      let on : Follows (Step (system_of g)) marked (next + 1) waiting =
      λ u v a l m r. grind (arith, cases_eq u next, held.followed u v a, unmarked) in
      let same : (u : ℕ) → is_ahead next marked u ≡ is_ahead (next + 1) marked u =
      λ u. grind (arith, nat_tests, cases_eq u next, unmarked) in
      let rows = ap (λ (p : ℕ → Bool). length (rows_of p g.places)) (λ i u. same u i) in
      record {
        search = search (rules, held, on);
        visits = (reads.visits.0, reads.visits.1, omega (arith, rows, reads.visits.2));
      }

-- The following lemmas assume that the invariant of the search holds (`ReadsOnce`), and that the state s is at the
-- front of the queue. The search removes s from the queue, and reads the transitions of s. A visit is a read of a
-- transition that the meter counts.
module _ {g : Grouped} {marked : List Bool} {next s : ℕ} {waiting : List ℕ} {old mid : Counts}
    (reads : ReadsOnce g marked next (s ∷ waiting) old mid) where
  abbrev row : ℕ
  row = length (row_of s g.places)

  -- If the state s is removed from the front of the queue, the number of transitions that the search may still read
  -- decreases by the number of transitions of s.
  pub row_ahead : places_ahead g.places next marked (s ∷ waiting) ≡ places_ahead g.places next marked waiting + row
  row_ahead = omega (arith, sum_by-cons (λ t. length (row_of t g.places)) s waiting)

  pub ReadsOnce-room : HasRoomFor old 0 (length g.places) → HasRoomFor mid 0 row
  ReadsOnce-room room = room_after room reads.visits.1 (omega (arith, row_ahead, reads.visits.2))

  module _ {new : Counts} (costs : Costs mid new 0 0 row) where
    pub ReadsOnce-visits : Costs old new 0 0 (length g.places)
    ReadsOnce-visits = visits_then reads.visits.1 costs (omega (arith, row_ahead, reads.visits.2))

    pub ReadsOnce-row : {more : List Bool} {left : List ℕ} → places_ahead g.places next more left
        ≡ places_ahead g.places next marked waiting → Searches g more next left → ReadsOnce g more next left old new
    ReadsOnce-row e held =
        let v = reads.visits.0 + row in
        let visits = visits_then {most = v} reads.visits.1 costs (omega arith) in
        record { search = held; visits = (v, visits, omega (arith, reads.visits.2, row_ahead, e)) }
