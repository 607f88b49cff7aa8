use Rattle.std.proofs.Common.{ℕ, ◌+◌, ◌<◌, ◌≡◌, ◌-◌, ◌≤◌, ◌∷◌, length}
use Rattle.lts.specs.{Lts.place_at, Lts.target_of, Meter.Costs}
use Rattle.quotient_core.specs.{Numbers.IsMarked, Search.Searches, Search.places_ahead}
use Rattle.quotient_core.proofs.search.Search.mark_targets.Given as goal

abbrev pub invariant-loop-k : goal.invariant-loop-k
invariant-loop-k g l = record {
  search : Searches l.l l.self.marked.items l.next (l.s ∷ l.self.queue.items);
  read : (j : ℕ) → l.start ≤ j → j < l.k → IsMarked l.self.marked.items (target_of (place_at l.l.places j));
  queue : length l.self.queue.items ≤ length l.initial.self.queue.items + (l.k - l.start);
  places : places_ahead l.l.places l.next l.self.marked.items l.self.queue.items
      ≡ places_ahead l.l.places l.next l.initial.self.marked.items l.initial.self.queue.items;
  visits : Costs (g.M.Meter.counted l.initial.m) (g.M.Meter.counted l.m) 0 (l.k - l.start) (l.k - l.start);
}
