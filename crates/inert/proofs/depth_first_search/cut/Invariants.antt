use Rattle.std.proofs.Common.{ℕ, ◌<◌, ◌≤◌, length}
use Rattle.inert.specs.Search.{root_at}
use Rattle.inert.proofs.depth_first_search.cut.Given as goal

abbrev pub invariant-loop-count : goal.invariant-loop-count
invariant-loop-count l = record {
  within : l.count ≤ length l.roots.items;
  above : (i : ℕ) → l.count ≤ i → i < length l.roots.items → l.height < (root_at l.roots.items i).height;
}

abbrev pub decreases-loop-count : goal.decreases-loop-count
decreases-loop-count l = l.count
