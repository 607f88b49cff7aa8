use Rattle.std.proofs.Common.{◌≡◌, ◌⊎◌, ℕ, ◌<◌, length, slice_index}
use Rattle.partition.specs.Blocks.{IsMember}
use Rattle.inert.specs.Search.{stage_at, Unvisited}
use Rattle.inert.proofs.depth_first_search.DepthFirstSearch.mark_unvisited.Given as goal

abbrev pub invariant-loop-s : goal.invariant-loop-s
invariant-loop-s l = let stages = l.stages.items in record {
  size : length stages ≡ length l.fn.self.stages;
  unvisited : (i : ℕ) → i < l.s-index → stage_at stages (slice_index l.active i) ≡ Unvisited;
  others : (s : ℕ) → IsMember l.active s ⊎ (stage_at stages s ≡ stage_at l.fn.self.stages s);
}
