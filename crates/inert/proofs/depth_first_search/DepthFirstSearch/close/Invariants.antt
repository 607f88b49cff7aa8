use Rattle.std.proofs.Common.{◌≡◌, ◌⊎◌, ℕ, ◌<◌, ◌≤◌, length, slice_index, All}
use Rattle.inert.specs.Search.{stage_at, Completed}
use Rattle.inert.proofs.depth_first_search.DepthFirstSearch.close.Given as goal

abbrev pub invariant-loop-p : goal.invariant-loop-p
invariant-loop-p l = let stages = l.stages.items in let stack = l.stack.items in record {
  inside : All (λ s. s < length stages) stack;
  size : length stages ≡ length l.fn.self.stages;
  members : (q : ℕ) → l.root.height ≤ q → q < l.p → stage_at stages (slice_index stack q) ≡ Completed l.id;
  others : (s : ℕ) → (stage_at stages s ≡ stage_at l.fn.self.stages s)
      ⊎ ((q : ℕ) × (l.root.height ≤ q) × (q < l.p) × (slice_index stack q ≡ s));
}
