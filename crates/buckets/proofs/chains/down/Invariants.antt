use Rattle.std.proofs.Common.{◌≡◌, ℕ, ◌+◌, ◌<◌}
use Rattle.buckets.specs.{Buckets.tag_at, Chains.tags_of, Chains.IsInChain}
use Rattle.buckets.proofs.chains.down.Given as goal

abbrev pub invariant-loop-r : goal.invariant-loop-r
invariant-loop-r l = record {
  chain : IsInChain l.entries l.tag l.r;
  below : l.r < l.fn.first + 1;
  above : (q : ℕ) → l.r < q → q < l.fn.first + 1 → tag_at (tags_of l.entries) q ≡ l.tag → ⊥;
}

abbrev pub decreases-loop-r : goal.decreases-loop-r
decreases-loop-r l = l.r
