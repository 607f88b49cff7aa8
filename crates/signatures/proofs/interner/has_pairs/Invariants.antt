use Rattle.std.proofs.Common.{ℕ, ◌<◌, Contains, slice_index_or}
use Rattle.signatures.specs.Lists.{list_at}
use Rattle.signatures.proofs.interner.has_pairs.Given as goal

abbrev pub invariant-loop-pair : goal.invariant-loop-pair
invariant-loop-pair l = (i : ℕ) → i < l.pair-index → Contains (list_at l.lists l.k) (slice_index_or l.pairs i (0, 0))
