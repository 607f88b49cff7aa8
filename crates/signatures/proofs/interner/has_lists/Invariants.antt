use Rattle.std.proofs.Common.{ℕ, ◌<◌, slice_index}
use Rattle.signatures.specs.{Lists.list_at, Extensions.Includes}
use Rattle.signatures.proofs.interner.has_lists.Given as goal

abbrev pub invariant-loop-j : goal.invariant-loop-j
invariant-loop-j l =
    (i : ℕ) → i < l.j-index → Includes (list_at l.lists l.k) (list_at l.lists (slice_index l.ids i))
