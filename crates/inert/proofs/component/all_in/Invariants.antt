use Rattle.std.proofs.Common.{ℕ, ◌<◌}
use Rattle.inert.specs.{Search.item_at, SearchMoves.IsItemOf}
use Rattle.inert.proofs.component.all_in.Given as goal

abbrev pub invariant-loop-item : goal.invariant-loop-item
invariant-loop-item l = (i : ℕ) → i < l.item-index → IsItemOf l.signatures l.id (item_at l.items i)
