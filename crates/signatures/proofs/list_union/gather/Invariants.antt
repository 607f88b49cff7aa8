use Rattle.std.proofs.Common.{◌⊎◌, ◌↔◌, ℕ, Contains, Some, ◌≡◌}
use Rattle.signatures.proofs.{Uniting.SomeBelow, ExtendedLists.IsExtra}
use Rattle.signatures.proofs.list_union.gather.Given as goal

abbrev pub invariant-loop-k : goal.invariant-loop-k
invariant-loop-k l = (z : ℕ × ℕ) → Contains l.pairs.items z
    ↔ (Contains l.initial.pairs.items z ⊎ SomeBelow (IsExtra l.extensions l.ids (λ b. ¬ (l.own ≡ Some b)) z) l.k-index)
