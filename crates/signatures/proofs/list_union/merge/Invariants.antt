use Rattle.std.proofs.Common.{◌⊎◌, ◌↔◌, ℕ, Contains, Some, ◌≡◌}
use Rattle.std.specs.List.Sorted.{IsStrictlySortedBy}
use Rattle.signatures.{specs.Lists.pair_cmp, proofs.Uniting.SomeBelow, proofs.ExtendedLists.IsExtra}
use Rattle.signatures.proofs.list_union.merge.Given as goal

abbrev pub invariant-loop-k : goal.invariant-loop-k
invariant-loop-k l = record {
  ascending : IsStrictlySortedBy pair_cmp l.pairs.items;
  come : (z : ℕ × ℕ) → Contains l.pairs.items z
      ↔ (Contains l.initial.pairs.items z ⊎ SomeBelow (IsExtra l.extensions l.ids (λ b. l.own ≡ Some b) z) l.k-index);
}
