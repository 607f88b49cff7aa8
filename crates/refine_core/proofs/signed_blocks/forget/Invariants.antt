use Rattle.std.proofs.Common.{◌≡◌, ◌⊎◌, ℕ, ◌<◌, ◌≤◌, length, slice_index}
use Rattle.refine_core.proofs.signed_blocks.forget.Given as goal

abbrev pub invariant-loop-i : goal.invariant-loop-i
invariant-loop-i l = record {
  states : length l.signature_ids.items ≡ length l.blocks.block_ids;
  left : (s : ℕ) → s < length l.signature_ids.items
      → ((j : ℕ) × (l.i ≤ j) × (j < length l.active) × (slice_index l.active j ≡ s))
      ⊎ (slice_index l.signature_ids.items s ≡ 0);
}
