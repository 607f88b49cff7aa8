use Rattle.std.proofs.Common.{◌≡◌, ℕ, ◌<◌, length, slice_index}
use Rattle.partition.specs.Blocks.{InactiveHaveNone}
use Rattle.inert.specs.Search.{stage_at, id_of}
use Rattle.inert.proofs.signer.copy_cached_ids.Given as goal

abbrev pub invariant-loop-i : goal.invariant-loop-i
invariant-loop-i l = record {
  size : length l.signature_ids ≡ length l.initial.signature_ids;
  have : (j : ℕ) → j < l.i → slice_index l.signature_ids (slice_index l.active j)
      ≡ id_of (stage_at l.search.stages (slice_index l.active j));
  none : InactiveHaveNone l.active l.signature_ids;
}
