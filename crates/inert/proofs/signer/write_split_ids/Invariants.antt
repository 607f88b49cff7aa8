use Rattle.std.proofs.Common.{◌≡◌, ℕ, ◌<◌, ◌≤◌, length, slice_index}
use Rattle.partition.specs.Blocks.{InactiveHaveNone}
use Rattle.inert.specs.{Signed.IsIdIfChanged, Search.stage_at, Search.id_of}
use Rattle.inert.proofs.signer.write_split_ids.Given as goal

abbrev pub invariant-loop-i : goal.invariant-loop-i
invariant-loop-i l = record {
  size : length l.signature_ids ≡ length l.search.stages;
  ahead : (j : ℕ) → l.i ≤ j → j < length l.active → slice_index l.signature_ids (slice_index l.active j)
      ≡ slice_index l.initial.signature_ids (slice_index l.active j);
  have : (j : ℕ) → j < l.i → let s = slice_index l.active j in
      IsIdIfChanged (slice_index l.initial.signature_ids s) (id_of (stage_at l.search.stages s))
      (slice_index l.signature_ids s);
  none : InactiveHaveNone l.active l.signature_ids;
}
