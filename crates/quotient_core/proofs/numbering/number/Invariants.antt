use Rattle.std.proofs.Common.{slice_index}
use Rattle.lts.specs.Lts.{system_of}
use Rattle.quotient_core.proofs.Quotients.{Taken}
use Rattle.quotient_core.proofs.numbering.number.Given as goal

abbrev pub invariant-loop-s : goal.invariant-loop-s
invariant-loop-s g l =
    Taken l.r (system_of l.l) (slice_index l.fn.blocks.block_ids) l.fn.blocks.count l.s l.taken
