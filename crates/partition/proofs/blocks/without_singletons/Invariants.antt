use Rattle.partition.proofs.ActiveStates.{LeftUpTo}
use Rattle.partition.proofs.blocks.without_singletons.Given as goal

abbrev pub invariant-loop-i : goal.invariant-loop-i
invariant-loop-i l = LeftUpTo l.blocks.block_ids l.active l.i l.initial.signature_ids l.signature_ids l.left.items
