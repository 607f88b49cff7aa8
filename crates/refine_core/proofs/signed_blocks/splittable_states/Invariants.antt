use Rattle.std.proofs.Common.{◌≡◌, ◌⊎◌, []}
use Rattle.lts.specs.Lts.{row_of}
use Rattle.partition.specs.Splitting.{IsSingleton}
use Rattle.refine_core.proofs.Searching.{AreAllBut}
use Rattle.refine_core.proofs.signed_blocks.splittable_states.Given as goal

abbrev pub invariant-loop-s : goal.invariant-loop-s
invariant-loop-s g l = AreAllBut (λ t. IsSingleton l.blocks.block_ids t ⊎ (row_of t l.l.places ≡ [])) l.s l.active.items
