use Rattle.std.proofs.Common.{rules}
use Rattle.std.proofs.lemmas.List.{get_or-replicate, length-replicate}
use Rattle.refine_core.proofs.signed_blocks.SignedBlocks.new.Goals as goal

pub invariant_of-result : goal.invariant_of-result
invariant_of-result c = rw (c.in_ok-vec.ensures.items_if_clones_equal (λ y is. is))
    (search (rules, length-replicate, get_or-replicate, c.block_ids-states.ensures.block_ids))

pub returns-clause-empty : goal.returns-clause-empty
returns-clause-empty c = rw (c.in_ok-vec.ensures.items_if_clones_equal (λ y is. is))
    (search (rules, length-replicate, get_or-replicate))
