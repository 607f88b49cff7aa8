use Rattle.std.proofs.Common.{◌∙◌, sym, arith}
use Rattle.refine_core.proofs.signed_blocks.SignedBlocks.split.Goals as goal

pub split-requires-clause-signature_count : goal.split-requires-clause-signature_count
split-requires-clause-signature_count c = let ids = rw (sym c.self.view_is) at c.requires.ids in
    rw c.deref.ensures.value (λ s h. omega (arith, ids s 0 h))

pub invariant_of-result : goal.invariant_of-result
invariant_of-result c = let split = c.in_ok-blocks.ensures in let (states, none) = c.self.invariant in
    (states ∙ sym split.splits.states, rw split.active none)
