use Rattle.std.proofs.Common.{◌≡◌, ◌∙◌, length, ap, arith, take_at}
use Rattle.refine_core.proofs.signed_blocks.SignedBlocks.drop_singletons.Goals as goal

pub invariant_of-result : goal.invariant_of-result
invariant_of-result c =
    let ids = c.drop_singletons.new.signature_ids in
    let same = c.drop_singletons.auto.signature_ids in
    let size : length ids ≡ c.self.inside.signature_ids.len = omega (arith, same, c.deref_mut.ensures.len) in
    rw (c.in_ok-blocks.ensures.same, take_at)
    (same ∙ ap length c.deref_mut.ensures.value ∙ c.self.invariant.0, c.in_ok-blocks.ensures.none)
