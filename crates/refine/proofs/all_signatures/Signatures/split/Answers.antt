use Rattle.std.proofs.Common.{length, slice_index, ap, arith}
use Rattle.std.proofs.lemmas.{List.get_or-map, List.length-map, Result.IfOk-weaker}
use Rattle.refine.proofs.all_signatures.Signatures.split.Goals as goal

-- The blocks are split by the IDs of the signatures of their states, and the resulting blocks then get new IDs. Two
-- states share a resulting block if and only if they shared an old block and have equal signatures.
pub returns-clause-blocks : goal.returns-clause-blocks
returns-clause-blocks c =
    let ids = c.self.inside.signature_ids.items in
    let split = rw (c.deref.ensures.value, c.in_ok-blocks.ensures.block_ids) at c.in_ok-parts.ensures.splits in
    let each = c.self.invariant.0 in
    let long = ap length c.self.view_is in
    let size = c.requires.states in
    let parts = c.block_ids.ensures.block_ids in
    let states = split.states in
    IfOk-weaker c.renumber.result _ _ (λ q same s t h k.
    let equal = c.len.ensures.interned.different (slice_index ids s) (slice_index ids t) in
    rw (← c.self.view_is)
    (grind (arith, length-map, get_or-map, same s t, split.alike s t, equal, each s 0, each t 0, size, parts, long)))
    c.renumber.ensures.same
