use Rattle.std.proofs.Common.{◌≡◌, length, sym, subst, arith, take_at}
use Rattle.inert.specs.Signed.{SignsActive}
use Rattle.refine_core.proofs.Signatures.{cached_beside, branching_signs}
use Rattle.refine_core.proofs.branching.BranchingSigning.sign.Goals as goal

pub sign_each-requires-clause-cached : goal.sign_each-requires-clause-cached
sign_each-requires-clause-cached g c =
    cached_beside c.args.l.now _ (rw (sym c.round.view_is) at c.requires.ready)

pub invariant_of-round : goal.invariant_of-round
invariant_of-round g c =
    let size : length c.sign_each.new.signature_ids ≡ c.round.inside.signature_ids.len = omega arith in
    rw take_at (omega (arith, c.round.invariant.0), c.sign_each.ensures.others)

pub returns-clause-signed : goal.returns-clause-signed
returns-clause-signed g c =
    let r = c.round.inside in
    let known = c.invariants-3.ensures in
    let ready = rw (sym c.round.view_is) at c.requires.ready in
    rw (sym c.round.view_is) (branching_signs c.args.l.now _ ready _ _ _ known.signatures
    (subst (SignsActive c.args.l.now r.blocks.block_ids r.blocks.active r.signatures c.sign_each.new.signatures r.signer
    c.sign_each.new.self) (sym (take_at _ _ _ (omega (arith, c.sign_each.auto.signature_ids, c.deref_mut.ensures.len))))
    c.in_ok-sign_each.ensures.signs) known.states known.none c.invariants.ensures)
