use Rattle.std.proofs.Common.{rules, sym}
use Rattle.refine_core.proofs.Signatures.{strong_signs}
use Rattle.refine_core.proofs.strong.StrongSigning.sign.Goals as goal

pub sign_active-requires-clause-signature_ids : goal.sign_active-requires-clause-signature_ids
sign_active-requires-clause-signature_ids g c =
    search (rules, rw (sym c.active.ensures.active) at c.round.invariant.1)

pub invariant_of-round : goal.invariant_of-round
invariant_of-round g c = let done = rw (c.block_ids.ensures.block_ids, c.active.ensures.active) at
    c.in_ok-sign_active.ensures.signature_ids in (done.states, done.none)

pub returns-clause-signed : goal.returns-clause-signed
returns-clause-signed g c =
    let done = rw (c.block_ids.ensures.block_ids, c.first_new.ensures, c.active.ensures.active) at
    c.in_ok-sign_active.ensures in
    let ready = rw (sym c.round.view_is) at c.requires.ready in
    rw (sym c.round.view_is) (strong_signs c.args.l.now c.invariants.ensures _ ready _ _
    c.invariants-2.ensures.signatures done.signature_ids done.signed)
