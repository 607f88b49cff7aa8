use Rattle.std.proofs.Common.{◌∙◌}
use Rattle.refine_core.proofs.Rounds.{is_next}
use Rattle.refine_core.proofs.refinement.next_round.Goals as goal

pub returns-clause-next : goal.returns-clause-next
returns-clause-next g c =
    let begun = c.in_ok-begun.ensures in
    let signed = c.in_ok-signed.ensures.signed in
    rw (signed.blocks ∙ begun.blocks) at (is_next _ _ c.invariants.ensures c.in_ok-begun.begun c.in_ok-signed.signed
    c.in_ok-next.next begun.begun signed c.invariants-2.ensures.blocks c.in_ok-next.ensures.same
    c.in_ok-next.ensures.split)
