use Rattle.std.proofs.Common.{◌∙◌, inl, None}
use Rattle.lts.proofs.CallerLemmas.{none_visited}
use Rattle.refine_core.proofs.Rounds.{ready_all}
use Rattle.refine_core.proofs.signing.sign_all.Goals as goal

-- The data of the round is ready for computing signatures, as if no round had run before (`IsReadyToSign`).
pub sign_and_visit_rest-requires-clause-ready : goal.sign_and_visit_rest-requires-clause-ready
sign_and_visit_rest-requires-clause-ready g c =
    let is = c.in_ok-round.ensures.same.0 ∙ c.in_ok-new.ensures.blocks in
    ready_all _ _ None _ (rw is c.requires.states) (λ _. rw is c.requires.new)
    (λ s h. inl (rw is (c.requires.active s h))) (rw (c.in_ok-round.ensures.same.1, c.in_ok-new.ensures.absent) tt)
    c.in_ok-round.ensures.discarded

pub sign_and_visit_rest-requires-clause-visited : goal.sign_and_visit_rest-requires-clause-visited
sign_and_visit_rest-requires-clause-visited g c = rw c.visits-start.ensures
    (none_visited _ (g.M.Meter.counted c.args.m.now) _ (c.in_ok-round.ensures.same.2 ∙ c.in_ok-new.ensures.none))

pub returns-clause-signed : goal.returns-clause-signed
returns-clause-signed g c s h =
    let signed = c.in_ok-signed.ensures.signed in
    let was = c.in_ok-round.ensures.same.0 ∙ c.in_ok-new.ensures.blocks in
    let is = signed.blocks ∙ was in
    rw (is, ← c.into_signatures.ensures.0, ← c.into_signatures.ensures.1) at
    (signed.first (λ _. rw was c.requires.new) (λ branching. (c.in_ok-round.ensures.discarded branching).empty) s
    (rw is (c.requires.active s h)))
