use Rattle.std.proofs.Common.{◌∙◌, sym}
use Rattle.std.proofs.lemmas.Result.{IfOk-weaker}
use Rattle.lts.proofs.CallerLemmas.{none_visited}
use Rattle.refine_core.proofs.Rounds.{begun_unindexed}
use Rattle.refine_core.proofs.signing.begin_round.Goals as goal

-- Suppose that all signatures were discarded, and that the call of `activate_all` has succeeded. Then the data of the
-- round is ready for computing signatures (`IsReadyToSign`).
pub returns-then-len-round-clause-begun : goal.returns-then-len-round-clause-begun
returns-then-len-round-clause-begun g c = IfOk-weaker c.activate_all.result _ _
    (λ r begun. begun _ c.requires.ready_for_round) c.activate_all.ensures.begun

pub returns-then-len-round-clause-visited : goal.returns-then-len-round-clause-visited
returns-then-len-round-clause-visited g c = IfOk-weaker c.activate_all.result _ _
    (λ r same. none_visited _ _ _ (same ∙ c.requires.ready_for_round.unvisited))
    c.activate_all.ensures.visited

-- Suppose that there was no predecessor index, and that the call of `begin_index`, which may build the index, has
-- succeeded. Then the data of the round is ready for computing signatures (`IsReadyToSign`).
pub returns-in_default-clause-begun : goal.returns-in_default-clause-begun
returns-in_default-clause-begun g c = IfOk-weaker c.begin_index.result _ _
    (λ r. begun_unindexed _ _ _ c.in_ok-round.round r (sym c.take.ensures.value ∙ c.in_default.is)
    (rw (sym c.round.view_is) at c.requires.ready_for_round) c.in_ok-round.ensures.same.0
    c.in_ok-round.ensures.discarded) (rw c.signed_relation-relation.ensures at c.begin_index.ensures.begins)

-- Suppose that there was a predecessor index. Then the data of the round is ready for the search in this index.
pub find_active-requires-clause-awaits : goal.find_active-requires-clause-awaits
find_active-requires-clause-awaits g c =
    rw c.signed_relation-relation.ensures
    (rw (sym c.round.view_is, sym c.take.ensures.value ∙ c.in-Some.is) at c.requires.ready_for_round)
