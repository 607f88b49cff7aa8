use Rattle.std.proofs.Common.{rules}
use Rattle.std.proofs.lemmas.Result.{IfOk-weaker}
use Rattle.lts.specs.Lts.{system_of}
use Rattle.quotient.proofs.Visits.{minimised_keeps}
use Rattle.quotient.proofs.minimisation.minimise.Goals as goal

pub returns-clause-equivalent : goal.returns-clause-equivalent
returns-clause-equivalent g c = search (rules, IfOk-weaker, c.quotient_is_equivalent.ensures)

pub returns-clause-no_two_bisimilar : goal.returns-clause-no_two_bisimilar
returns-clause-no_two_bisimilar g c = search (rules, IfOk-weaker, c.quotient_states_differ.ensures)

pub returns-clause-smallest : goal.returns-clause-smallest
returns-clause-smallest g c =
    IfOk-weaker c.quotient_of.result _ _
    (λ q h B sys same. c.no_smaller_system.ensures c.args.r (system_of c.args.l.now) (system_of q) B
    c.invariants.ensures.system sys h same) c.quotient_of.ensures.quotient

pub returns-clause-keeps : goal.returns-clause-keeps
returns-clause-keeps g c = let (r, low, turns, costs) = c.in_ok-blocks.ensures.turns in
    minimised_keeps _ _ r _ c.requires.fresh low costs c.quotient_of.ensures.visits
