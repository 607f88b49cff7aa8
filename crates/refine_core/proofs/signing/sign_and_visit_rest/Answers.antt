use Rattle.std.proofs.Common.{rules, arith}
use Rattle.std.proofs.lemmas.Result.{err_from_is_err_and}
use Rattle.lts.proofs.CallerLemmas.{visits_left}
use Rattle.refine_core.proofs.signing.sign_and_visit_rest.Goals as goal

pub sign-requires-clause-room : goal.sign-requires-clause-room
sign-requires-clause-room g c = let left = visits_left c.requires.visited in
    search (rules, left, c.requires.visited.rounds, c.requires.room)

pub returns-in_err-signed-clause-visits : goal.returns-in_err-signed-clause-visits
returns-in_err-signed-clause-visits g c = let left = visits_left c.requires.visited in
    let exit = err_from_is_err_and c.from_residual.result c.from_residual.ensures.1 in
    search (rules, exit, left, c.requires.visited.rounds, c.sign.ensures.cost)

pub visit_rest-requires-clause-few : goal.visit_rest-requires-clause-few
visit_rest-requires-clause-few g c = omega (arith, visits_left c.requires.visited, c.sign.ensures.cost)
