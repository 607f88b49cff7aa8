use Rattle.theory.proofs.Turning.{turns_found}
use Rattle.theory.proofs.fixpoint.turns_exist.Goals as goal

pub returns-clause-found : goal.returns-clause-found
returns-clause-found c = λ rel A sys. turns_found rel A sys
