use Rattle.theory.proofs.Leaders.{leaders_apart}
use Rattle.theory.proofs.minimal.leaders_differ.Goals as goal

pub returns : goal.returns
returns c = λ rel A l m sys h g b. leaders_apart rel A sys l m h g b
