use Rattle.theory.proofs.Numbers.{numbers_classes}
use Rattle.theory.proofs.minimal.numbers_are_classes.Goals as goal

pub returns : goal.returns
returns c = λ rel A s t m n sys path way h g. numbers_classes rel A sys s t m n h g
