-- Each clause of the contract of `the_union_decides_equivalence` is proved by a lemma.
use Rattle.std.proofs.Common.{subst}
use Rattle.theory.specs.declared.relation.Relation.TheVariants.{Strong}
use Rattle.theory.specs.Alike.{SameSteps}
use Rattle.theory.specs.Union.{union_of}
use Rattle.theory.proofs.AlikeSystems.{same_steps_refl, turns_alike}
use Rattle.theory.proofs.Comparing.{first_states, equivalent_in_union, equivalent_by_blocks}
use Rattle.theory.proofs.unions.the_union_decides_equivalence.Goals as goal

pub returns-clause-states : goal.returns-clause-states
returns-clause-states c = λ A B U sys sys' same. first_states Strong A B sys sys' U same

pub returns-clause-bisimilar : goal.returns-clause-bisimilar
returns-clause-bisimilar c = λ rel A B U sys sys' same. equivalent_in_union rel A B sys sys' U same

pub returns-clause-blocks : goal.returns-clause-blocks
returns-clause-blocks c = λ rel A B U blocks sys sys' same. equivalent_by_blocks rel A B sys sys' U same blocks

pub returns-clause-turns : goal.returns-clause-turns
returns-clause-turns c = λ rel A B U k same. turns_alike rel U (union_of A B) same k

pub returns-clause-same : goal.returns-clause-same
returns-clause-same c = λ A B same. subst (SameSteps A) same (same_steps_refl A)
