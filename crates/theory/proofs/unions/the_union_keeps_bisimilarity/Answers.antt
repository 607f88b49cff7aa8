-- Each clause of the contract of `the_union_keeps_bisimilarity` is proved by a lemma.
use Rattle.theory.proofs.Comparing.{union_across, union_within_left, union_within_right, union_of_left, union_of_right}
use Rattle.theory.proofs.unions.the_union_keeps_bisimilarity.Goals as goal

pub returns-clause-across : goal.returns-clause-across
returns-clause-across c = λ rel A B s t sys sys'. union_across rel A B sys sys' s t

pub returns-clause-first : goal.returns-clause-first
returns-clause-first c = λ rel A B s t sys sys'. union_within_left rel A B sys sys' s t

pub returns-clause-second : goal.returns-clause-second
returns-clause-second c = λ rel A B s t sys sys'. union_within_right rel A B sys sys' s t

pub returns-clause-in_first : goal.returns-clause-in_first
returns-clause-in_first c = λ rel A B s sys sys'. union_of_left rel A B sys sys' s

pub returns-clause-in_second : goal.returns-clause-in_second
returns-clause-in_second c = λ rel A B t sys sys'. union_of_right rel A B sys sys' t
