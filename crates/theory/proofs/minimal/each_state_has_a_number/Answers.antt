use Rattle.theory.proofs.Leaders.{leader_of, leader_unique}
use Rattle.theory.proofs.Numbers.{number_of, number_once}
use Rattle.theory.proofs.minimal.each_state_has_a_number.Goals as goal

pub returns-clause-leader : goal.returns-clause-leader
returns-clause-leader c = λ rel A s sys path. leader_of rel A sys s path

pub returns-clause-one_leader : goal.returns-clause-one_leader
returns-clause-one_leader c = λ rel A s l m h g. leader_unique rel A s l m h g

pub returns-clause-number : goal.returns-clause-number
returns-clause-number c = λ rel A s sys path. number_of rel A sys s path

pub returns-clause-one_number : goal.returns-clause-one_number
returns-clause-one_number c = λ rel A s m n sys h g. number_once rel A sys s m n h g
