-- Each clause of the contract is proved by computation: the prover evaluates a function that returns a `Bool`. The
-- lemmas of `proofs/Testing` state what follows if such a function returns true.
use Rattle.std.proofs.Common.{◌≡◌, true, refl}
use Rattle.theory.specs.declared.relation.Relation.TheVariants.{Strong}
use Rattle.tests_theory.specs.Examples.{first_leads}
use Rattle.tests_theory.proofs.Testing.Census.{is_census, quotient_is, leaders_are, is_no_leader}
use Rattle.tests_theory.proofs.Testing.Told.{first_leads_strong}
use Rattle.tests_theory.proofs.quotients.quotient_of_first_leads.Goals as goal

-- A census lists which states of the system are bisimilar, and which states are leaders (states that represent their
-- classes). Here the prover checks, once for all clauses of the contract, that the census is correct.
is_correct : is_census Strong first_leads first_leads_strong ≡ true
is_correct = refl

pub returns-clause-quotient : goal.returns-clause-quotient
returns-clause-quotient _ = quotient_is Strong first_leads _ _ first_leads_strong is_correct refl refl

pub returns-clause-no_leader : goal.returns-clause-no_leader
returns-clause-no_leader _ = is_no_leader Strong first_leads 0 first_leads_strong is_correct refl

pub returns-clause-leaders : goal.returns-clause-leaders
returns-clause-leaders _ = leaders_are Strong first_leads _ first_leads_strong is_correct refl
