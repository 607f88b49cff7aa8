-- The contract states, for four pairs of systems, that the second system is not the quotient of the first system. In
-- one pair, the second system contains a transition more than once, but a quotient contains each transition only once.
-- In each of the other three pairs, the second system differs from the correct quotient, which is known from the lemma
-- `is_quotient`.
use Rattle.std.proofs.Common.{refl, lit<}
use Rattle.theory.specs.declared.relation.Relation.TheVariants.{Strong, Branching}
use Rattle.theory.specs.System.{internal}
use Rattle.tests_theory.specs.Examples.{a, edge, silent_cycle, loop_of_a, silent_loop, lone_state, first_leads}
use Rattle.tests_theory.specs.Examples.{first_leads_quotient, first_leads_by_size}
use Rattle.tests_theory.proofs.Testing.Census.{is_quotient}
use Rattle.tests_theory.proofs.Testing.Refusing.{not_by_states, not_by_transition}
use Rattle.tests_theory.proofs.Testing.Told.{silent_cycle_branching, silent_loop_branching, first_leads_strong}
use Rattle.tests_theory.proofs.quotients.not_the_quotient.Goals as goal

pub returns-clause-a_state_too_many : goal.returns-clause-a_state_too_many
returns-clause-a_state_too_many _ =
    not_by_states Branching silent_cycle loop_of_a silent_cycle
    (is_quotient Branching silent_cycle loop_of_a silent_cycle_branching refl refl) refl

pub returns-clause-a_silent_step : goal.returns-clause-a_silent_step
returns-clause-a_silent_step _ =
    not_by_transition Branching silent_loop lone_state silent_loop (edge 0 internal 0)
    (is_quotient Branching silent_loop lone_state silent_loop_branching refl refl)
    (0, lit< tt, refl) refl

pub returns-clause-written_twice : goal.returns-clause-written_twice
returns-clause-written_twice _ = λ q. q.once 0 1 (edge 0 a 1) (lit< tt) (lit< tt) refl

pub returns-clause-by_size : goal.returns-clause-by_size
returns-clause-by_size _ =
    not_by_transition Strong first_leads first_leads_quotient first_leads_by_size (edge 1 a 2)
    (is_quotient Strong first_leads first_leads_quotient first_leads_strong refl refl)
    (0, lit< tt, refl) refl
