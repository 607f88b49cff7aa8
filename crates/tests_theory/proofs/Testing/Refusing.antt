-- The lemmas in this file show that a system R is not the quotient of A, because R differs from the known quotient of
-- A.
use Rattle.std.proofs.Common.{◌≡◌, true, not, eqb, Contains, refl}
use Rattle.std.proofs.lemmas.Bool.{eq-eqb}
use Rattle.theory.specs.System.{System, Transition}
use Rattle.theory.specs.declared.relation.Relation.{Relation}
use Rattle.theory.specs.Quotient.{Quotient}
use Rattle.theory.proofs.CallerLemmas.{same_states, same_transitions}
use Rattle.tests_theory.proofs.Testing.{not_passes, some, some_from}
use Rattle.tests_theory.proofs.Testing.Dividing.{same_transition, same_transition_at}

-- If Q is the quotient of A, and the systems Q and R have different numbers of states, then R is not the quotient of A.
pub not_by_states :
    (rel : Relation) (A Q R : System) → Quotient rel A Q → not (eqb Q.states R.states) ≡ true → ¬ Quotient rel A R
not_by_states rel A Q R one h other =
    not_passes (eqb Q.states R.states) h (eq-eqb Q.states R.states (same_states rel A Q R one other))

-- If Q is the quotient of A, and R contains a transition e that Q does not contain, then R is not the quotient of A.
pub not_by_transition :
    (rel : Relation) (A Q R : System) (e : Transition) → Quotient rel A Q → Contains R.transitions e →
    not (some Q.transitions (λ f. same_transition e f)) ≡ true → ¬ Quotient rel A R
not_by_transition rel A Q R e one c h other =
    not_passes (some Q.transitions (λ f. same_transition e f)) h
    (some_from Q.transitions (λ f. same_transition e f) e ((same_transitions rel A Q R one other e).1 c)
    (same_transition_at e e refl))
