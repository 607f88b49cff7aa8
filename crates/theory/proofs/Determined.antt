-- All quotients of a system have the same first state, the same number of states, and the same transitions. Only the
-- order of the transitions may differ.
use Rattle.std.proofs.Common.{◌≡◌, ◌↔◌, Contains, sym, ◌∙◌}
use Rattle.theory.specs.System.{System, Transition}
use Rattle.theory.specs.declared.relation.Relation.{Relation}
use Rattle.theory.specs.Quotient.{IsLeader, Quotient}
use Rattle.theory.proofs.Tally.{how_many_unique}

pub same_states : (rel : Relation) (A Q R : System) → Quotient rel A Q → Quotient rel A R → Q.states ≡ R.states
same_states rel A Q R one other = how_many_unique (IsLeader rel A) Q.states R.states one.states other.states

pub same_first : (rel : Relation) (A Q R : System) → Quotient rel A Q → Quotient rel A R → Q.first ≡ R.first
same_first rel A Q R one other = one.first ∙ sym other.first

pub same_transitions :
    (rel : Relation) (A Q R : System) → Quotient rel A Q → Quotient rel A R →
    (e : Transition) → Contains Q.transitions e ↔ Contains R.transitions e
same_transitions rel A Q R one other e =
    (λ c. (other.transitions e).1 ((one.transitions e).0 c), λ c. (one.transitions e).1 ((other.transitions e).0 c))
