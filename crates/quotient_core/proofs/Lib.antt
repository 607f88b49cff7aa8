-- Lemmas about the number of visits, which are reads of transitions that the meter counts, and about the search for the
-- reachable states.
pub mod Reaching
-- Lemmas about the transitions of the quotient.
pub mod Showing
-- Lemmas about the class numbers of states, and about the quotient. The class number of a reachable state is the number
-- of the quotient state that represents this state.
pub mod Quotients
