-- The lemmas of this crate that proofs of other crates may use. The proofs of other crates import this file and the
-- contracts in `src/`, but no other file of this folder.
pub use Rattle.theory.proofs.Deciding.{contains_here, contains_there, contains_cases, contains_none}
pub use Rattle.theory.proofs.Paths.{leads_on, leads_map, leads_keeps, step_below, reachable_below, reachable_on}
pub use Rattle.theory.proofs.Counting.{block_count_at_most, numbered_count}
pub use Rattle.theory.proofs.Refinement.{same_split, after_is_unique}
pub use Rattle.theory.proofs.Leaders.{leader_unique, leader_fellow, is_leader_itself}
pub use Rattle.theory.proofs.Numbers.{place, place_next, place_few, placed_number, leaders_counted, leaders_few}
pub use Rattle.theory.proofs.Numbers.{first_number, number_once, number_carried, numbers_classes}
pub use Rattle.theory.proofs.Showing.{all_made}
pub use Rattle.theory.proofs.Tally.{how_many_unique}
pub use Rattle.theory.proofs.Determined.{same_states, same_transitions}
pub use Rattle.theory.proofs.BothRelations.{strong_is_branching, branching_is_strong}
pub use Rattle.theory.proofs.AlikeSystems.{same_steps_refl, same_steps_sym, same_steps_permuted, bisimilar_alike}
pub use Rattle.theory.proofs.AlikeSystems.{turns_alike, SameSignatures, same_signatures_turns}
pub use Rattle.theory.proofs.AlikeQuotients.{quotient_alike, quotient_reordered}
pub use Rattle.theory.proofs.AlikeUnions.{unions_alike}
pub use Rattle.theory.proofs.Comparing.{equivalent_alike}
pub use Rattle.theory.proofs.QuotientLaws.{quotient_system}
pub use Rattle.theory.proofs.Unaffected.{empty_before, still_stays, reach_found}
