-- This file exports the lemmas of this crate that other crates use in their proofs. Other crates use no other lemmas of
-- this crate.
pub use Rattle.refine_core.proofs.Signatures.{equal_lists, row_signature}
pub use Rattle.refine_core.proofs.Searching.{none_marked, marked_more, found_few}
