-- These are the lemmas of this crate that the proofs of other crates use. The proofs of other crates import no other
-- proof file of this crate.
pub use Rattle.signatures.proofs.Ascending.{ascending_none, ascending_unique}
pub use Rattle.signatures.proofs.Storing.{Grow-same, Grow-twice, slice_range-append, slice_range-last, All-only}
