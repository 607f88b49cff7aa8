-- These are the lemmas of this crate that the proofs of other crates use. The proofs of other crates import no other
-- proof file of this crate.
pub use Rattle.autfmt.proofs.Lists.{front_more}
pub use Rattle.autfmt.proofs.FaultLaws.{Reads-no_fault, HideReads-no_fault}
pub use Rattle.autfmt.proofs.ReadBack.{text_is_read_again}
