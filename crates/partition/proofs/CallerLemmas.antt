-- These are the lemmas of this crate that the proofs of other crates use. The proofs of other crates import no other
-- proof file of this crate.
pub use Rattle.partition.proofs.ActiveStates.{one_in, in_one, one_stays, live_rising, rising_more, rising_later}
pub use Rattle.partition.proofs.BlockLemmas.{one_block, halved}
