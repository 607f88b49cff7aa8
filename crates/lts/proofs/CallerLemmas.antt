-- These are the lemmas of this crate that the proofs of other crates use. The proofs of other crates import no other
-- proof file of this crate.
pub use Rattle.lts.proofs.Filters.{contains_mapped, mapped_contains, contains_passing, passing_contains}
pub use Rattle.lts.proofs.Filters.{length-filter-sum, take-split}
pub use Rattle.lts.proofs.Table.{transitions-kept}
pub use Rattle.lts.proofs.Indexing.{index-fewer, index-leaves}
pub use Rattle.lts.proofs.Rows.{before-mono, before-next, below-before, IsRow-before, before-le, row_of-contains}
pub use Rattle.lts.proofs.Rows.{step_at, place_step, labels_have_ids, row_steps}
pub use Rattle.lts.proofs.Visits.{visited_add, visited_few, all_visited, none_visited, visits_left, left_none, row_left}
pub use Rattle.lts.proofs.Visits.{price_none, price_first, price_split, price_one_more}
