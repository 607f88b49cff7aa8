-- Defines how many transitions are read at most when the signature of one state is computed.
use Rattle.std.specs.Prelude.{ℕ, length}
use Rattle.theory.specs.declared.relation.Relation.{Relation}
use Rattle.theory.specs.declared.relation.Relation.TheVariants.{Strong, Branching}
use Rattle.lts.specs.Lts.{Grouped, row_of}

-- Returns an upper bound on the number of visits (reads of transitions that the meter counts) that are needed to
-- compute the signature of the state s. For strong bisimilarity, the bound is the number of transitions of s. For
-- branching bisimilarity, the bound is the number of all transitions of the system.
abbrev pub most_visits : Relation → Grouped → ℕ → ℕ
most_visits Strong l s = length (row_of s l.places)
most_visits Branching l s = length l.places
