use Rattle.std.proofs.Common.{ℕ, ◌*◌, ◌-◌, ◌<◌, List, length, slice_index}
use Rattle.theory.specs.{declared.relation.Relation.Relation, Blocks.Underway}
use Rattle.lts.specs.{Lts.Grouped, Lts.system_of, Meter.Counts, Meter.Costs}
use Rattle.partition.specs.Renumberings.{WereHalved}
use Rattle.refine_core.specs.Rounds.{Awaits, AreRounds}
use Rattle.refine_core.proofs.refinement.refine_blocks.Given as goal

-- `Made` holds if a sequence of rounds has led from the partition with only one block to the partition `blocks`. Each
-- of these rounds has split at least one block, and there were fewer rounds than states. The list `past` contains the
-- partition before each round. If a round has changed the block ID of a state, the new block of the state had at most
-- half the size of the old block (`WereHalved`). The meter has counted each of these rounds. In all these rounds
-- together, the number of visits (reads of transitions that the meter counts) is the number of the rounds times the
-- number of transitions. The meter had the counts `old` before the first round, and has the counts `at` after the last
-- round.
pub record Made (rel : Relation) (l : Grouped) (old at : Counts) (blocks : List ℕ) : Type 0 where
  pub rounds : ℕ
  pub fewer : rounds < l.states
  pub past : List (List ℕ)
  pub were : AreRounds rel (system_of l) blocks past × WereHalved blocks past
  pub underway : Underway rel (system_of l) rounds (slice_index blocks)
  pub costs : Costs old at rounds (rounds * length l.places) (rounds * length l.places)

abbrev pub invariant-loop-before : goal.invariant-loop-before
invariant-loop-before g l = record {
  awaits : Awaits g.S.Signing.relation l.l l.round;
  made : Made g.S.Signing.relation l.l (g.M.Meter.counted l.initial.m) (g.M.Meter.counted l.m) l.round.blocks.block_ids;
}

abbrev pub decreases-loop-before : goal.decreases-loop-before
decreases-loop-before g l = l.l.states - ((g.M.Meter.counted l.m).rounds - (g.M.Meter.counted l.initial.m).rounds)
