use Rattle.std.proofs.Common.{◌≡◌, ℕ, ◌<◌, ◌≤◌, List, length, slice_index}
use Rattle.lts.specs.{Meter.Costs, Lts.before, Visited.remaining_of}
use Rattle.partition.specs.Blocks.{InactiveHaveNone}
use Rattle.refine_core.specs.Rounds.{list_of, IsStrongSplitSignature}
use Rattle.refine_core.proofs.strong.sign_active.Given as goal

-- P is a condition on a state and a signature. `HasGot` holds if both of the following conditions hold. First, the list
-- `signature_ids` contains, for the state s, the ID of an interned signature. Second, the condition P holds for s and
-- this signature.
pub record HasGot (P : ℕ → List (ℕ × ℕ) → Type 0) (signatures : List (List (ℕ × ℕ))) (signature_ids : List ℕ) (s : ℕ) :
    Type 0 where
  pub within : slice_index signature_ids s < length signatures
  pub holds : P s (list_of signatures signature_ids s)

abbrev pub invariant-loop-s : goal.invariant-loop-s
invariant-loop-s g l = record {
  put : (j : ℕ) → j < l.s-index → HasGot
      (IsStrongSplitSignature l.under.l.now l.under.block_ids.now l.under.first_new) l.signatures
      l.signature_ids.items (slice_index l.active j);
  states : length l.signature_ids.items ≡ l.under.l.now.states;
  none : InactiveHaveNone l.active l.signature_ids.items;
  some : 1 ≤ length l.signatures;
  visits : (next : ℕ) × ((j : ℕ) → l.s-index ≤ j → j < length l.active → next ≤ slice_index l.active j)
      × Costs (g.M.Meter.counted l.fn.m) (g.M.Meter.counted l.m) 0 0
      (before next (remaining_of l.visited l.under.l.now.places));
}
