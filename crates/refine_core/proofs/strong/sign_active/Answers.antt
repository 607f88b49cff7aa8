use Rattle.std.proofs.Common.{◌≡◌, ◌∙◌, ℕ, ◌+◌, ◌<◌, ◌≤◌, List, length, slice_index, set, sym, rules, arith}
use Rattle.std.proofs.lemmas.{Grind.common_steps, List.length-set, List.get_or_default, List.get_or-set_other}
use Rattle.signatures.specs.Lists.{list_at, Grow}
use Rattle.partition.specs.Blocks.{AreActive, InactiveHaveNone}
use Rattle.lts.specs.Visited.{remaining_of}
use Rattle.lts.proofs.CallerLemmas.{before-mono, before-next, before-le}
use Rattle.refine_core.proofs.{Signatures.row_within, strong.sign_active.Invariants.HasGot}
use Rattle.refine_core.proofs.strong.sign_active.Goals as goal

-- The active states are the states that the round processes. In the following lemmas, the list `signature_ids` contains
-- a signature ID for each state, and the ID k is then stored for the active state at the index i.
module _ (signature_ids active : List ℕ) (i k : ℕ) (more : i < length active) where
  -- P is a condition on a state and a signature. Suppose that `signature_ids` contains the ID of an interned signature
  -- for each of the first i active states, and that P holds for each of these states and its signature (`HasGot`).
  -- Suppose also that P holds for the next active state and the signature with the ID k. Then the list that results
  -- contains the ID of an interned signature for each of the first i + 1 active states, and P holds for each of these
  -- states and its signature.
  signed_more : {P : ℕ → List (ℕ × ℕ) → Type 0} {signatures signatures' : List (List (ℕ × ℕ))} {states : ℕ}
      → Grow signatures signatures' → AreActive states active → length signature_ids ≡ states
      → ((j : ℕ) → j < i → HasGot P signatures signature_ids (slice_index active j)) → k < length signatures'
      → P (slice_index active i) (list_at signatures' k) → (j : ℕ) → j < i + 1
      → HasGot P signatures' (set signature_ids (slice_index active i) k) (slice_index active j)
  signed_more grow rises size before within this = search rules

  -- If every state that is not active has the signature ID 0, then this is still true after k is stored.
  none_more : InactiveHaveNone active signature_ids
      → InactiveHaveNone active (set signature_ids (slice_index active i) k)
  none_more none t h = grind (arith, common_steps, get_or-set_other, length-set)

pub intern_signature-requires-clause-room : goal.intern_signature-requires-clause-room
intern_signature-requires-clause-room g c =
    let (next, below, visits) = c.loop-s.invariant.visits in
    let row = row_within (remaining_of c.args.visited.now c.args.under.now.l.now.places) (below _ (omega arith)
    c.loop-s-test.true) in omega (arith, visits, row, c.requires.room)

pub loop-s-preserved : goal.loop-s-preserved
loop-s-preserved g c =
    let i = c.loop-s.s-index in
    let inv = c.loop-s.invariant in
    let done = c.in_ok-signature_ids.ensures in
    let rises = c.requires.signature_ids.ascending in
    let ids = c.loop-s.signature_ids.items in
    record {
      put = signed_more ids c.args.active.now i _ c.loop-s-test.true c.intern_signature.ensures.grow rises inv.states
          inv.put done.within done.put;
      states = length-set _ _ _ ∙ inv.states;
      none = none_more ids c.args.active.now i _ c.loop-s-test.true inv.none;
      some = omega (arith, inv.some, c.intern_signature.ensures.grow.longer);
      visits = (
        slice_index c.args.active.now i + 1,
        λ j later h. omega (arith, rises.ascending i j (omega (arith, later)) h),
        search (rules, before-mono, before-next, inv.visits, c.loop-s-test.true, done.visits),
      );
    }

pub returns-in_err-signature_ids-clause-cost : goal.returns-in_err-signature_ids-clause-cost
returns-in_err-signature_ids-clause-cost g c =
    let (next, below, visits) = c.loop-s.invariant.visits in
    let row = row_within (remaining_of c.args.visited.now c.args.under.now.l.now.places) (below _ (omega arith)
    c.loop-s-test.true) in omega (arith, visits, row, c.intern_signature.ensures.visits)

pub returns-clause-cost : goal.returns-clause-cost
returns-clause-cost g c = search (rules, before-le, c.loop-s.invariant.visits)

-- The split signature of a state is empty if the signature of the state has not changed since the last round, and
-- otherwise it is the new signature. After the loop, the list `signature_ids` contains, for each active state (each
-- state that the round processes), the ID of the split signature of this state (`IsStrongSplitSignature`).
pub returns-clause-signed : goal.returns-clause-signed
returns-clause-signed g c s (j, h, is) =
    rw is at (c.loop-s.invariant.put j (omega (arith, h, c.loop-s-test.false, c.loop-s.auto))).holds

pub returns-clause-signature_ids : goal.returns-clause-signature_ids
returns-clause-signature_ids g c =
    let inv = c.loop-s.invariant in
    let end : length c.args.active.now ≤ c.loop-s.s-index = omega (arith, c.loop-s-test.false, c.loop-s.auto) in
    record {
      each = λ s d h. grind (arith, get_or_default _ s d 0 h, inv.none s h, inv.put, inv.some);
      states = inv.states ∙ sym c.requires.reads.size;
      none = inv.none;
    }
