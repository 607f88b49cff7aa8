use Rattle.std.proofs.Common.{◌≡◌, ◌∙◌, ap₂}
use Rattle.inert.specs.{Signed.CachesBeside, Steps.under, Search.cached}
use Rattle.inert.proofs.{Resting.woken_rests, Resting.over_again, Resting.signs_active}
use Rattle.inert.proofs.{signer.Signer.sign_each.Given.Over, signer.Signer.sign_each.Goals.After-new-lens}
use Rattle.inert.proofs.signer.Signer.sign_each.Goals as goal

module _ (g : Over) (c : After-new-lens g) where
  -- The view `lens` consists of the system, the blocks and the visited transitions that the caller has passed to
  -- `sign_each`.
  is : c.new-lens.result ≡ under c.args.l.now c.args.blocks.now.block_ids c.args.visited.now
  is = c.new-lens.ensures ∙ ap₂ (under c.args.l.now) c.block_ids.ensures.block_ids c.any.ensures

  -- The depth-first search stores a status (unvisited, on the stack, or completed) for each state of the system. The
  -- status of a completed state contains the ID of its cached signature. The cached IDs satisfy a condition that
  -- `sign_each` requires (`CachesBeside`). In particular, if a state is not active (not processed in this round) but
  -- shares a block with an active state, the cached ID of this state is the ID of its branching signature.
  had : CachesBeside c.new-lens.result.l c.new-lens.result.blocks c.active-active.result.now c.args.signatures.now
      (cached c.self.inside.search.stages)
  had = rw (is, c.active-active.ensures.active, c.self.view_is) c.requires.cached

pub search_all-requires-clause-rests : goal.search_all-requires-clause-rests
search_all-requires-clause-rests g c = woken_rests c.mark_unvisited.ensures c.self.invariant
    (had g (goal.at.search_all-requires-clause-rests g c).After-new-lens) c.invariants.ensures.some

pub invariant_of-self : goal.invariant_of-self
invariant_of-self g c = let done = c.in-Ok.ensures in
    over_again (had g (goal.at.invariant_of-self g c).After-new-lens) c.self.invariant c.mark_unvisited.ensures
    done.rests done.all

pub returns-in-Err-clause-visits : goal.returns-in-Err-clause-visits
returns-in-Err-clause-visits g c =
    rw (is g (goal.at.returns-in-Err-clause-visits g c).After-new-lens) at c.search_all.ensures.visits

pub copy_cached_ids-requires-clause-none : goal.copy_cached_ids-requires-clause-none
copy_cached_ids-requires-clause-none g c = rw c.active-active.ensures.active c.requires.signature_ids.1

pub returns-in-Err-clause-others : goal.returns-in-Err-clause-others
returns-in-Err-clause-others g c = rw c.active-active.ensures.active at c.copy_cached_ids.ensures.none

pub returns-in-Ok : goal.returns-in-Ok
returns-in-Ok g c = let done = c.in-Ok.ensures in
    let d = (goal.at.returns-in-Ok g c).After-new-lens in
    let active = c.active-active.ensures.active in
    let shown = c.write_split_ids.ensures in
    let told = signs_active (had g d) c.self.invariant c.mark_unvisited.ensures done.rests done.all _ _ shown.none
    c.copy_cached_ids.ensures.active shown.active in
    record {
      signs = rw (is g d, active, c.self.view_is) at told;
      visits = rw (is g d) at c.search_all.ensures.visits;
      others = rw active at shown.none;
    }
