use Rattle.std.proofs.Common.{rules, ◌∙◌, ap, inr}
use Rattle.lts.proofs.CallerLemmas.{none_visited}
use Rattle.refine_core.proofs.signed_blocks.SignedBlocks.begin_index.Goals as goal

pub invariant_of-result : goal.invariant_of-result
invariant_of-result g c = rw c.in_ok-blocks.ensures (c.forget.ensures.states, λ s h. inr (c.forget.ensures.empty s h))

pub returns-then-not-needs_index-clause-visited : goal.returns-then-not-needs_index-clause-visited
returns-then-not-needs_index-clause-visited g c =
    none_visited _ _ _ (ap (λ r. r.visited) c.needs_index.ensures ∙ c.requires.none)

pub returns-clause-begins : goal.returns-clause-begins
returns-clause-begins g c = search (rules, c.in_ok-predecessors.ensures.index)
