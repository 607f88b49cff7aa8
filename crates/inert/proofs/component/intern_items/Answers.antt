use Rattle.inert.specs.SearchMoves.{AreCollected}
use Rattle.inert.proofs.Signatures.{taken_ordered, numbers_there, listed}
use Rattle.inert.proofs.component.intern_items.Goals.{After-deref}
use Rattle.inert.proofs.component.intern_items.Goals as goal

-- A strongly connected component of inert transitions collects items. An item is a pair (label ID, block) or a
-- signature ID. The list `pairs` contains exactly the pairs among the items. The list `signature_ids` was sorted, and
-- its duplicates were removed. The list `signature_ids` still contains exactly the signature IDs among the items.
taken : (c : goal.After-deref) → AreCollected c.args.items.now c.deref.result.now c.collect.new.pairs.items
taken c = rw (c.deref.ensures.value) (taken_ordered _ _ _ _ _ c.in_ok-collect.ensures
    c.sort_unstable.ensures.permutation c.dedup.ensures.filtered)

pub join-requires : goal.join-requires
join-requires c = numbers_there _ _ _ _ (taken ((goal.at.join-requires c).After-deref)) c.requires

pub returns : goal.returns
returns c =
    let join = c.in_ok-id.ensures in
    listed _ _ _ _ (taken (goal.at.returns c).After-deref) _ _ c.invariants-2.ensures join.within join.grow join.exactly
