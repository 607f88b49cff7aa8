use Rattle.std.proofs.Common.{rules, ◌≡◌, ◌∙◌, ◌<◌, [], sym, arith}
use Rattle.std.proofs.lemmas.{Bool.both_ways, List.get_or-map, List.length-map}
use Rattle.signatures.specs.Lists.{list_at}
use Rattle.signatures.specs.Extensions.{parts_of, extended, extended_lists, IsExtension}
use Rattle.signatures.proofs.ExtendedLists.{tags_size, extended-grow, IsExtension-grow}
use Rattle.signatures.proofs.Storing.{Grow-twice, IsReached-last, IsReached-before}
use Rattle.signatures.proofs.table.Table.find.Goals.{After-of}
use Rattle.signatures.proofs.table.Table.find.Goals as goal

pub loop-r-init : goal.loop-r-init
loop-r-init c = search (rules, tags_size, IsReached-last)

at_r : (c : After-of) → IsExtension c.args.bases.now.trie (parts_of c.of.result)
at_r c = rw c.of.ensures (c.requires.extensions.each c.loop-r.r (0, []) c.loop-r.invariant.low)

pub is_same-requires-clause-one : goal.is_same-requires-clause-one
is_same-requires-clause-one c = search (rules, IsExtension-grow, c.loop-r.invariant.grow, at_r)

pub is_same-requires-clause-other : goal.is_same-requires-clause-other
is_same-requires-clause-other c = IsExtension-grow c.loop-r.invariant.grow _ c.requires.list

-- The search compares the given list with the list with the ID `r`. During the search, lists may be added to the trie,
-- which stores lists of pairs that other lists can share. Nevertheless, the list with the ID `r` contains the same
-- pairs as at the start of the call.
list_r : (c : After-of) → list_at (extended_lists c.args.bases.now.trie c.args.self.now.extensions) c.loop-r.r
    ≡ extended c.loop-r.bases.trie (parts_of c.of.result)
list_r c =
    search (rules, extended-grow, c.loop-r.invariant.grow, at_r, get_or-map, c.loop-r.invariant.low, c.of.ensures)

pub loop-r-preserved : goal.loop-r-preserved
loop-r-preserved c =
    let at = (goal.at.loop-r-preserved c).After-of in
    let some : 0 < c.loop-r.r = let h = c.loop-r-test.true in omega arith in
    let list_is = extended-grow c.loop-r.invariant.grow (parts_of c.args.list) c.requires.list in
    record {
      grow = Grow-twice c.loop-r.invariant.grow c.is_same.ensures.grow;
      low = omega (arith, c.loop-r.invariant.low, c.before-r.ensures.below some);
      reached = IsReached-before _ _ c.requires.extensions.tagged some
          (λ e. both_ways _ c.if-branch.false (c.in_ok-is_same.ensures.same.1 (sym (list_r at) ∙ e ∙ sym list_is)))
          c.loop-r.invariant.reached c.before-r.ensures;
    }

pub returns-then-branch-clause-found : goal.returns-then-branch-clause-found
returns-then-branch-clause-found c =
    search (rules, c.loop-r.invariant.low, length-map, list_r, c.in_ok-is_same.ensures.same, extended-grow)
