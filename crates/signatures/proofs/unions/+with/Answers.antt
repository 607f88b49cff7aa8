use Rattle.std.proofs.Common.{rules, ◌≡◌, ◌∙◌, ℕ, [], arith}
use Rattle.std.proofs.lemmas.Result.{IfOk-weaker}
use Rattle.signatures.specs.Lists.{list_at, merged}
use Rattle.signatures.proofs.Uniting.{AreUnited, AreUnited-parts, parted_grown, parts_fewer, halved_long, unites_merged}
use Rattle.signatures.proofs.{Uniting.merged_fit, Storing.Grow-same, Cuts.parts_both, Ascending.merged_ascending}
use Rattle.signatures.proofs.unions.+with.Goals.{In_ok-above-in-Halved, After-deref}
use Rattle.signatures.proofs.unions.+with.Goals as goal

pub with-requires : goal.with-requires
with-requires t c =
    let is = c.pieces_with_pairs-cut.ensures _ c.invariants.ensures.stored c.in-Halved.ensures in
    let less = parts_fewer is.pairs is.list.parted is.cut in
    (omega (arith, less), (omega (arith, is.list.first), (parts_both is.pairs c.requires.ascending c.requires.fit).0))

pub with-requires-in-Halved : goal.with-requires-in-Halved
with-requires-in-Halved t c =
    let is = c.pieces_with_pairs-cut.ensures _ c.invariants.ensures.stored c.in-Halved.ensures in
    let grow = c.with.ensures.grow in
    let less = parts_fewer is.pairs (parted_grown grow grow is.list c.requires.list) is.cut in
    let both = (parts_both is.pairs c.requires.ascending c.requires.fit).1 in
    (omega (arith, less), (omega (arith, is.list.second, grow.longer), both))

-- The union of the list with the ID `k` and the list `pairs` is divided into two halves at a number. The lower part of
-- each of the two lists contains the pairs whose numbers (`pair_value`) are less than this number, and the upper part
-- contains the other pairs. The first half of the union is the union of the two lower parts, and the second half is the
-- union of the two upper parts.
united_in : (t : ℕ) (c : In_ok-above-in-Halved t) → AreUnited c.with-in-Halved.new.trie (record {
  below = c.in_ok-below-in-Halved.below;
  above = c.in_ok-above-in-Halved.above;
  cut = c.pieces_with_pairs-cut.result.cut;
}) c.args.pairs.now (list_at c.args.trie.now c.args.k)
united_in t c =
    let is = c.pieces_with_pairs-cut.ensures _ c.invariants.ensures.stored c.in-Halved.ensures in
    let lower = c.in_ok-below-in-Halved.ensures in
    let upper = c.in_ok-above-in-Halved.ensures in
    AreUnited-parts is.pairs (parted_grown (Grow-same _) c.with.ensures.grow is.list c.requires.list)
    c.with-in-Halved.ensures.grow lower.within lower.exactly upper.within upper.exactly
    (c.invariants.ensures.stored.ascending c.args.k _ c.requires.list) (halved_long c.in-Halved.ensures) is.cut

pub intern-requires : goal.intern-requires
intern-requires t c = (united_in t ((goal.at.intern-requires t c).In_ok-above-in-Halved)).0

pub returns-in_ok-above-in-Halved-clause-exactly : goal.returns-in_ok-above-in-Halved-clause-exactly
returns-in_ok-above-in-Halved-clause-exactly t c =
    let both = united_in t ((goal.at.returns-in_ok-above-in-Halved-clause-exactly t c).In_ok-above-in-Halved) in
    IfOk-weaker c.intern.result _ _ (λ i e. rw e both.1) c.intern.ensures.list

-- The list that is interned is the merge of two lists: the list with the ID `k`, and the list `pairs`.
both_are : (t : ℕ) (c : After-deref t) →
    c.deref.result.now ≡ merged (list_at c.args.trie.now c.args.k) c.args.pairs.now
both_are t c = search rules

pub list_of-requires-in-Whole : goal.list_of-requires-in-Whole
list_of-requires-in-Whole t c = rw (both_are t ((goal.at.list_of-requires-in-Whole t c).After-deref)) (record {
  ascending =
      merged_ascending _ _ (c.invariants.ensures.stored.ascending c.args.k _ c.requires.list) c.requires.ascending;
  fit = merged_fit _ _ (c.invariants.ensures.stored.fit c.args.k [] c.requires.list) c.requires.fit;
})

pub returns-in_ok-append_merged-in-Whole-clause-exactly : goal.returns-in_ok-append_merged-in-Whole-clause-exactly
returns-in_ok-append_merged-in-Whole-clause-exactly t c =
    let both = both_are t ((goal.at.returns-in_ok-append_merged-in-Whole-clause-exactly t c).After-deref) in
    IfOk-weaker c.list_of-in-Whole.result _ _ (λ i e. unites_merged _ _ _ (e ∙ both)) c.list_of-in-Whole.ensures.list
