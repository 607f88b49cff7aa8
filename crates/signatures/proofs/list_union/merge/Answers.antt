use Rattle.std.proofs.{Common.rules, Common.◌≡◌, Common.length, Common.arith, Common.Some, lemmas.Bool.both_ways}
use Rattle.std.specs.List.Sorted.{IsStrictlySortedBy}
use Rattle.signatures.specs.{Lists.pair_cmp, Lists.merged, Extensions.parts_of}
use Rattle.signatures.proofs.{ExtendedLists.extra_skip, ExtendedLists.extra_more, Uniting.or_swap}
use Rattle.signatures.proofs.Ascending.{merged_has, merged_ascending}
use Rattle.signatures.proofs.list_union.merge.Goals as goal

pub loop-k-preserved-then-not-is_own : goal.loop-k-preserved-then-not-is_own
loop-k-preserved-then-not-is_own c = record {
  ascending = c.loop-k.invariant.ascending;
  come = λ z.
      extra_skip c.args.extensions.now c.args.ids.now (λ b. c.args.own ≡ Some b) z (parts_of c.of-list.result)
      c.loop-k.k-index c.of-list.ensures (c.loop-k.invariant.come z)
      (λ own. both_ways _ c.if-not-is_own.true (c.is_own.ensures.1 own));
}

-- After the call of `swap`, the vector `pairs` contains the result of the last merge.
pub loop-k-preserved : goal.loop-k-preserved
loop-k-preserved c =
    let is : c.swap.new.y.items ≡ merged c.of-list.result.extra.now c.loop-k.pairs.items = search rules in
    let x = parts_of c.of-list.result in
    let old = c.loop-k.pairs.items in
    let known = c.requires.ids c.loop-k.k-index 0 c.loop-k-test.true in
    let ascending : IsStrictlySortedBy pair_cmp x.1 = search rules in
    record {
      ascending = rw is (merged_ascending x.1 old ascending c.loop-k.invariant.ascending);
      come = λ z. rw is (extra_more c.args.extensions.now c.args.ids.now (λ b. c.args.own ≡ Some b) z x
          c.loop-k.k-index c.of-list.ensures (c.loop-k.invariant.come z) (c.is_own.ensures.0 c.if-not-is_own.false)
          (or_swap (merged_has z x.1 old)));
    }

pub returns-clause-exactly : goal.returns-clause-exactly
returns-clause-exactly c z =
    let end : c.loop-k.k-index ≡ length c.args.ids.now = omega arith in
    rw (← end) (c.loop-k.invariant.come z)
