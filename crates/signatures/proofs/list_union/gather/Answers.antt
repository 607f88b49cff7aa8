use Rattle.std.proofs.{Common.◌≡◌, Common.length, Common.arith, Common.Some, lemmas.Bool.both_ways}
use Rattle.signatures.specs.Extensions.{parts_of}
use Rattle.signatures.proofs.{ExtendedLists.extra_skip, ExtendedLists.extra_more, Cuts.halves_has}
use Rattle.signatures.proofs.list_union.gather.Goals as goal

pub loop-k-preserved-then-is_own : goal.loop-k-preserved-then-is_own
loop-k-preserved-then-is_own c z =
    extra_skip c.args.extensions.now c.args.ids.now (λ b. ¬ (c.args.own ≡ Some b)) z (parts_of c.of-list.result)
    c.loop-k.k-index c.of-list.ensures (c.loop-k.invariant z) (λ none. none (c.is_own.ensures.0 c.if-is_own.true))

pub loop-k-preserved : goal.loop-k-preserved
loop-k-preserved c z =
    let x = parts_of c.of-list.result in
    rw c.in_ok-extend_from_slice.ensures.items (extra_more c.args.extensions.now c.args.ids.now
    (λ b. ¬ (c.args.own ≡ Some b)) z x c.loop-k.k-index c.of-list.ensures (c.loop-k.invariant z)
    (λ own. both_ways _ c.if-is_own.false (c.is_own.ensures.1 own)) (halves_has c.loop-k.pairs.items x.1 z))

pub returns : goal.returns
returns c z =
    let end : c.loop-k.k-index ≡ length c.args.ids.now = omega arith in
    rw (← end) (c.loop-k.invariant z)
