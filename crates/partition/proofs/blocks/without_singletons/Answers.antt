use Rattle.std.proofs.Common.{rules, sym, arith}
use Rattle.partition.proofs.ActiveStates.{left_without, left_with}
use Rattle.partition.proofs.blocks.without_singletons.Goals as goal

pub loop-i-preserved-then-is_singleton : goal.loop-i-preserved-then-is_singleton
loop-i-preserved-then-is_singleton c =
    left_without c.loop-i-test.true c.loop-i.invariant (grind (arith, c.loop-i.invariant.looks.below))
    (c.is_singleton.ensures.0 c.if-is_singleton.true)

pub loop-i-preserved : goal.loop-i-preserved
loop-i-preserved c = rw c.in_ok-push.ensures.items (left_with c.loop-i-test.true c.loop-i.invariant)

pub returns-clause-ascending : goal.returns-clause-ascending
returns-clause-ascending c = c.loop-i.invariant.ascending _
    (grind (arith, c.loop-i.invariant.looks, c.loop-i.auto.i-end))

pub returns-clause-leaves : goal.returns-clause-leaves
returns-clause-leaves c = rw (sym c.active-active.ensures.active) (record {
  were = λ s one. grind (arith, c.loop-i.invariant.were s one, c.loop-i.auto.i-end);
  are = search (rules, c.loop-i-test.false);
})
