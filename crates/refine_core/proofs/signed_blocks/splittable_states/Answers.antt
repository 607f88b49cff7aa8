use Rattle.std.proofs.Common.{inl, inr, arith}
use Rattle.std.proofs.lemmas.List.{nil_from_length}
use Rattle.refine_core.proofs.Searching.{live_less, live_more}
use Rattle.refine_core.proofs.signed_blocks.splittable_states.Goals as goal

pub loop-s-preserved-then-start-end : goal.loop-s-preserved-then-start-end
loop-s-preserved-then-start-end g c =
    live_less c.loop-s.invariant
    (inr (nil_from_length _ (omega (arith, c.row-start.ensures.count, c.if-start-end.true))))

pub loop-s-preserved-then-is_singleton : goal.loop-s-preserved-then-is_singleton
loop-s-preserved-then-is_singleton g c = live_less c.loop-s.invariant
    (inl (c.is_singleton.ensures.0 c.if-is_singleton.true))

pub loop-s-preserved : goal.loop-s-preserved
loop-s-preserved g c = live_more c.loop-s.invariant c.in_ok-push.ensures.items
