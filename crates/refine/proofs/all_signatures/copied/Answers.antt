use Rattle.std.proofs.Common.{arith}
use Rattle.std.proofs.lemmas.Result.{IfOk-weaker}
use Rattle.refine.proofs.all_signatures.copied.Goals as goal

pub returns-clause-active : goal.returns-clause-active
returns-clause-active c = let states = c.states.ensures.value in IfOk-weaker c.new.result _ _
    (λ b active s h. rw active (
      s,
      omega (arith, h, states, c.in_ok-active.ensures.states),
      c.in_ok-active.ensures.each s (omega (arith, h, states)),
    )) c.new.ensures.active
