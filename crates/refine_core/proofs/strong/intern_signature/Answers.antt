use Rattle.std.proofs.Common.{◌≡◌, ◌∙◌, refl, inl, inr}
use Rattle.signatures.specs.Lists.{list_at}
use Rattle.std.proofs.lemmas.{Bool.iff_false, Result.IfOk-weaker}
use Rattle.refine_core.proofs.Signatures.{row_signature, row_unaffected}
use Rattle.refine_core.proofs.strong.intern_signature.Goals as goal

pub returns-then-not-branch-clause-put : goal.returns-then-not-branch-clause-put
returns-then-not-branch-clause-put g c =
    let read = c.in_ok-read_unvisited.ensures in
    rw c.invariants-2.ensures.first (inl (
      refl,
      row_unaffected _ _ _ c.invariants.ensures c.args.under.now.first_new
          (rw read.pairs at (iff_false read.affected c.if-not-branch.true)),
    ))

pub returns-clause-put : goal.returns-clause-put
returns-clause-put g c =
    let read = c.in_ok-read_unvisited.ensures in
    let (z, in_row, new) = read.affected.0 c.if-not-branch.false in
    IfOk-weaker c.push.result _ _
    (λ k (at : list_at c.push.new.self k ≡ c.deref.result.now). rw (at ∙ c.deref.ensures.value) (inr (
      (z, (c.order.ensures.same z).1 in_row, new),
      row_signature _ _ _ c.invariants.ensures _ c.order.ensures.ascending (rw read.pairs at c.order.ensures.same),
    ))) c.push.ensures.list
