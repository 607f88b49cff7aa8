use Rattle.std.proofs.Common.{rules, ◌∙◌, [], sym, append-nil}
use Rattle.refine_core.proofs.CallerLemmas.{row_signature}
use Rattle.refine.proofs.sense.StrongSense.signature.Goals as goal

pub returns-in_err-extend_from_slice-clause-extends : goal.returns-in_err-extend_from_slice-clause-extends
returns-in_err-extend_from_slice-clause-extends g c =
    let none = c.in_err-extend_from_slice.ensures.items ∙ sym (append-nil c.args.out.now.items) in search (rules, [])

pub returns-clause-appends : goal.returns-clause-appends
returns-clause-appends g c =
    let l = c.args.l.now in
    let signature = row_signature l c.blocks-2.result.now c.args.s c.invariants.ensures
    c.order.new.pairs.items c.order.ensures.ascending (rw c.in_ok-read.ensures.pairs at c.order.ensures.same) in
    rw (← c.blocks-2.ensures.blocks) (_, signature, search rules)
