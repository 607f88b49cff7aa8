use Rattle.std.proofs.Common.{[], ◌∷◌, string_bytes}
use Rattle.autbis.proofs.{InOrder.refused_between, InOrder.refused_then, Runs.passes}
use Rattle.autbis.proofs.opening.open_texts.Goals as goal

pub returns-in_err-first-in-Cmp-clause-order : goal.returns-in_err-first-in-Cmp-clause-order
returns-in_err-first-in-Cmp-clause-order g c =
    passes _ _ _ _ c.from_residual-in_err-first-in-Cmp.ensures.1 (rw (c.in-Cmp.is, ← c.as_str-in-Cmp.ensures.value)
    (refused_then (string_bytes c.in-Cmp.second ∷ []) c.in_err-first-in-Cmp.ensures.order))

pub returns-in-Err-clause-order : goal.returns-in-Err-clause-order
returns-in-Err-clause-order g c =
    let others = c.close.ensures.others in
    rw (c.in-Cmp.is, ← c.as_str-in-Cmp.ensures.value, ← c.as_str-in-Cmp-2.ensures.value)
    (refused_between _ _ c.in_ok-first-in-Cmp.ensures.order
    (record { opened = others.0; failures = others.1; holds = others.2 }) c.in-Err.ensures.order)
