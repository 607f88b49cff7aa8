use Rattle.std.proofs.Common.{ℕ, false, get_or, rules, ◌≡◌, ◌≤◌, length, arith}
use Rattle.std.proofs.lemmas.{List.Sorted.length_permutation, Result.IfOk-weaker}
use Rattle.quotient_core.proofs.{Reaching.rows_few, quotient.quotient_of.Given.Over}
use Rattle.quotient_core.proofs.Quotients.{quotient_in_range, built, show_each_other}
use Rattle.quotient_core.proofs.quotient.quotient_of.Goals.{In_ok-shown, After-len}
use Rattle.quotient_core.proofs.quotient.quotient_of.Goals as goal

pub shown_transitions-requires-clause-whole : goal.shown_transitions-requires-clause-whole
shown_transitions-requires-clause-whole g c = show_each_other c.in_ok-numbering.ensures c.invariants.ensures

less : (g : Over) (c : In_ok-shown g) → length c.in_ok-shown.shown ≤ length c.args.l.now.places
less g c = let reached = λ (s : ℕ). get_or c.in_ok-numbering.numbering.reached.items s false in
    omega (arith, c.in_ok-shown.ensures.shown.few, rows_few reached c.args.l.now.places)

counted : (g : Over) (c : After-len g) → c.len.result ≡ length c.in_ok-numbering.numbering.classes.items
counted g c = search (rules, c.in_ok-numbering.numbering.classes.ok)

pub with_labels_of-requires : goal.with_labels_of-requires
with_labels_of-requires g c = let goals = goal.at.with_labels_of-requires g c in
    let shown = c.in_ok-shown.ensures in
    rw (counted g goals.After-len) (quotient_in_range c.in_ok-numbering.ensures c.invariants.ensures _ shown.shown
    shown.once (less g goals.In_ok-shown))

pub returns-clause-quotient : goal.returns-clause-quotient
returns-clause-quotient g c = let shown = c.in_ok-shown.ensures in
    IfOk-weaker c.with_labels_of.result _ _
    (built c.in_ok-numbering.ensures c.invariants.ensures _ shown.shown shown.once)
    (rw (counted g (goal.at.returns-clause-quotient g c).After-len) at c.with_labels_of.ensures)

pub returns-clause-no_larger : goal.returns-clause-no_larger
returns-clause-no_larger g c =
    let at = goal.at.returns-clause-no_larger g c in
    IfOk-weaker c.with_labels_of.result _
    (λ q. (q.states ≤ c.args.l.now.states) × (length q.places ≤ length c.args.l.now.places))
    (λ q made. (
      omega (arith, made.states, counted g at.After-len, c.in_ok-numbering.ensures.few),
      omega (arith, length_permutation c.in_ok-shown.shown q.places made.grouping.same, less g at.In_ok-shown),
    )) c.with_labels_of.ensures
