use Rattle.std.proofs.Common.{rules, ◌≡◌, ◌+◌, true, false, take, refl, ◌∙◌}
use Rattle.std.proofs.lemmas.List.{take_rest}
use Rattle.autfmt.specs.Reading.{is_label}
use Rattle.autfmt.proofs.Labels.{IsLabel-from_test, test-IsLabel, quoted_at-none, quoted_at-found}
use Rattle.autfmt.proofs.token.quoted_at.Goals as goal

pub returns-in_err-end : goal.returns-in_err-end
returns-in_err-end c = rw c.from_residual.ensures (quoted_at-none c.args.line.now c.in_err-end.ensures.none)

pub returns-then-is_label : goal.returns-then-is_label
returns-then-is_label c =
    let line = c.args.line.now in
    let at = c.in_ok-end.ensures in
    let test : is_label (take c.in_ok-end.end line) ≡ true =
    test-IsLabel (take c.in_ok-end.end line) (c.is_label.ensures.0 c.if-is_label.true) in
    quoted_at-found line c.in_ok-end.end at.within at.quote at.last
    ∙ rw (test, take_rest line (c.in_ok-end.end + 1)) refl

pub returns-else-is_label : goal.returns-else-is_label
returns-else-is_label c =
    let line = c.args.line.now in
    let at = c.in_ok-end.ensures in
    let test : is_label (take c.in_ok-end.end line) ≡ false = search (rules, IsLabel-from_test) in
    quoted_at-found line c.in_ok-end.end at.within at.quote at.last ∙ rw test refl
