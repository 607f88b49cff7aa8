use Rattle.std.proofs.Common.{sym, ◌∙◌, bytes_eq}
use Rattle.lts.proofs.Table.{absent, IsLabelId-position}
use Rattle.std.proofs.lemmas.Map.Made.{is_some-lookup}
use Rattle.lts.proofs.labels.Labels.find.Goals as goal

pub returns-in_err-k : goal.returns-in_err-k
returns-in_err-k c = rw c.from_residual.ensures
    (rw (← c.self.view_is) (absent _ _ _ (sym (is_some-lookup (λ v. bytes_eq c.args.b.now v.items)
    c.self.inside.texts.entries) ∙ sym c.in_err-k.ensures.found)))

pub returns : goal.returns
returns c = rw (← c.self.view_is) (IsLabelId-position _ _ _ _ (sym c.in_ok-k.ensures.index))
