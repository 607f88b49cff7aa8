-- Each clause of the contract of `hiding_depends_on_the_labels` is proved by a lemma in `proofs/Holding`.
use Rattle.autfmt.proofs.Holding.{Hide-same, Hide-none}
use Rattle.autfmt.proofs.text_laws.hiding_depends_on_the_labels.Goals as goal

pub returns-clause-same : goal.returns-clause-same
returns-clause-same c = Hide-same

pub returns-clause-none : goal.returns-clause-none
returns-clause-none c = Hide-none
