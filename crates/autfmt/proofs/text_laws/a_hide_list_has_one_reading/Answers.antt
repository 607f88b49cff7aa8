-- Each clause of the contract of `a_hide_list_has_one_reading` is proved by a lemma in `proofs/FirstFaults` or
-- `proofs/FaultLaws`.
use Rattle.autfmt.specs.Texts.{lines_of}
use Rattle.autfmt.proofs.{FirstFaults.FaultFrom-unique, FaultLaws.hides_are_judged, FaultLaws.HideReads-unique}
use Rattle.autfmt.proofs.text_laws.a_hide_list_has_one_reading.Goals as goal

pub returns-clause-labels : goal.returns-clause-labels
returns-clause-labels c = HideReads-unique

pub returns-clause-fault : goal.returns-clause-fault
returns-clause-fault c = λ text f g a b. FaultFrom-unique hides_are_judged 0 (lines_of text) f g a.first b.first
