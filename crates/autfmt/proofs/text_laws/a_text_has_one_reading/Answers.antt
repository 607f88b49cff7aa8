-- Each clause of the contract of `a_text_has_one_reading` is proved by a lemma in `proofs/FirstFaults` or
-- `proofs/FaultLaws`.
use Rattle.std.proofs.Common.{None}
use Rattle.autfmt.specs.Texts.{lines_of}
use Rattle.autfmt.proofs.{FirstFaults.FaultFrom-unique, FaultLaws.texts_are_judged, FaultLaws.Reads-unique}
use Rattle.autfmt.proofs.text_laws.a_text_has_one_reading.Goals as goal

pub returns-clause-system : goal.returns-clause-system
returns-clause-system c = Reads-unique

pub returns-clause-fault : goal.returns-clause-fault
returns-clause-fault c = λ bounds text f g a b.
    FaultFrom-unique (texts_are_judged bounds) None (lines_of text) f g a.first b.first
