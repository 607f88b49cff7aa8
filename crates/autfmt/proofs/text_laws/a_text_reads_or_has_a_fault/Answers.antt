-- The clauses of the contract of `a_text_reads_or_has_a_fault` follow from lemmas of `proofs/FaultLaws` and
-- `proofs/FirstFaults`.
use Rattle.autfmt.specs.Faults.{FirstFault}
use Rattle.autfmt.proofs.{FirstFaults.without_fault, FaultLaws.text_judged, FaultLaws.Reads-no_fault}
use Rattle.autfmt.proofs.text_laws.a_text_reads_or_has_a_fault.Goals as goal

pub returns-clause-one : goal.returns-clause-one
returns-clause-one c = text_judged

pub returns-clause-not_both : goal.returns-clause-not_both
returns-clause-not_both c = Reads-no_fault

pub returns-clause-none : goal.returns-clause-none
returns-clause-none c = λ bounds text.
    without_fault (FirstFault bounds text) (text_judged bounds text) (λ r f. Reads-no_fault bounds text r.0 f r.1)
