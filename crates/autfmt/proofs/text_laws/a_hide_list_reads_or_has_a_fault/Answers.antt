-- The clauses of the contract of `a_hide_list_reads_or_has_a_fault` follow from lemmas of `proofs/FaultLaws` and
-- `proofs/FirstFaults`.
use Rattle.autfmt.specs.HideLists.{FirstHideFault}
use Rattle.autfmt.proofs.{FirstFaults.without_fault, FaultLaws.hide_text_judged, FaultLaws.HideReads-no_fault}
use Rattle.autfmt.proofs.text_laws.a_hide_list_reads_or_has_a_fault.Goals as goal

pub returns-clause-one : goal.returns-clause-one
returns-clause-one c = hide_text_judged

pub returns-clause-not_both : goal.returns-clause-not_both
returns-clause-not_both c = HideReads-no_fault

pub returns-clause-none : goal.returns-clause-none
returns-clause-none c = λ text.
    without_fault (FirstHideFault text) (hide_text_judged text) (λ r f. HideReads-no_fault text r.0 f r.1)
