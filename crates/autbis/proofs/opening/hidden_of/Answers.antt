use Rattle.std.proofs.Common.{◌∙◌, ap, inr, rules}
use Rattle.autfmt.specs.HideReaders.{IsHideFault}
use Rattle.autfmt.specs.HideOutcomes.HideRefuses.{faulty_text, failed_source, no_memory as refused_memory}
use Rattle.autfmt.proofs.CallerLemmas.{HideReads-no_fault}
use Rattle.autbis.specs.Reports.{status_of}
use Rattle.autbis.specs.Jobs.HideListFails.{list_failed, no_memory, list_faulty}
use Rattle.autbis.proofs.{Ending.revealed_is_faulty, Ending.revealed_then, Ending.text_status, InOrder.all_closed}
use Rattle.autbis.proofs.opening.hidden_of.Goals as goal

-- The prover could find this proof by itself, so the proof could be left out. With the proof, however, the prover
-- rejects incorrect code faster.
pub returns-in-Ok-clause-labels : goal.returns-in-Ok-clause-labels
returns-in-Ok-clause-labels g c = search rules

pub returns-in-Err-clause-given_up : goal.returns-in-Err-clause-given_up
returns-in-Err-clause-given_up g c =
    let others = c.close.ensures.others in
    let opened = c.in_ok-file.ensures in
    let read = c.in-Err.ensures.outcome in
    rw (c.in-Some.is, ← c.as_str.ensures.value, c.report.ensures.status)
    (inr (
      all_closed _ (record { opened = others.0; failures = others.1; holds = others.2 }) opened.order,
      elim read.outcome [
        | faulty_text sound of_list first ↦ list_faulty (c.close.ensures.sound sound ∙ opened.none_lost)
            (revealed_then _ _ _ opened.bytes (revealed_is_faulty HideReads-no_fault _ _ _ _ read.took first))
            (text_status IsHideFault (λ no. no) (λ no. no) _ of_list)
        | failed_source failed device unknown ↦
            list_failed (λ e. cc) (c.close.ensures.lost failed) (ap status_of device)
        | refused_memory sound memory ↦
            no_memory (c.close.ensures.sound sound ∙ opened.none_lost) (ap status_of memory)
      ],
    ))
