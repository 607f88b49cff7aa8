use Rattle.std.proofs.Common.{rules, ◌∙◌, inl, inr, refl}
use Rattle.autbis.specs.Jobs.JobEnds.{given_up, ran}
use Rattle.autbis.specs.Programs.AnswersWords.{job, no_job}
use Rattle.autbis.proofs.{Ending.as_revealed, Ending.ends_revealed, InOrder.all_closed, InOrder.given_up_fails}
use Rattle.autbis.proofs.job.main_program.Goals as goal

pub returns-in-Err-clause-answer : goal.returns-in-Err-clause-answer
returns-in-Err-clause-answer g c = no_job c.in-Err.fault c.in-Err.ensures.fault refl refl c.answer_words.ensures.ends

pub returns-in-Ok-open_job-clause-answer : goal.returns-in-Ok-open_job-clause-answer
returns-in-Ok-open_job-clause-answer g c =
    let is = c.in-Ok-open_job.ensures.opened in
    let named = is.texts.files in
    let ran_to = c.run_opened-status.ensures in
    let closed = c.close_texts.ensures in
    job c.in-Ok.job c.in-Ok.ensures.job (ran (record {
      all = all_closed _ closed.others is.all;
      unread = λ texts. ran_to.unread (named.1 texts);
      hidden = _;
      hides = is.hidden;
      ends =
          ends_revealed (is.texts.contents _) (λ sound. (sound.0, closed.sound sound.1 ∙ is.none_lost))
          (λ lost. elim lost [ inl input ↦ inl input | inr (are, one) ↦ inr (named.0 are, closed.lost one) ])
          ran_to.ends;
    }))

pub returns-in-Ok-open_job-clause-silent : goal.returns-in-Ok-open_job-clause-silent
returns-in-Ok-open_job-clause-silent g c low =
    let is = c.in-Ok-open_job.ensures.opened in
    let same = c.in-Ok-open_job.ensures.silent in
    elim (c.run_opened-status.ensures.silent low) [
      | inl silent ↦ inl (silent ∙ same)
      | inr (stats, shown) ↦
          let shown = (as_revealed _ _ _ (is.texts.contents _)).2 _ _ (rw same at shown) in
          inr (search (rules, c.in-Ok.ensures.job, stats, is.hidden, shown))
    ]

pub returns-clause-silent : goal.returns-clause-silent
returns-clause-silent g c low = absurd (given_up_fails c.in-Err-open_job.ensures.given_up low)

pub returns-clause-answer : goal.returns-clause-answer
returns-clause-answer g c =
    job c.in-Ok.job c.in-Ok.ensures.job (given_up c.in-Err-open_job.ensures.given_up refl refl)
