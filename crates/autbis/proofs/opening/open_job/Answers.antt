use Rattle.std.proofs.Common.{◌≡◌, ◌∙◌, inl, option_map, string_bytes, arith}
use Rattle.std.proofs.lemmas.Grind.{common_steps}
use Rattle.autbis.specs.Jobs.{hide_of}
use Rattle.autbis.proofs.{InOrder.all_then, InOrder.given_up_between, InOrder.refused_then, Runs.passes}
use Rattle.autbis.proofs.opening.open_job.Given.{Over}
use Rattle.autbis.proofs.opening.open_job.Goals.{After-hidden_of, in-Min, in-Min-2}
use Rattle.autbis.proofs.opening.open_job.Goals as goal

-- A job is the task that the command line asks for, and a hide list is a file with the labels to hide. The hide list
-- that was read is the hide list that the job names.
asked_is : (g : Over) (c : After-hidden_of g) → option_map string_bytes c.match-job.hide.now ≡ hide_of c.args.job.now
asked_is g c =
    elim c.match-job.branch [ in-Min w ↦ grind (arith, common_steps) | in-Min-2 w ↦ grind (arith, common_steps) ]

pub returns-in_err-texts-clause-given_up : goal.returns-in_err-texts-clause-given_up
returns-in_err-texts-clause-given_up g c =
    passes _ _ _ _ c.from_residual.ensures.1 (inl (refused_then _ c.in_err-texts.ensures.order))

pub returns-in-Err-clause-given_up : goal.returns-in-Err-clause-given_up
returns-in-Err-clause-given_up g c =
    let asked = asked_is g (goal.at.returns-in-Err-clause-given_up g c).After-hidden_of in
    let texts = c.in_ok-texts.ensures in
    given_up_between _ _ texts.order c.close_texts.ensures.others texts.none_lost
    (c.close_texts.ensures.sound texts.texts.sound) (rw asked at c.in-Err.ensures.given_up)

pub returns-in-Ok-clause-opened : goal.returns-in-Ok-clause-opened
returns-in-Ok-clause-opened g c =
    let asked = asked_is g (goal.at.returns-in-Ok-clause-opened g c).After-hidden_of in
    let all = c.in_ok-texts.ensures.order in
    record {
      all = all_then _ all (rw asked at c.in-Ok.ensures.all);
      none_lost = c.in-Ok.ensures.none_lost ∙ c.in_ok-texts.ensures.none_lost;
      texts = c.in_ok-texts.ensures.texts;
      hidden = rw (all.same, asked) at c.in-Ok.ensures.labels;
    }
