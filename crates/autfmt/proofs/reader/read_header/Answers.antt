use Rattle.std.proofs.Common.{[], None, inl, refl}
use Rattle.autfmt.specs.{Faults.LineFault.too_long, Outcomes.Refuses.failed_source}
use Rattle.autfmt.specs.declared.cutter.Step.TheVariants.{TooLong}
use Rattle.autfmt.proofs.{FirstFaults.FaultFrom-not_known, FaultLaws.texts_are_judged}
use Rattle.autfmt.proofs.ReaderSteps.{returns_error, header_refused, header_answer}
use Rattle.autfmt.proofs.reader.read_header.Goals as goal

-- If the source (the object from which the input is read) fails before line 1 has been read to its end, then the error
-- `Device` is allowed, because line 1 may still become too long.
pub returns-in_err-advance-clause-header : goal.returns-in_err-advance-clause-header
returns-in_err-advance-clause-header g c =
    let s = rw c.requires.fresh at c.in_err-advance.ensures.step in
    record {
      given = s.0;
      took = s.1;
      outcome = returns_error _ _ _ c.from_residual.ensures.1
          (failed_source c.in_err-advance.ensures.failures refl
          (λ f known. FaultFrom-not_known (texts_are_judged c.args.lim.now) None None s.0 [] s.0 (λ more. refl) refl
          s.2.1 (inl (1, λ line long. too_long refl long)) f (λ more. (known more).first)));
    }

pub returns-in-TooLong-clause-header : goal.returns-in-TooLong-clause-header
returns-in-TooLong-clause-header g c =
    let s = rw (c.requires.fresh, c.in-TooLong.is) at c.in_ok-advance.ensures.step in
    let end = rw c.requires.fresh at c.advance.ensures.end in
    record {
      given = s.0;
      took = s.1;
      outcome = header_refused _ s.0 _ _ c.advance.new.self c.in_ok-advance.ensures.failures (end (λ over. absurd cc))
          TooLong _ s.2 (λ line others big. inl (too_long refl big)) tt;
    }

pub returns-clause-header : goal.returns-clause-header
returns-clause-header g c =
    let s = rw (c.requires.fresh, c.in-Line.is) at c.in_ok-advance.ensures.step in
    let end = rw c.requires.fresh at c.advance.ensures.end in
    record {
      given = s.0;
      took = s.1;
      outcome = header_answer _ s.0 _ _ c.advance.new.self c.in_ok-advance.ensures.failures (end (λ over. absurd cc)) _
          s.2 (rw c.line.ensures at c.judge_header.ensures.good) (rw c.line.ensures at c.judge_header.ensures.fault)
          c.judge_header.ensures.kind;
    }
