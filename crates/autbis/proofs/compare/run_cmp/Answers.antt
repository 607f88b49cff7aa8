use Rattle.std.proofs.Common.{rules, ◌+◌, ap₂, refl}
use Rattle.autfmt.specs.declared.fault.Fault.TheVariants.{Memory}
use Rattle.autbis.specs.declared.compare.Side.TheVariants.{Run}
use Rattle.autbis.specs.Comparisons.ComparisonFails.{second_not_read, out_of_memory, not_written}
use Rattle.autbis.proofs.Runs.{has_read_both, keeps_whole, takes_error, turns_of, verdict_of}
use Rattle.autbis.proofs.compare.run_cmp.Goals as goal

pub returns-in_err-first-clause-outcome : goal.returns-in_err-first-clause-outcome
returns-in_err-first-clause-outcome g c = search rules

pub returns-in_err-second-clause-outcome : goal.returns-in_err-second-clause-outcome
returns-in_err-second-clause-outcome g c =
    let one = c.in_ok-first.ensures.outcome in
    let got = c.in_err-second.ensures.outcome in
    takes_error c.in_err-second.field-0.0 one.given c.from_residual-in_err-second.ensures.1 one.took
    (second_not_read (search (
      rules,
      got.outcome.0,
      got.outcome.1,
      got.took,
      one.outcome.at_end,
      one.outcome.sound,
      one.outcome.read.1,
    )) c.requires.sink c.requires.fresh)

pub returns-in_err-same-clause-outcome : goal.returns-in_err-same-clause-outcome
returns-in_err-same-clause-outcome g c =
    let one = c.in_ok-first.ensures.outcome in
    let other = c.in_ok-second.ensures.outcome in
    takes_error (record { side = Run; fault = Memory }) one.given c.from_residual-in_err-same.ensures.1 one.took
    (out_of_memory refl refl (has_read_both one.outcome other.outcome other.took c.equivalent.ensures.keeps)
    c.requires.sink)

pub returns-in_err-write_verdict-clause-outcome : goal.returns-in_err-write_verdict-clause-outcome
returns-in_err-write_verdict-clause-outcome g c =
    let one = c.in_ok-first.ensures.outcome in
    let other = c.in_ok-second.ensures.outcome in
    let is = c.in_err-write_verdict.ensures in
    let compared = rw c.in_ok-same.was at c.equivalent.ensures in
    takes_error c.in_err-write_verdict.field-0.0 one.given c.from_residual-in_err-write_verdict.ensures.1 one.took
    (not_written is.fault.0 is.fault.1 (record {
      got = has_read_both one.outcome other.outcome other.took compared.keeps;
      same = c.in_ok-same.same;
      verdict = verdict_of one.outcome other.outcome _ _ compared.verdict;
      written = (is.err, is.failures);
    }))

pub returns-in_err-write_verdict-clause-untouched : goal.returns-in_err-write_verdict-clause-untouched
returns-in_err-write_verdict-clause-untouched g c = search rules

pub returns-clause-outcome : goal.returns-clause-outcome
returns-clause-outcome g c =
    let one = c.in_ok-first.ensures.outcome in
    let other = c.in_ok-second.ensures.outcome in
    let is = rw c.in_ok-same.was at c.equivalent.ensures in
    record {
      given = one.given;
      took = one.took;
      outcome = record {
        got = has_read_both one.outcome other.outcome other.took is.keeps;
        verdict = verdict_of one.outcome other.outcome _ _ is.verdict;
        written = (c.in_ok-write_verdict.ensures.ok, c.in_ok-write_verdict.ensures.failures);
        counts = record {
          turns = turns_of one.outcome other.outcome _ _ is.turns;
          keeps = keeps_whole (ap₂ ◌+◌ one.outcome.read.2.states other.outcome.read.2.states)
              (ap₂ ◌+◌ one.outcome.as_many other.outcome.as_many) _ is.keeps;
        };
      };
    }
