-- In the contract of `a_judged_hide_fault_is_the_first`, the clause `first` follows from the definition of
-- `JudgedHideFault`. The other clauses are proved by lemmas in `proofs/FirstFaults`: neither the error that a line is
-- too long nor the error that there are too many lines depends on the bytes that follow.
use Rattle.autfmt.specs.declared.fault.Fault.TheVariants.{LineTooLong, TooManyHidden}
use Rattle.autfmt.proofs.{Cutting.line_grows, FirstFaults.FaultFrom-ended, FirstFaults.FaultFrom-lasts}
use Rattle.autfmt.proofs.FaultLaws.{hides_are_judged}
use Rattle.autfmt.proofs.text_laws.a_judged_hide_fault_is_the_first.Goals as goal

pub returns-clause-ended : goal.returns-clause-ended
returns-clause-ended c = λ front f bad more.
    record { first = FaultFrom-ended hides_are_judged 0 front more f (λ found steps e. cc) bad.first }

pub returns-clause-long : goal.returns-clause-long
returns-clause-long c = λ given k bad more. record {
  first = FaultFrom-lasts hides_are_judged (LineTooLong k) tt 0 _ _ (line_grows given more) bad.first;
}

pub returns-clause-extra : goal.returns-clause-extra
returns-clause-extra c = λ given bad more. record {
  first = FaultFrom-lasts hides_are_judged TooManyHidden tt 0 _ _ (line_grows given more) bad.first;
}
