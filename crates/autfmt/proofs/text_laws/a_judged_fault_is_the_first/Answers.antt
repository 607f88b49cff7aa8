-- In the contract of `a_judged_fault_is_the_first`, the clause `first` follows from the definition of `JudgedFault`.
-- The other clauses are proved by lemmas in `proofs/FirstFaults` and `proofs/FaultLaws`: neither the error that a line
-- is too long nor the error that a line follows the last transition depends on the bytes that follow.
use Rattle.std.proofs.Common.{None}
use Rattle.autfmt.specs.declared.fault.Fault.TheVariants.{LineTooLong, ExtraText}
use Rattle.autfmt.proofs.{Cutting.line_grows, FirstFaults.FaultFrom-lasts}
use Rattle.autfmt.proofs.{FaultLaws.texts_are_judged, FaultLaws.ended_known}
use Rattle.autfmt.proofs.text_laws.a_judged_fault_is_the_first.Goals as goal

pub returns-clause-ended : goal.returns-clause-ended
returns-clause-ended c = ended_known

pub returns-clause-long : goal.returns-clause-long
returns-clause-long c = λ bounds given k bad more. record {
  first = FaultFrom-lasts (texts_are_judged bounds) (LineTooLong k) tt None _ _ (line_grows given more) bad.first;
}

pub returns-clause-extra : goal.returns-clause-extra
returns-clause-extra c = λ bounds given k bad more. record {
  first = FaultFrom-lasts (texts_are_judged bounds) (ExtraText k) tt None _ _ (line_grows given more) bad.first;
}
