use Rattle.autfmt.proofs.Lines.{one_header, one_transition, one_hide_line, not_both}
use Rattle.autfmt.proofs.line_laws.a_line_has_one_reading.Goals as goal

pub returns-clause-header : goal.returns-clause-header
returns-clause-header c = one_header

pub returns-clause-transition : goal.returns-clause-transition
returns-clause-transition c = one_transition

pub returns-clause-hide_line : goal.returns-clause-hide_line
returns-clause-hide_line c = one_hide_line

pub returns-clause-not_both : goal.returns-clause-not_both
returns-clause-not_both c = not_both
