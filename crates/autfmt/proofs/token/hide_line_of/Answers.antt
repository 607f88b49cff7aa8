use Rattle.std.proofs.Common.{rules}
use Rattle.theory.specs.System.{IsLabel}
use Rattle.autfmt.specs.Reading.{hide_line_at}
use Rattle.autfmt.proofs.Lines.{hide_line_at-takes, hide_line-label, hide_line_reader, none_read, found_from, none_from}
use Rattle.autfmt.proofs.token.hide_line_of.Goals as goal

pub returns-clause-found : goal.returns-clause-found
returns-clause-found c = search (rules, found_from, c.hide_line_in.ensures, hide_line_at-takes)

pub returns-clause-label : goal.returns-clause-label
returns-clause-label c =
    let line = c.args.line.now in
    found_from _ c.hide_line_in.result (hide_line_at line) (λ a. IsLabel a) c.hide_line_in.ensures
    (λ a e. hide_line-label line a (hide_line_at-takes line a e))

pub returns-clause-none : goal.returns-clause-none
returns-clause-none c = none_from _ _ _ _ c.hide_line_in.ensures (none_read (hide_line_reader c.args.line.now))
