use Rattle.std.proofs.Common.{rules}
use Rattle.autfmt.proofs.Lines.{header_at-takes, header_reader, none_read, found_from, none_from}
use Rattle.autfmt.proofs.token.header_of.Goals as goal

pub returns-clause-found : goal.returns-clause-found
returns-clause-found c = search (rules, found_from, c.header_in.ensures, header_at-takes)

pub returns-clause-none : goal.returns-clause-none
returns-clause-none c =
    none_from _ _ _ _ c.header_in.ensures (λ none f m n. none_read (header_reader c.args.line.now) none (f, m, n))
