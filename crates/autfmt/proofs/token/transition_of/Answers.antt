use Rattle.std.proofs.Common.{rules, arith}
use Rattle.std.proofs.lemmas.Grind.{common_steps}
use Rattle.autfmt.proofs.Lines.{transition_at-takes, transition-label, transition_reader, none_read, found_from}
use Rattle.autfmt.proofs.Lines.{none_from}
use Rattle.autfmt.proofs.token.transition_of.Goals as goal

pub returns-clause-found : goal.returns-clause-found
returns-clause-found c = search (rules, found_from, c.transition_in.ensures, transition_at-takes)

pub returns-clause-label : goal.returns-clause-label
returns-clause-label c =
    grind (arith, common_steps, found_from, c.transition_in.ensures, transition-label, transition_at-takes)

pub returns-clause-numbers : goal.returns-clause-numbers
returns-clause-numbers c = search (rules, transition_at-takes)

pub returns-clause-none : goal.returns-clause-none
returns-clause-none c =
    none_from _ _ _ _ c.transition_in.ensures
    (λ none s t a. none_read (transition_reader c.args.line.now) none (s, a, t))
