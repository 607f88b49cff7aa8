use Rattle.std.proofs.Common.{rules}
use Rattle.autfmt.proofs.Lists.{begins_with}
use Rattle.autfmt.proofs.spelling.append_word.Goals as goal

pub returns-then-spelled-gt0-clause-text : goal.returns-then-spelled-gt0-clause-text
returns-then-spelled-gt0-clause-text c =
    search (rules, c.in-Some.is, c.requires.spelled, begins_with, c.append.ensures.end, c.append.ensures.text)
