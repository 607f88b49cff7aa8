use Rattle.std.proofs.Common.{rules}
use Rattle.autfmt.proofs.Lists.{begins_with}
use Rattle.autfmt.proofs.spelling.Front.put.Goals as goal

pub returns-clause-text : goal.returns-clause-text
returns-clause-text c = search (rules, begins_with)
