use Rattle.std.proofs.{Common.rules, lemmas.List.Elements.All-contains}
use Rattle.signatures.proofs.Uniting.{none_stored}
use Rattle.signatures.proofs.union_cache.widen.Goals as goal

pub returns-clause-same : goal.returns-clause-same
returns-clause-same c = search (rules, c.fill.ensures.items, All-contains, none_stored)
