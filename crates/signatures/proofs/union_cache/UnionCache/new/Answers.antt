use Rattle.std.proofs.Common.{rules}
use Rattle.signatures.proofs.Uniting.{none_stored}
use Rattle.signatures.proofs.union_cache.UnionCache.new.Goals as goal

pub returns : goal.returns
returns c = search (rules, c.in_ok-resize.ensures.items, c.new-unions.ensures.items, none_stored)
