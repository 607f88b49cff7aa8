use Rattle.std.proofs.Common.{arith}
use Rattle.signatures.proofs.Uniting.{written}
use Rattle.signatures.proofs.union_cache.UnionCache.store.Goals as goal

pub returns-in_err-widen : goal.returns-in_err-widen
returns-in_err-widen c = λ z d. rw (← c.self.view_is) (grind (arith, c.widen.ensures.same z d))

pub returns : goal.returns
returns c = λ z d. rw (← c.self.view_is)
    (grind (arith, written c.widen.new.unions.items c.slot-at.result _ z d, c.widen.ensures.same z))
