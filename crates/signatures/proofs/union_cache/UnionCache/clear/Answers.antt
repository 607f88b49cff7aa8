use Rattle.signatures.proofs.Uniting.{none_stored}
use Rattle.signatures.proofs.union_cache.UnionCache.clear.Goals as goal

pub returns : goal.returns
returns c = none_stored c.fill.new.self.items _ (c.fill.ensures.items (λ y e. e))
