use Rattle.signatures.proofs.Uniting.{AreUnions-store, IsUnion-in_order}
use Rattle.signatures.proofs.trie.Trie.cache_union.Goals as goal

pub invariant_of-self : goal.invariant_of-self
invariant_of-self c =
    let nodes = c.self.inside.nodes in
    let union = (IsUnion-in_order nodes c.args.j c.args.k c.args.i).0 (rw c.self.view_is c.requires) in (
      c.self.invariant.0,
      AreUnions-store _ _ (c.min.result, c.max.result) c.args.i c.self.invariant.1
          (rw (c.min.ensures, c.max.ensures) union) c.store.ensures,
    )
