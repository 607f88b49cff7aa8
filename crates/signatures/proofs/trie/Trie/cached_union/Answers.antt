use Rattle.std.proofs.{Common.subst, lemmas.Option.IfSome_then}
use Rattle.signatures.{specs.Unions.IsUnion, proofs.Uniting.IsUnion-in_order}
use Rattle.signatures.proofs.trie.Trie.cached_union.Goals as goal

pub returns : goal.returns
returns c =
    IfSome_then c.find.result c.find.ensures (λ i d.
    (IsUnion-in_order c.args.self.now c.args.j c.args.k i).1
    (rw (← c.min.ensures, ← c.max.ensures) (subst (λ l. IsUnion l (c.min.result, c.max.result) i) c.self.view_is
    (c.self.invariant.1 _ d))))
