use Rattle.std.proofs.{Common.rules, Common.arith, Common.below_more, lemmas.List.get_or_default}
use Rattle.signatures.proofs.interner.has_lists.Goals as goal

pub loop-j-preserved-then-j-k : goal.loop-j-preserved-then-j-k
loop-j-preserved-then-j-k c = below_more _ _ c.loop-j.invariant (λ z d. search rules)

pub loop-j-preserved : goal.loop-j-preserved
loop-j-preserved c = below_more _ _ c.loop-j.invariant (λ z d. search rules)

pub returns : goal.returns
returns c t i d low z has = c.loop-j.invariant i (omega arith) z (rw (get_or_default _ i 0 d low) has)
