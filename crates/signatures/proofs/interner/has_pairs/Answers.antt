use Rattle.std.proofs.{Common.rules, Common.refl, Common.arith, Common.below_more, lemmas.List.get_or_default}
use Rattle.signatures.proofs.interner.has_pairs.Goals as goal

pub loop-pair-preserved : goal.loop-pair-preserved
loop-pair-preserved c = below_more _ _ c.loop-pair.invariant (search rules)

pub returns : goal.returns
returns c = (λ t i d low. rw (get_or_default _ i d (0, 0) low) (c.loop-pair.invariant i (omega arith)), λ _. refl)
