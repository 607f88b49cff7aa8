use Rattle.std.proofs.Common.{arith}
use Rattle.std.proofs.lemmas.Result.{IfOk-weaker}
use Rattle.refine_core.proofs.refinement.refine.Goals as goal

pub returns-clause-bisimilar : goal.returns-clause-bisimilar
returns-clause-bisimilar g c =
    let of = c.in_ok-blocks.ensures in
    let ids = c.block_ids.ensures.block_ids in
    IfOk-weaker c.renumber.result _ _ (λ p same s t ls lt. grind (arith, same s t, of.bisimilar s t, ids, of.states))
    c.renumber.ensures.same

pub returns-clause-few : goal.returns-clause-few
returns-clause-few g c =
    let of = c.in_ok-blocks.ensures in
    let ids = c.block_ids.ensures.block_ids in
    IfOk-weaker c.renumber.result _ _ (λ p same. record {
      last = of.few.last;
      past = of.few.past;
      rounds = of.few.rounds;
      same = λ s t ls lt. grind (arith, same s t, of.few.same s t, ids, of.states);
      few = of.few.few;
    }) c.renumber.ensures.same
