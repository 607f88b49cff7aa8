use Rattle.std.proofs.Common.{ℕ, arith, rules}
use Rattle.std.proofs.lemmas.Result.{IfOk-weaker}
use Rattle.refine_core.proofs.CallerLemmas.{equal_lists}
use Rattle.lts.specs.Meter.{Counts, Costs, CostsUpTo}
use Rattle.refine.proofs.one_round.round.Goals as goal

-- A meter counts rounds and visits (reads of transitions). Suppose that the meter counts one round, and after that at
-- least `least` and at most n visits, and no further round. Then the meter has counted one round and these visits, and
-- the number of visits is at most n times the number of rounds.
one_round : (old begun at : Counts) (least n : ℕ) → Costs old begun 1 0 0 → Costs begun at 0 least n
    → Costs old at 1 least n × CostsUpTo old at 1 n
one_round old begun at least n start read = (omega arith, (1, omega arith, omega arith))

pub returns-in_err-fill-clause-err : goal.returns-in_err-fill-clause-err
returns-in_err-fill-clause-err g c = search (rules, one_round _ _ _ _ _ c.start_round.ensures c.fill.ensures.visits)

pub returns-clause-split : goal.returns-clause-split
returns-clause-split g c =
    let l = c.args.l.now in
    let signed = c.in_ok-fill.ensures.signed in
    IfOk-weaker c.split.result _ _ (λ q parted s t ls lt.
    let same = equal_lists _ l c.invariants.ensures c.args.p.now s t _ _ (signed s ls) (signed t lt) in
    let both = parted s t (omega (arith, ls, c.requires.states)) (omega (arith, lt, c.requires.states)) in (
      λ e. let h = both.0 e in (h.0, same.0 h.1),
      λ h. both.1 (h.0, same.1 h.1),
    )) c.split.ensures.blocks

pub returns-clause-costs : goal.returns-clause-costs
returns-clause-costs g c = search (rules, one_round _ _ _ _ _ c.start_round.ensures c.in_ok-fill.ensures.visits)

pub returns-clause-err : goal.returns-clause-err
returns-clause-err g c = search (rules, one_round _ _ _ _ _ c.start_round.ensures c.fill.ensures.visits)
