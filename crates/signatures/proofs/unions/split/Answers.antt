use Rattle.std.proofs.Common.{rules}
use Rattle.signatures.{specs.Lists.list_at, proofs.Cuts.all_under, proofs.Cuts.all_over}
use Rattle.signatures.proofs.Uniting.{halved_cut, IsParted-under, IsParted-over}
use Rattle.signatures.proofs.unions.split.Goals as goal

-- Suppose that `cut` is a multiple of 2^bit, and that the numbers for all pairs of the list (`pair_value`) have the
-- same bits as `cut` above the position `bit` (`IsAlike`). Suppose also that the split point of the list, which is the
-- number at which the list is divided into two halves, is less than `cut`. Then the numbers for all pairs of the list
-- are less than `cut`.
pub returns-then-halves-cut : goal.returns-then-halves-cut
returns-then-halves-cut c = λ lists stored is bit alike.
    let under = all_under (list_at lists c.args.k) bit _ _ alike (halved_cut is) c.if-halves-cut.true in
    search (rules, stored.first, IsParted-under)

-- Suppose that `cut` is a multiple of 2^bit, and that the numbers for all pairs of the list (`pair_value`) have the
-- same bits as `cut` above the position `bit` (`IsAlike`). Suppose also that the split point of the list, which is the
-- number at which the list is divided into two halves, is greater than `cut`. Then the numbers for all pairs of the
-- list are at least `cut`.
pub returns-then-cut-halves : goal.returns-then-cut-halves
returns-then-cut-halves c = λ lists stored is bit alike.
    let over = all_over (list_at lists c.args.k) bit _ _ alike (halved_cut is) c.if-cut-halves.true in
    search (rules, stored.first, IsParted-over)

pub returns : goal.returns
returns c = λ lists stored is bit alike. search rules
