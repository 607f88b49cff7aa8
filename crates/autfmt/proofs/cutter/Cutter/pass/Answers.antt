use Rattle.std.proofs.Common.{rules, ◌≡◌, ◌∷◌, ◌++◌, ap, arith, slice_range}
use Rattle.autfmt.specs.Cutter.{Cutting}
use Rattle.autfmt.proofs.Cutting.{passed}
use Rattle.autfmt.proofs.cutter.Cutter.pass.Goals as goal

pub returns-clause-passed : goal.returns-clause-passed
returns-clause-passed c line rest whole count =
    let i = c.self.inside in
    let handed = ap (λ (v : Cutting). v.line) c.self.view_is in
    let ahead : slice_range i.chunk i.from i.to ≡ line ++ 10 ∷ rest = search rules in
    rw handed (passed c.args.self.now.line i.chunk i.from i.to c.args.left i.over line rest c.self.invariant.ordered
    (omega (arith, c.self.invariant.within)) c.self.invariant.used_up ahead count)
