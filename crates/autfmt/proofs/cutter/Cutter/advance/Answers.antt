use Rattle.std.proofs.Common.{rules, ◌≡◌, ℕ, List, [], ◌++◌, sym, ◌∙◌, ap, subst, slice_range}
use Rattle.std.proofs.KnownBytes.{Consumes-nil}
use Rattle.autfmt.specs.Cutter.{Cutting, CutsLine}
use Rattle.autfmt.proofs.Cutting.{cut_at, line_in_piece}
use Rattle.autfmt.proofs.cutter.Cutter.advance.Goals as goal

pub returns-in-Some-clause-step : goal.returns-in-Some-clause-step
returns-in-Some-clause-step g c =
    let i = c.self.inside in
    let at = c.in-Some.at in
    let e : slice_range i.chunk i.from i.to ≡ c.args.self.now.ahead ++ [] = search rules in
    let cut =
    line_in_piece i.chunk i.from i.to at i.over c.if-self.false c.in-Some.ensures.within c.self.invariant.ordered
    c.self.invariant.within c.in-Some.ensures.line c.in-Some.ensures.feed in
    let over = ap (λ (v : Cutting). v.over) (sym c.self.view_is) ∙ c.if-self.false in
    let cuts = subst (λ (bytes : List ℕ). CutsLine bytes (cut_at i.chunk i.from i.to at i.over)) e cut in
    ([], Consumes-nil (g.R.Source.rest c.args.r.now), (over, cuts))
