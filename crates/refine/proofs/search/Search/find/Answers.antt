use Rattle.std.proofs.Common.{rules, ◌≡◌, [], arith}
use Rattle.refine.specs.Search.{Reaches}
use Rattle.refine_core.proofs.CallerLemmas.{none_marked}
use Rattle.refine.proofs.Searching.{begun}
use Rattle.refine.proofs.search.Search.find.Goals as goal

pub returns-in_err-reach-clause-marks : goal.returns-in_err-reach-clause-marks
returns-in_err-reach-clause-marks g c =
    let same : c.reach.new.self ≡ record { marked = c.args.self.now.marked; states = []; pairs = [] } = search rules in
    rw same (c.requires.clear.0, none_marked _ c.requires.clear.1)

pub loop-i-init : goal.loop-i-init
loop-i-init g c =
    let marked = c.args.self.now.marked in
    let size = c.requires.clear.0 in
    let reaches : Reaches c.args.s (record { marked = marked; states = []; pairs = [] }) c.reach.new.self =
    search rules in
    record {
      search = begun c.args.lens.now c.args.s marked c.reach.new.self c.invariants.ensures.laws
          (omega (arith, size, c.requires.state)) size c.requires.clear.1 reaches;
      rounds = search rules;
      visits = omega arith;
    }
