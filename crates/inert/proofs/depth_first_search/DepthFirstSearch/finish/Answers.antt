use Rattle.std.proofs.Common.{rules, ◌∙◌, sym, arith}
use Rattle.std.proofs.lemmas.Bool.{false≢true}
use Rattle.inert.proofs.{Invariant.goes_on, Resting.walk_rests, Resting.finished}
use Rattle.inert.proofs.depth_first_search.DepthFirstSearch.finish.Goals as goal

pub loop-self-preserved-then-branch : goal.loop-self-preserved-then-branch
loop-self-preserved-then-branch g c = let inv = c.loop-self.invariant in
    let read = c.in_ok-read.ensures in
    grind (arith, goes_on inv.on read.on, inv, read)

pub go_back-requires : goal.go_back-requires
go_back-requires g c = let read = c.in_ok-read.ensures in
    let (done, some, steps) = read.steps.1 (λ on. false≢true (sym c.if-branch.false ∙ on)) in
    record { walks = read.on.walks; some = some; read = done }

pub loop-self-preserved : goal.loop-self-preserved
loop-self-preserved g c = let inv = c.loop-self.invariant in
    let read = c.in_ok-read.ensures in
    let back = c.in_ok-go_back.ensures in
    let later = goes_on read.on (back.on _) in
    grind (arith, goes_on inv.on later, later.seen.unseen c.args.s, inv.found, read.steps, back.back)

pub returns : goal.returns
returns g c = let inv = c.loop-self.invariant in
    let empty = walk_rests inv.on.walks (search rules) in
    let done = finished (record { empty = empty; walks = inv.on.walks }) c.args.s inv.found in
    grind (arith, empty, done, inv)
