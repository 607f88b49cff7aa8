use Rattle.std.proofs.Common.{rules, [], ◌∷◌, IsTrue, refl, ◌∙◌, append-nil}
use Rattle.theory.specs.System.{Transition, IsAmong}
use Rattle.autfmt.proofs.{Holding.Holds-add, Cutting.Divides-line, Lines.TransitionLine-one}
use Rattle.autfmt.proofs.ReaderSteps.{transition_good}
use Rattle.autfmt.proofs.reader.read_usual.Goals as goal

pub returns-clause-taken : goal.returns-clause-taken
returns-clause-taken c =
    let yes : IsTrue c.in_ok-is_added.is_added = c.if-not-is_added.false in
    let label = c.in_ok-is_added.ensures.label.0 yes in
    let front = rw c.ahead.ensures at c.in-Some.ensures label in
    let e : Transition = record { source = c.in-Some.source; label = c.in-Some.label.now; target = c.in-Some.target } in
    let among : IsAmong c.args.promise.states e = search rules in
    let one = TransitionLine-one front.line _ _ _ front.spelled in
    λ _ bounds given es standing.
    let divides =
    Divides-line given [] (standing.0.header ∷ standing.0.lines) c.args.cutter.now standing.0.cut front.line _
    c.pass.ensures.open one (append-nil _ ∙ front.whole) in
    let so_far = transition_good [] standing.0 front.line _ e
    (λ more end. divides more) front.short front.spelled among in
    let added = c.in_ok-is_added.ensures.added standing.1.shown yes in
    let passed = c.pass.ensures.passed front.line _ front.whole refl in
    (e, (rw passed so_far, Holds-add es e standing.1 among added))
