use Rattle.quotient_core.proofs.triples.read_class.Goals as goal
use Rattle.std.proofs.Common.{◌∙◌, sym, arith, rules}
use Rattle.quotient_core.proofs.Showing.{read_few, read_all, read_over, fits, read_visits, read_next, read_enough}
use Rattle.quotient_core.proofs.Reaching.{room_after}

pub loop-k-preserved-then-not-is_reached : goal.loop-k-preserved-then-not-is_reached
loop-k-preserved-then-not-is_reached g c = read_over c.loop-k.invariant c.last_first.ensures.below
    c.last_first.ensures.turn (sym c.is_reached.ensures ∙ c.if-not-is_reached.true)

pub read_row-requires-clause-room : goal.read_row-requires-clause-room
read_row-requires-clause-room g c = room_after c.requires.room c.loop-k.invariant.visits (fits c.loop-k.invariant
    c.last_first.ensures.below c.last_first.ensures.turn (sym c.is_reached.ensures ∙ c.if-not-is_reached.false))

pub returns-in_err-read_row-clause-visits : goal.returns-in_err-read_row-clause-visits
returns-in_err-read_row-clause-visits g c = read_visits c.loop-k.invariant c.last_first.ensures.below
    c.last_first.ensures.turn (sym c.is_reached.ensures ∙ c.if-not-is_reached.false) c.read_row.ensures.visits

pub returns-then-branch-clause-visits : goal.returns-then-branch-clause-visits
returns-then-branch-clause-visits g c = read_visits c.loop-k.invariant c.last_first.ensures.below
    c.last_first.ensures.turn (sym c.is_reached.ensures ∙ c.if-not-is_reached.false) c.read_row.ensures.visits

pub returns-then-branch-clause-class : goal.returns-then-branch-clause-class
returns-then-branch-clause-class g c = read_enough c.loop-k.invariant c.last_first.ensures.below
    c.last_first.ensures.turn (sym c.is_reached.ensures ∙ c.if-not-is_reached.false) c.read_row.ensures.visits
    c.in_ok-read_row.ensures.class c.requires.whole (c.in_ok-read_row.ensures.whole.0 c.if-branch.true)

pub loop-k-preserved : goal.loop-k-preserved
loop-k-preserved g c = read_next c.loop-k.invariant c.last_first.ensures.below c.last_first.ensures.turn
    (sym c.is_reached.ensures ∙ c.if-not-is_reached.false) c.read_row.ensures.visits c.in_ok-read_row.ensures.class

pub returns-clause-class : goal.returns-clause-class
returns-clause-class g c = read_all c.loop-k.invariant (omega (arith, c.loop-k-test.false))

pub returns-clause-visits : goal.returns-clause-visits
returns-clause-visits g c = search (rules, c.loop-k.invariant.visits, read_few c.loop-k.invariant c.loop-k.k)
