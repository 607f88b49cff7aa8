use Rattle.std.proofs.Common.{subst, ℕ, rules, ◌≡◌, ◌∙◌, ◌≤◌, ◌++◌, length, ap, arith}
use Rattle.std.proofs.lemmas.Bool.Decides.{nat_tests}
use Rattle.quotient_core.specs.Triples.{HasShown, number_of, is_member, is_reached}
use Rattle.quotient_core.proofs.{triples.shown_transitions.Given.Over, triples.shown_transitions.Goals.After-edges}
use Rattle.quotient_core.proofs.Showing.{is_below, below_next, shown_with, shown_tidy, tidied_once, once_next, rows_fit}
use Rattle.quotient_core.proofs.Reaching.{visits_then, room_after, rows_few, rows_part}
use Rattle.quotient_core.proofs.triples.shown_transitions.Goals as goal

-- A quotient transition is a transition between quotient states. Suppose that the list of the quotient transitions of a
-- class is sorted, and that its repeated elements are then removed. Then the list still contains exactly the quotient
-- transitions of the class.
tidy : (g : Over) (c : After-edges g) →
    HasShown c.args.l.now c.args.numbering.now (is_member c.args.numbering.now c.loop-number.number)
    c.dedup.new.self.items
tidy g c = let short : length c.dedup.new.self.items ≤ length c.read_class.new.class.items = search rules in
    shown_tidy c.in_ok-read_class.ensures.class c.sort_unstable.ensures.permutation c.dedup.ensures.filtered short

pub read_class-requires-clause-room : goal.read_class-requires-clause-room
read_class-requires-clause-room g c = search (rules, room_after, rows_fit)

pub returns-in_err-read_class-clause-visits : goal.returns-in_err-read_class-clause-visits
returns-in_err-read_class-clause-visits g c = search (rules, visits_then, rows_fit)

pub returns-in_err-add_class-clause-visits : goal.returns-in_err-add_class-clause-visits
returns-in_err-add_class-clause-visits g c = search (rules, visits_then, rows_fit)

pub returns-clause-visits : goal.returns-clause-visits
returns-clause-visits g c = search (rules, c.loop-number.invariant.visits, rows_few)

pub add_class-requires : goal.add_class-requires
add_class-requires g c = let own = tidy g (goal.at.add_class-requires g c).After-edges in
    let fit = rows_fit c.args.l.now c.args.numbering.now c.loop-number.number in
    let few = c.loop-number.invariant.shown.few in
    record { room = omega (arith, c.deref.ensures.len, c.edges.ensures, own.few, few, fit) }

pub loop-number-preserved : goal.loop-number-preserved
loop-number-preserved g c = let own = tidy g (goal.at.loop-number-preserved g c).After-edges in
    let n = c.args.numbering.now in
    let i = c.loop-number.number in
    let up = c.loop-number.invariant in
    let put = c.in_ok-add_class.ensures ∙ ap (λ xs. c.loop-number.shown ++ xs) c.deref.ensures.value in
    let once = tidied_once _ _ c.dedup.ensures.filtered c.sort_unstable.ensures.sorted in
    record {
      shown = rw put (shown_with (below_next n i) up.shown own);
      once = rw put (once_next c.args.l.now n i _ _ up.shown own up.once once);
      visits = visits_then up.visits c.read_class.ensures.visits
          (omega (arith, rows_part _ _ _ (below_next n i) c.args.l.now.places));
    }

pub returns-clause-shown : goal.returns-clause-shown
returns-clause-shown g c = let n = c.args.numbering.now in
    let end : c.loop-number.number ≡ length n.classes.items =
    omega (arith, c.loop-number-test.false, c.loop-number.auto.number-end) in
    let all : (s : ℕ) → is_below n c.loop-number.number s ≡ is_reached n s =
    λ s. grind (arith, nat_tests, end, c.requires.numbered.class s (number_of n s)) in
    subst (λ p. HasShown c.args.l.now n p c.loop-number.shown) (λ i s. all s i) c.loop-number.invariant.shown
