use Rattle.std.proofs.Common.{length, refl, ◌≡◌, ◌∙◌, ◌+◌, ◌-◌, ◌++◌, ◌∷◌, [], take, arith, cond, not, map, ap, List}
use Rattle.std.proofs.Common.{rules, filter}
use Rattle.std.proofs.lemmas.{Bool.Decides.nat_tests, List.Elements.filter-append}
use Rattle.std.proofs.lemmas.List.{length-append, take_all, append-nil, append_assoc, map-append}
use Rattle.quotient_core.specs.Triples.{between_numbers, is_left_out, shown_by}
use Rattle.lts.specs.Lts.{Triple, row_of}
use Rattle.quotient_core.proofs.{triples.read_row.Given.Over, triples.read_row.Goals.After-leaves_out}
use Rattle.quotient_core.proofs.triples.read_row.Goals as goal

-- The place of a transition is its index in the list of all transitions. Let xs be the list of the quotient transitions
-- (transitions between quotient states) that come from the transitions of the state s at places less than k. Let ys be
-- the corresponding list for places less than k + 1. If the quotient leaves out the transition at the place k, then ys
-- equals xs. Otherwise, ys consists of xs and the quotient transition that comes from the transition at the place k.
more : (g : Over) (c : After-leaves_out g) → let n = c.args.numbering.now in
    let row = row_of c.args.s c.args.l.now.places in
    let shown = λ (es : List Triple).
    filter (λ x. not (is_left_out n.dropped x)) (map (between_numbers n c.args.s) es) in
    shown (take (c.loop-k.k + 1 - c.row-start.result.0) row) ≡ shown (take (c.loop-k.k - c.row-start.result.0) row)
    ++ cond (not c.leaves_out.result) ((c.number-number.result, c.edge-label.result.0, c.number.result) ∷ []) []
more g c = let l = c.args.l.now in
    let range = c.loop-k.auto.k in
    let inside = c.rows_follow.ensures.inside l.places c.args.s _ _ c.loop-k.k c.row-start.ensures (omega arith)
    (omega arith) in
    let out = c.leaves_out.ensures in
    let edge = c.edge-label.ensures in
    rw (inside, map-append, filter-append, out, c.number-number.ensures, c.number.ensures, edge.label, edge.target) refl

pub loop-k-preserved-then-leaves_out : goal.loop-k-preserved-then-leaves_out
loop-k-preserved-then-leaves_out g c = let range = c.loop-k.auto.k in
    let at = goal.at.loop-k-preserved-then-leaves_out g c in
    record {
      class = rw (more g (at.After-leaves_out), c.if-leaves_out.true, append-nil) c.loop-k.invariant.class;
      visits = search rules;
    }

pub loop-k-preserved : goal.loop-k-preserved
loop-k-preserved g c = let range = c.loop-k.auto.k in
    record {
      class = rw (more g (goal.at.loop-k-preserved g c).After-leaves_out, c.if-leaves_out.false, ← append_assoc)
          (c.in_ok-push.ensures.items ∙ ap (λ xs. xs ++ (c.number-number.result, c.edge-label.result.0, c.number.result)
          ∷ []) c.loop-k.invariant.class);
      visits = search rules;
    }

pub returns-clause-whole : goal.returns-clause-whole
returns-clause-whole g c = let shown = shown_by c.args.l.now c.args.numbering.now c.args.s in
    let whole = take_all (c.loop-k.k - c.row-start.result.0) (row_of c.args.s c.args.l.now.places)
    (omega (arith, c.row-start.ensures.count, c.loop-k-test.false)) in
    let made : length c.loop-k.class.items ≡ length c.args.class.now.items + length shown =
    rw whole at (ap length c.loop-k.invariant.class) ∙ length-append c.args.class.now.items shown in
    grind (arith, nat_tests)

pub returns-clause-class : goal.returns-clause-class
returns-clause-class g c =
    let whole = take_all (c.loop-k.k - c.row-start.result.0) (row_of c.args.s c.args.l.now.places)
    (omega (arith, c.row-start.ensures.count, c.loop-k-test.false)) in
    rw whole at c.loop-k.invariant.class
