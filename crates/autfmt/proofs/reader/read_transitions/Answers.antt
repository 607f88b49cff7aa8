use Rattle.std.proofs.Common.{rules, [], ◌∷◌, ◌++◌, length, ap, arith, append_assoc, append-nil}
use Rattle.std.proofs.lemmas.Bool.{both_ways}
use Rattle.std.proofs.KnownBytes.{Consumes-nil, Consumes-trans}
use Rattle.autfmt.proofs.{Holding.Holds-new, ReaderSteps.no_memory_behind, ReaderSteps.returns_error}
use Rattle.autfmt.proofs.ReaderSteps.{HeldSoFar-push}
use Rattle.autfmt.proofs.reader.read_transitions.Goals as goal

pub loop-found-init : goal.loop-found-init
loop-found-init g c = record {
  got = (
    [],
    Consumes-nil (g.R.Source.rest c.args.r.now),
    λ bounds given standing. (
      [],
      (
        rw (append-nil given) standing,
        Holds-new _ _ _ c.new-held.ensures.labels c.new-held.ensures.transitions,
      ),
    ),
  );
  len = ap length c.new-held.ensures.transitions;
  few = omega (arith, ap length c.new-held.ensures.labels);
  source = c.requires.source;
}

pub returns-in_err-read_transition-clause-transitions : goal.returns-in_err-read_transition-clause-transitions
returns-in_err-read_transition-clause-transitions g c =
    let (before, taken, so_far) = c.loop-found.invariant.got in
    let same = c.in_ok-read_usual.ensures.none (both_ways _ c.if-branch.false) in
    let (line, took, step) = rw (same.0, same.1) at c.in_err-read_transition.ensures.transition in (
      before ++ line,
      Consumes-trans _ _ _ before line taken took,
      λ bounds given standing.
          let (es, now) = so_far bounds given standing in
          returns_error _ _ _ c.from_residual-in_err-read_transition.ensures.1
          (rw (← append_assoc given before line) (step bounds (given ++ before) es now)),
    )

pub returns-in_err-read_usual-clause-transitions : goal.returns-in_err-read_usual-clause-transitions
returns-in_err-read_usual-clause-transitions g c =
    let (before, taken, so_far) = c.loop-found.invariant.got in
    let source = c.loop-found.invariant.source in (
      before,
      taken,
      λ bounds given standing.
          let now = (so_far bounds given standing).1.0 in
          returns_error _ _ _ c.from_residual.ensures.1
          (no_memory_behind now.lines c.loop-found.cutter now.cut now.good source.sound source.end),
    )

pub loop-found-preserved : goal.loop-found-preserved
loop-found-preserved g c =
    let (before, taken, so_far) = c.loop-found.invariant.got in
    let same = c.in_ok-read_usual.ensures.none (both_ways _ c.if-branch.false) in
    let (line, took, step) = rw (same.0, same.1) at c.in_ok-read_transition.ensures.transition in
    let next = HeldSoFar-push _ _ _ _ _ _ _ before line so_far step in
    record {
      got = (before ++ line, Consumes-trans _ _ _ before line taken took, next);
      len = search rules;
      few = c.in_ok-read_transition.ensures.few;
      source = c.in_ok-read_transition.ensures.source;
    }

pub loop-found-preserved-then-branch : goal.loop-found-preserved-then-branch
loop-found-preserved-then-branch g c =
    let (before, taken, so_far) = c.loop-found.invariant.got in
    let yes = c.if-branch.true in
    record {
      got = (
        before,
        taken,
        λ bounds given standing.
            let (es, now) = so_far bounds given standing in
            let (e, next) = c.in_ok-read_usual.ensures.taken yes bounds (given ++ before) es now in
            (es ++ e ∷ [], rw append-nil at next),
      );
      len = let e = c.in_ok-read_usual.ensures.len yes in let i = c.loop-found.invariant.len in omega arith;
      few = c.in_ok-read_usual.ensures.few;
      source = search rules;
    }
