use Rattle.std.proofs.Common.{[], ◌∷◌, ◌++◌, length, false, Ok, inl, inr, ap, refl, arith}
use Rattle.std.proofs.lemmas.{List.length_push, List.Elements.All-nil}
use Rattle.std.proofs.KnownBytes.{Consumes-nil, Consumes-trans}
use Rattle.autfmt.proofs.{Cutting.more_lines, ReaderSteps.takes_more, ReaderSteps.returns_error}
use Rattle.autfmt.proofs.HideSteps.{hide_ends, hide_failed, hide_refused}
use Rattle.autfmt.proofs.hide_reader.read_labels.Goals as goal

pub loop-found-init : goal.loop-found-init
loop-found-init g c = record {
  got = ([], Consumes-nil (g.R.Source.rest c.args.r.now), [], grind arith, refl);
  few = let e = ap length c.none-hidden.ensures in omega arith;
  source = record { sound = c.requires; end = rw c.new-cutter.ensures (λ over. absurd cc) };
}

pub returns-in_err-some : goal.returns-in_err-some
returns-in_err-some g c =
    let (before, taken, H, so_far, count) = c.loop-found.invariant.got in
    let (line, took, step) = c.in_err-some.ensures.line in
    takes_more _ before line taken took (returns_error _ _ _ c.from_residual.ensures.1 (step before H so_far count))

pub returns-then-not-some : goal.returns-then-not-some
returns-then-not-some g c =
    let (before, taken, H, so_far, count) = c.loop-found.invariant.got in
    let (line, took, step) = rw c.if-not-some.true at c.in_ok-some.ensures.line in
    let end = c.in_ok-some.ensures.last (ap Ok c.if-not-some.true) in
    takes_more _ before line taken took
    (record { read = step before H so_far count; at_end = end; sound = c.in_ok-some.ensures.source.sound })

pub loop-found-preserved : goal.loop-found-preserved
loop-found-preserved g c =
    let (before, taken, H, so_far, count) = c.loop-found.invariant.got in
    let (line, took, step) = rw c.if-not-some.false at c.in_ok-some.ensures.line in
    let (a, next) = step before H so_far count in
    let long = length_push H a in
    record {
      got = (before ++ line, Consumes-trans _ _ _ before line taken took, H ++ a ∷ [], next, omega arith);
      few = c.in_ok-some.ensures.few;
      source = c.in_ok-some.ensures.source;
    }

pub returns-in_err-at_end : goal.returns-in_err-at_end
returns-in_err-at_end g c =
    let (before, taken, H, so_far, count) = c.loop-found.invariant.got in
    let (last, took, none) = c.in_err-at_end.ensures.look in
    takes_more _ before last taken took (returns_error _ _ _ c.from_residual-in_err-at_end.ensures.1
    (hide_failed last so_far _ _ (omega arith) (inr none.1) c.in_err-at_end.ensures.failures
    (none.0, rw none.1 (All-nil _, omega arith))))

pub returns-then-not-at_end : goal.returns-then-not-at_end
returns-then-not-at_end g c =
    let (before, taken, H, so_far, count) = c.loop-found.invariant.got in
    let (last, took, look) = rw c.if-not-at_end.true at c.in_ok-at_end.ensures.look in
    takes_more _ before last taken took
    (hide_refused last so_far _ count (omega arith) c.in_ok-at_end.ensures.failures (λ over. absurd cc) tt
    (more_lines before last so_far.lines c.loop-found.cutter so_far.cut false _ (look.3 refl)
    (λ line others. inl (inr (omega arith, refl)))))

pub returns : goal.returns
returns g c =
    let (before, taken, H, so_far, count) = c.loop-found.invariant.got in
    let (last, took, look) = rw c.if-not-at_end.false at c.in_ok-at_end.ensures.look in
    let end = c.is_at_end.ensures.end c.loop-found.invariant.source.end look.1 in
    let read = hide_ends last so_far (omega arith) (look.2 refl) in
    takes_more _ before last taken took
    (record { read = read; at_end = end; sound = c.in_ok-at_end.ensures.failures })
