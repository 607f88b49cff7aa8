use Rattle.std.proofs.Common.{arith, [], take, drop, sym, take-append-drop, append-nil}
use Rattle.std.proofs.lemmas.{Grind.common_steps, Bool.iff_false}
use Rattle.autfmt.proofs.Cutting.{feed_found, too_long}
use Rattle.autfmt.proofs.cutter.gather.Goals as goal

pub returns-then-extend-clause-got : goal.returns-then-extend-clause-got
returns-then-extend-clause-got g c =
    let i = c.loop-n.invariant in
    let n = c.in_ok-n.n in
    let at = c.in-Some.at in
    let buf = c.take.new.buf in
    feed_found _ _ _ c.args.buffer.now i.got.0 c.loop-n.buffer buf c.extend.new.self n at i.got.1 i.got.2 i.part
    c.in_ok-n.ensures.bytes.0 c.in_ok-n.ensures.bound.0 c.in-Some.ensures.within c.in-Some.ensures.line
    c.in-Some.ensures.feed (c.extend.ensures.fits.0 c.if-extend.true) c.if-extend.ensures.line

pub returns-in-Some-clause-got : goal.returns-in-Some-clause-got
returns-in-Some-clause-got g c =
    let i = c.loop-n.invariant in
    let n = c.in_ok-n.n in
    let at = c.in-Some.at in
    let bytes = take n c.take.new.buf in
    too_long _ _ _ c.args.buffer.now i.got.0 c.loop-n.buffer bytes (take at bytes) (drop at bytes)
    i.got.1 i.got.2 i.part c.in_ok-n.ensures.bytes.0 (sym (take-append-drop at bytes)) c.in-Some.ensures.line
    (iff_false c.extend.ensures.fits c.if-extend.false)

pub returns-then-not-extend-clause-got : goal.returns-then-not-extend-clause-got
returns-then-not-extend-clause-got g c =
    let i = c.loop-n.invariant in
    let bytes = take c.in_ok-n.n c.take.new.buf in
    too_long _ _ _ c.args.buffer.now i.got.0 c.loop-n.buffer bytes bytes [] i.got.1 i.got.2 i.part
    c.in_ok-n.ensures.bytes.0
    (sym (append-nil bytes)) c.in-None.ensures.none (iff_false c.extend-in-None.ensures.fits c.if-not-extend.true)

pub loop-n-preserved : goal.loop-n-preserved
loop-n-preserved g c = grind (arith, common_steps)
