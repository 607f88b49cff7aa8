use Rattle.std.proofs.Common.{rules, ℕ, List, map, get_or, take, arith}
use Rattle.std.proofs.lemmas.{Result.err_from_is_err_and, List.length-map, List.get_or-map}
use Rattle.theory.specs.System.{Transition}
use Rattle.autfmt.specs.LabelTexts.{from_pair}
use Rattle.autfmt.proofs.Progress.{line_waits, row_begun}
use Rattle.autfmt.proofs.writer.put_row.Goals as goal

pub returns-in_err-start-clause-lines : goal.returns-in_err-start-clause-lines
returns-in_err-start-clause-lines g c =
    let p = err_from_is_err_and c.from_residual.result c.from_residual.ensures.1 in
    rw p.1 (row_begun _ _ _ _ c.loop-rank.invariant.progress c.in_err-start.ensures.bytes)

pub loop-rank-preserved : goal.loop-rank-preserved
loop-rank-preserved g c =
    let (i, pairs) : ℕ × List (ℕ × ℕ) = (c.loop-rank.rank-index, c.args.row.transitions.now) in
    let from = from_pair c.args.words.now.entries.items c.args.row.source in
    let row = map from pairs in
    let e : Transition = from (get_or pairs i (0, 0)) in
    record {
      progress =
          line_waits row (take c.args.waiting c.args.buffer.now) i e (omega (arith, length-map pairs from))
          (get_or-map from pairs i (0, 0) e (omega arith)) c.loop-rank.invariant.progress c.in_ok-start.ensures.bytes
          (rw (c.new-front.ensures, c.word.ensures.text) at c.append_transition-end.ensures.text);
      within = search rules;
      sound = c.in_ok-start.ensures.failures;
    }
