use Rattle.std.proofs.Common.{◌≡◌, ◌<◌, length, sym, ap, ◌∙◌, subst, arith, rules, All}
use Rattle.std.proofs.lemmas.Result.{err_from_is_err_and, MatchResult-weaker}
use Rattle.lts.specs.Lts.{before}
use Rattle.autfmt.proofs.{Ranks.row_ranks_below, Progress.nothing_put}
use Rattle.autfmt.proofs.Rows.{no_row, next_row, rows_begun, rows_put}
use Rattle.autfmt.proofs.writer.put_system.Goals as goal

pub loop-source-init : goal.loop-source-init
loop-source-init g c =
    let none = c.rows_follow.ensures.none c.args.s.now.places in
    record {
      rows = no_row (g.W.Sink.written c.args.w.now) none
          (rw (c.first.ensures, c.edges.ensures.value, c.states.ensures.value) at c.append_header-waiting.ensures.text);
      within = omega (arith, c.append_header-waiting.ensures.end, c.append_header-waiting.auto.buffer);
      sound = c.requires.sound;
      capacity = search rules;
      visits = search rules;
    }

pub put_row-requires-clause-ranks : goal.put_row-requires-clause-ranks
put_row-requires-clause-ranks g c =
    subst (All (λ p. p.0 < length c.args.words.now.entries.items)) (sym c.deref-transitions.ensures.value)
    (row_ranks_below c.invariants.ensures c.requires.words c.loop-source.source
    (rw c.deref.ensures.value at c.read_row.ensures.row))

pub returns-in_err-waiting-clause-text : goal.returns-in_err-waiting-clause-text
returns-in_err-waiting-clause-text g c =
    let row = next_row c.invariants.ensures c.requires.words c.loop-source.invariant.rows
    (rw c.deref.ensures.value at c.read_row.ensures.row) (nothing_put _ _) in
    let p = err_from_is_err_and c.from_residual.result c.from_residual.ensures.1 in
    rw p.1 (rows_begun c.invariants.ensures c.requires.words (g.W.Sink.written c.put_row.new.w) row
    (rw c.deref-transitions.ensures.value at c.in_err-waiting.ensures.lines))

pub loop-source-preserved : goal.loop-source-preserved
loop-source-preserved g c =
    let next = c.rows_follow.ensures.next c.loop-source.source c.args.s.now.places in
    record {
      rows =
          next_row c.invariants.ensures c.requires.words c.loop-source.invariant.rows
          (rw c.deref.ensures.value at c.read_row.ensures.row)
          (rw c.deref-transitions.ensures.value at c.in_ok-waiting.ensures.lines);
      within = c.in_ok-waiting.ensures.waiting;
      sound = c.in_ok-waiting.ensures.failures;
      capacity = c.read_row.ensures.capacity ∙ c.loop-source.invariant.capacity;
      visits = search rules;
    }

pub returns-clause-text : goal.returns-clause-text
returns-clause-text g c =
    let last : c.loop-source.source ≡ c.args.s.now.states = omega arith in
    let all =
    ap (λ n. before n c.args.s.now.places) last ∙ c.rows_follow.ensures.all c.args.s.now c.invariants.ensures in
    let rows = c.loop-source.invariant.rows in
    let new = g.W.Sink.written c.put_last.new.w in
    MatchResult-weaker c.put_last.result c.put_last.ensures.bytes
    (λ _. rows_put c.invariants.ensures c.requires.words new all rows)
    (λ _. rows_begun c.invariants.ensures c.requires.words new rows)
