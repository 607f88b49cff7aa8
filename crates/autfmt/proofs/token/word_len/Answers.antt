use Rattle.std.proofs.Common.{rules, sym, arith, length}
use Rattle.std.proofs.lemmas.List.Sums.{prefix_len_is}
use Rattle.autfmt.specs.Reading.{is_word}
use Rattle.autfmt.proofs.token.word_len.Goals as goal

pub returns-then-not-is_word-clause-value : goal.returns-then-not-is_word-clause-value
returns-then-not-is_word-clause-value c = search (rules, prefix_len_is, c.loop-i.invariant, c.is_word.ensures)

pub returns-clause-value : goal.returns-clause-value
returns-clause-value c =
    sym (prefix_len_is is_word c.args.line.now (length c.args.line.now) 0 (omega arith)
    (λ k h. c.loop-i.invariant k (omega arith)) (λ h. absurd (omega arith)))
