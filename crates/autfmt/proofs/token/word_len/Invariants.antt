use Rattle.std.proofs.Common.{◌≡◌, ℕ, ◌<◌, true, get_or}
use Rattle.autfmt.specs.Reading.{is_word}
use Rattle.autfmt.proofs.token.word_len.Given as goal

abbrev pub invariant-loop-i : goal.invariant-loop-i
invariant-loop-i l = (k : ℕ) → k < l.i → is_word (get_or l.line k 0) ≡ true
