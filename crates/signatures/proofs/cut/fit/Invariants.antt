use Rattle.std.proofs.Common.{ℕ, ◌<◌, ◌^◌, get_or}
use Rattle.signatures.proofs.cut.fit.Given as goal

abbrev pub invariant-loop-second : goal.invariant-loop-second
invariant-loop-second l = (k : ℕ) → k < l.second-index → (get_or l.pairs k (0, 0)).1 < 2 ^ 32
