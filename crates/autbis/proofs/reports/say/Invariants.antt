use Rattle.std.proofs.Common.{◌≡◌, ℕ, List, length, ◌++◌}
use Rattle.std.specs.Io.KnownBytes.{Appends}
use Rattle.autbis.proofs.reports.say.Given as goal

abbrev pub invariant-loop-rest : goal.invariant-loop-rest
invariant-loop-rest g l =
    (front : List ℕ) × (l.fn.b ≡ front ++ l.rest) × Appends (g.E.Write.contents l.fn.e) (g.E.Write.contents l.e) front

abbrev pub decreases-loop-rest : goal.decreases-loop-rest
decreases-loop-rest g l = length l.rest
