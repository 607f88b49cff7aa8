use Rattle.std.proofs.Common.{◌≡◌, ◌++◌, take}
use Rattle.quotient_core.proofs.triples.add_class.Given as goal

abbrev pub invariant-loop-source : goal.invariant-loop-source
invariant-loop-source l = l.shown ≡ l.initial.shown ++ take l.source-index l.class
