use Rattle.std.proofs.Common.{arith}
use Rattle.inert.specs.Search.{Unvisited}
use Rattle.std.proofs.lemmas.List.{get_or_past}
use Rattle.inert.proofs.Resting.{cached_at}
use Rattle.inert.proofs.signer.Signer.forget.Goals as goal

pub returns-clause-empty : goal.returns-clause-empty
returns-clause-empty c s = let stages = c.finish_all.new.self.stages in
    grind (arith, cached_at stages s, c.in_ok-finish_all.ensures.empty s Unvisited, get_or_past)
