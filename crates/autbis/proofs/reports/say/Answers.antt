use Rattle.std.proofs.Common.{◌++◌, take}
use Rattle.std.proofs.KnownBytes.{Appends-trans}
use Rattle.autfmt.proofs.CallerLemmas.{front_more}
use Rattle.autbis.proofs.reports.say.Goals as goal

pub loop-rest-preserved : goal.loop-rest-preserved
loop-rest-preserved g c =
    let (front, is, put) = c.loop-rest.invariant in
    let rest = c.loop-rest.rest.now in
    let n = c.in-Ok.n in
    (front ++ take n rest, front_more front rest _ n is, Appends-trans _ _ _ _ _ put c.in-Ok.ensures.bytes)
