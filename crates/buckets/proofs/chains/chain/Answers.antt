use Rattle.std.proofs.{Common.length-set, Common.rules, Math.Seq.map-set_same}
use Rattle.buckets.proofs.Entries.{IsChained-push}
use Rattle.buckets.proofs.chains.chain.Goals as goal

pub loop-r-preserved : goal.loop-r-preserved
loop-r-preserved c = search (rules, length-set, map-set_same, IsChained-push)
