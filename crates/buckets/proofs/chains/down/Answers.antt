use Rattle.std.proofs.Common.{◌∙◌, ◌<◌, length, arith}
use Rattle.buckets.proofs.Entries.{tag_is}
use Rattle.buckets.proofs.chains.down.Goals as goal

pub loop-r-preserved : goal.loop-r-preserved
loop-r-preserved c =
    let (heads, buckets, same) = c.loop-r.invariant.chain in
    let links = buckets.chained in
    let r = c.loop-r.r in
    let some : 0 < r = let test = c.loop-r-test.true in omega arith in
    let low : r < length c.args.entries.now = omega (arith, c.requires.within, c.loop-r.invariant.below) in
    record {
      chain = (heads, buckets, λ more. links.before_fit r some low more ∙ same some);
      below = omega (arith, links.before_below r some low, c.loop-r.invariant.below);
      above = λ q high within e. grind (arith, links.before_last q r, c.loop-r.invariant.above q, same, tag_is, e);
    }
