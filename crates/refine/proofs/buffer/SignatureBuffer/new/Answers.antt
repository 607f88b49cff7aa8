use Rattle.std.proofs.Common.{◌≡◌, ◌<◌, [], ◌++◌, length, ap, arith}
use Rattle.std.proofs.lemmas.List.{take_more}
use Rattle.signatures.specs.Lists.{list_at}
use Rattle.refine.proofs.Listing.{Stores-push}
use Rattle.refine.proofs.buffer.SignatureBuffer.new.Goals as goal

pub loop-k-preserved : goal.loop-k-preserved
loop-k-preserved c =
    let pairs = c.loop-k.pairs.items in
    let lists = c.args.interned.now in
    let put = c.in_ok-append.ensures.appended in
    let low : c.loop-k.k < length lists = omega (arith, c.loop-k-test.true, c.len-k-end.ensures) in
    let start : c.len-start.result ≡ length pairs = omega (arith, c.len-start.ensures, c.loop-k.pairs.ok.0) in
    let end : c.len.result ≡ length (pairs ++ list_at lists c.loop-k.k) =
    omega (arith, c.len.ensures, c.append.new.pairs.ok.0, ap length put) in
    rw (put, c.in_ok-push.ensures.items, take_more lists c.loop-k.k [] low)
    (Stores-push _ c.loop-k.invariant start end)
