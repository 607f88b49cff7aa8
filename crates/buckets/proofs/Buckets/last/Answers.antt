use Rattle.std.proofs.Common.{◌≡◌, ◌∙◌, ◌<◌, length, ap, arith}
use Rattle.std.proofs.lemmas.List.{get_or_read}
use Rattle.buckets.{specs.Chains.bucket_of_tag, proofs.Entries.last_is}
use Rattle.buckets.proofs.Buckets.last.Goals as goal

pub returns : goal.returns
returns c =
    let heads = c.self.inside.heads.items in
    let size : c.len.result ≡ length heads = omega (arith, c.len.ensures, c.self.inside.heads.ok.0) in
    let low : c.bucket.result < length heads = omega (arith, c.bucket.ensures.below) in
    let at_b = c.bucket.ensures.value ∙ ap (λ n. bucket_of_tag n c.args.tag) size in
    let head = get_or_read heads _ _ low c.index-first.ensures 0 in
    rw (ap (λ x. x.tags) c.self.view_is) at
    (last_is c.self.invariant at_b low head (rw c.deref.ensures.value at c.down.ensures))
