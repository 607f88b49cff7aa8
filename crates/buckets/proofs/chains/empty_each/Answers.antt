use Rattle.std.proofs.{Common.◌∙◌, Common.get_or, Common.ap, Common.arith, lemmas.Bool.cases_lt}
use Rattle.buckets.{specs.Chains.bucket_of_tag, specs.Chains.entry_at, proofs.Entries.Emptied-more}
use Rattle.buckets.proofs.chains.empty_each.Goals as goal

pub loop-entry-preserved : goal.loop-entry-preserved
loop-entry-preserved c =
    Emptied-more c.args.heads.now c.args.entries.now c.loop-entry.entry-index c.loop-entry.heads c.requires
    c.loop-entry.invariant c.bucket-b.result (omega (arith, c.bucket-b.ensures.below, c.loop-entry.auto.heads))
    (c.bucket-b.ensures.value ∙ ap (λ n. bucket_of_tag n (entry_at c.args.entries.now c.loop-entry.entry-index).tag)
    c.loop-entry.auto.heads)

pub returns : goal.returns
returns c b h =
    let now = c.loop-entry.invariant in
    let below = c.requires.chained.heads_below b in
    grind (arith, cases_lt 0 (get_or c.loop-entry.heads b 0), now.left b, below, c.loop-entry.auto.heads)
