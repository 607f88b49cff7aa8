use Rattle.std.proofs.Common.{below_more, ◌≢◌, ◌∙◌, ℕ, ◌<◌, length, slice_index, arith, get_or-set_same}
use Rattle.std.proofs.Common.{get_or-set_other, length-set}
use Rattle.std.proofs.lemmas.{Bool.cases_eq, Grind.common_steps}
use Rattle.inert.specs.{Signed.IsIdIfChanged, Search.stage_at, Search.id_of}
use Rattle.inert.proofs.signer.write_split_ids.Goals as goal

pub loop-i-preserved : goal.loop-i-preserved
loop-i-preserved c = let active = c.args.active.now in let inv = c.loop-i.invariant in
    let rises = c.requires.active in
    let more : c.loop-i.i < length active = omega (arith, c.loop-i-test.true, c.loop-i.auto.i-end) in
    let s = slice_index active c.loop-i.i in let new = c.if-signature_ids-s.signature_ids in
    let shown : IsIdIfChanged (slice_index c.loop-i.signature_ids s) (id_of (stage_at c.args.search.now.stages s)) new =
    grind (arith, common_steps, c.if-signature_ids-s.branch, c.signature_id-id.ensures) in
    let old = λ (t : ℕ) (other : t ≢ s). get_or-set_other c.loop-i.signature_ids s t new 0 other in
    let low : s < length c.loop-i.signature_ids = omega (arith, inv.size, rises.below c.loop-i.i more) in
    let here = get_or-set_same c.loop-i.signature_ids s new 0 low in
    let up = rises.ascending in
    record {
      size = length-set c.loop-i.signature_ids s new ∙ inv.size;
      ahead = λ j h l. old (slice_index active j) (λ e. omega (arith, e, up c.loop-i.i j (omega arith) l))
          ∙ inv.ahead j (omega arith) l;
      have = below_more _ _ (λ j h. rw (old (slice_index active j) (λ e. omega (arith, e, up j c.loop-i.i h more)))
          (inv.have j h)) (rw (here, ← inv.ahead c.loop-i.i (omega arith) more) shown);
      none = λ t h. grind (arith, cases_eq t s, old t, inv.none t, more, length-set c.loop-i.signature_ids s new, h);
    }
