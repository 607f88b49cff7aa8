use Rattle.std.proofs.Common.{◌≡◌, ◌∙◌, sym, arith, rules, take_all}
use Rattle.std.proofs.lemmas.{Grind.common_steps, List.get_or_default}
use Rattle.inert.specs.Search.{item_at}
use Rattle.inert.proofs.Signatures.{taken_pair, taken_list}
use Rattle.inert.proofs.component.collect.Goals.{in-Pair, in-Interned}
use Rattle.inert.proofs.component.collect.Goals as goal

pub loop-item-init : goal.loop-item-init
loop-item-init c = grind (arith, common_steps)

pub loop-item-preserved : goal.loop-item-preserved
loop-item-preserved c =
    let items = c.args.items.now in
    let inv = c.loop-item.invariant in
    let at : item_at items c.loop-item.item-index ≡ c.item.result =
    get_or_default items _ _ _ (omega (arith, c.loop-item-test.true)) ∙ sym c.item-item.is ∙ sym c.item.ensures in
    elim c.match-item.branch [
      | in-Pair w ↦
          let taken = taken_pair items _ _ _ c.loop-item-test.true inv.collected (at ∙ w.in-Pair.is) in
          rw (w.signature_ids-is, w.pairs-is) (grind (arith, taken, inv, w.push_reserved.ensures))
      | in-Interned w ↦
          let taken = taken_list items _ _ _ c.loop-item-test.true inv.collected (at ∙ w.in-Interned.is) in
          rw (w.signature_ids-is, w.pairs-is) (grind (arith, taken, inv, w.push_reserved-in-Interned.ensures))
    ]

pub returns : goal.returns
returns c = search (rules, take_all, c.loop-item.invariant.collected)
