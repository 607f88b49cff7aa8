use Rattle.std.proofs.Common.{[], arith}
use Rattle.std.proofs.lemmas.List.{get_or-map}
use Rattle.signatures.specs.Lists.{list_at}
use Rattle.refine.proofs.all_signatures.Signatures.fill.Goals as goal

pub returns-clause-signed : goal.returns-clause-signed
returns-clause-signed g c s h =
    let signed = c.in_ok-interned.ensures in
    rw (
      get_or-map (list_at _) c.in_ok-interned.signature_ids.items s 0 [] (omega (arith, h, signed.states)),
      c.in_ok-self-inside.ensures,
      ← c.in_ok-blocks.ensures.block_ids,
    ) (signed.signed s h)
