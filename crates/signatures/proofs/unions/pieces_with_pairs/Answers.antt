use Rattle.signatures.proofs.{Cuts.ends_pairs, Uniting.ends_halves, Uniting.placed}
use Rattle.signatures.proofs.unions.pieces_with_pairs.Goals as goal

pub returns : goal.returns
returns c = λ lists stored is.
    let ends = ends_pairs _ c.requires.ascending c.requires.fit c.requires.some c.key.ensures c.key-2.ensures in
    let place = placed c.cut-cut.ensures.1 ends (ends_halves is) c.min-low.ensures c.max-high.ensures in
    record {
      list = c.split-below.ensures lists stored is c.cut-cut.ensures.0 place.1;
      pairs = c.parted.ensures;
      cut = place.2;
    }
