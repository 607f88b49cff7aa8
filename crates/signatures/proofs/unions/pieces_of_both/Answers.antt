use Rattle.std.proofs.Common.{arith}
use Rattle.signatures.proofs.Uniting.{ends_halves, placed}
use Rattle.signatures.proofs.unions.pieces_of_both.Goals as goal

pub returns : goal.returns
returns c = λ lists stored first second.
    let (bit, at) = c.cut-cut.ensures in
    let place = placed at (ends_halves first) (ends_halves second) (omega (arith, c.min.ensures)) c.max.ensures in
    record {
      first = c.split-below.ensures lists stored first bit place.0;
      second = c.split-under.ensures lists stored second bit place.1;
      cut = place.2;
    }
