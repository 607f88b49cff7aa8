use Rattle.std.proofs.{Common.rules, lemmas.Slice.Eq.slice_eq-Decides}
use Rattle.signatures.proofs.hashes.are_same.Goals as goal

pub returns : goal.returns
returns c = search (rules, slice_eq-Decides, c.eq.ensures)
