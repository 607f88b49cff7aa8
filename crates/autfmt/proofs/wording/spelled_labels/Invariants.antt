use Rattle.std.proofs.Common.{◌≡◌, length}
use Rattle.autfmt.specs.{Fronts.AreSpelled, Ranks.texts}
use Rattle.autfmt.proofs.wording.spelled_labels.Given as goal

abbrev pub invariant-loop-text : goal.invariant-loop-text
invariant-loop-text l = record {
  as_many : length l.spellings.items ≡ l.text-index;
  spelled : AreSpelled (texts l.entries) l.spellings.items;
}
