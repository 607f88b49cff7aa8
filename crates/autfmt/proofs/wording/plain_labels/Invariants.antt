use Rattle.std.proofs.Common.{◌≡◌, map, take}
use Rattle.autfmt.specs.{Grammar.is_plain, Ranks.texts}
use Rattle.autfmt.proofs.wording.plain_labels.Given as goal

abbrev pub invariant-loop-text : goal.invariant-loop-text
invariant-loop-text l = l.plain.items ≡ map is_plain (texts (take l.text-index l.entries))
