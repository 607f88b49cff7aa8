use Rattle.std.proofs.Common.{rules}
use Rattle.signatures.proofs.Cuts.{halves_same}
use Rattle.signatures.proofs.trie_lookup.is.Goals as goal

pub returns-in-Halved-Halved : goal.returns-in-Halved-Halved
returns-in-Halved-Halved c = search (rules, halves_same)
