use Rattle.std.proofs.Common.{◌≡◌, rules, filter}
use Rattle.std.proofs.lemmas.{List.Kept.IsStrictlySortedBy-filter, Fn.filter_same}
use Rattle.signatures.proofs.Ascending.{has_pair, is_lacking}
use Rattle.signatures.{specs.Lists.list_at, proofs.ExtendedLists.lack_apart, proofs.ExtendedLists.lack_same}
use Rattle.signatures.proofs.list_union.remove_pairs_of.Goals.{After-retain}
use Rattle.signatures.proofs.list_union.remove_pairs_of.Goals as goal

left : (c : After-retain) → c.retain.new.self.items ≡ filter (is_lacking (list_at c.args.trie.now c.args.base))
    c.args.pairs.now.items
left c = filter_same _ (is_lacking (list_at c.args.trie.now c.args.base)) _ (λ x b f' k. search (rules, has_pair)) _ _
    c.retain.ensures.filtered

pub returns-clause-ascending : goal.returns-clause-ascending
returns-clause-ascending c = search (rules, left, c.requires.ascending, IsStrictlySortedBy-filter)

pub returns-clause-apart : goal.returns-clause-apart
returns-clause-apart c =
    lack_apart (list_at c.args.trie.now c.args.base) c.args.pairs.now.items c.retain.new.self.items
    (left ((goal.at.returns-clause-apart c).After-retain))

pub returns-clause-same : goal.returns-clause-same
returns-clause-same c = search (rules, lack_same, left)
