use Rattle.std.proofs.Common.{rules}
use Rattle.signatures.proofs.ExtendedLists.{all_have, joined_all, joined_apart}
use Rattle.signatures.proofs.list_union.union_of.Goals as goal

pub returns-clause-extra : goal.returns-clause-extra
returns-clause-extra c = record {
  base = c.in_ok-base.ensures.within;
  ascending = c.in_ok-merge.ensures.ascending;
  apart = joined_apart _ _ c.args.extensions.now _ _ c.then_some-own.result _ _
      (search (rules, c.then_some-own.ensures))
      c.base_of.ensures.grow c.requires.extensions c.requires.ids c.remove_pairs_of.ensures.apart
      c.in_ok-merge.ensures.exactly;
}

pub returns-clause-exactly : goal.returns-clause-exactly
returns-clause-exactly c z =
    joined_all (c.in_ok-base.ensures.exactly z) (c.in_ok-gather.ensures z) (c.in_ok-order_many.ensures.same z)
    (c.remove_pairs_of.ensures.same z) (c.in_ok-merge.ensures.exactly z) (all_have c.args.bases.now.trie
    c.args.extensions.now c.args.ids.now c.requires.ids c.then_some-own.result z)
