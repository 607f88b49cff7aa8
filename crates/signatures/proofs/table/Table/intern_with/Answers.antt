use Rattle.std.proofs.{Common.arith, Common.◌∙◌, Common.refl, lemmas.Grind.common_steps, lemmas.Result.IfOk-weaker}
use Rattle.signatures.proofs.ExtendedLists.{Grow-lists, AreExtended-grow, TableGrows-from, whole_is}
use Rattle.signatures.{specs.Lists.list_at, proofs.Storing.Grow-same, proofs.Ascending.merged_nil}
use Rattle.signatures.proofs.table.Table.intern_with.Goals as goal

pub returns-in_err-base-clause-keeps : goal.returns-in_err-base-clause-keeps
returns-in_err-base-clause-keeps c =
    TableGrows-from c.with.ensures.grow _ _ refl refl c.requires.extensions (Grow-same _)

pub intern-requires-2-clause-extensions : goal.intern-requires-2-clause-extensions
intern-requires-2-clause-extensions c = AreExtended-grow c.with.ensures.grow _ _ c.requires.extensions

pub returns-clause-list : goal.returns-clause-list
returns-clause-list c =
    let base = c.in_ok-base.ensures in
    IfOk-weaker c.intern-2.result _ _ (λ k e. e ∙ merged_nil (list_at c.with.new.trie c.in_ok-base.base)
    ∙ whole_is _ _ (c.args.base, c.args.pairs.now) _ c.invariants.ensures.stored c.invariants-2.ensures.stored
    c.requires.list
    base.within base.exactly) c.intern-2.ensures.list

pub returns-clause-keeps : goal.returns-clause-keeps
returns-clause-keeps c = grind (arith, common_steps, Grow-lists)
