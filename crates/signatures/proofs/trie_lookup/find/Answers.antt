use Rattle.std.proofs.{Common.rules, Common.arith, lemmas.Bool.both_ways}
use Rattle.signatures.{specs.Nodes.list_of_shape, proofs.Storing.IsReached-last, proofs.Storing.IsReached-before}
use Rattle.signatures.proofs.trie_lookup.find.Goals as goal

pub loop-r-init : goal.loop-r-init
loop-r-init c = search (rules, IsReached-last, c.requires.tags, c.requires.tag, c.last-r.ensures)

pub loop-r-preserved : goal.loop-r-preserved
loop-r-preserved c =
    let some = c.loop-r-test.true in
    IsReached-before c.args.nodes.now (list_of_shape c.args.nodes.now c.args.shape) c.requires.tags (omega arith)
    (λ e. both_ways c.is.result c.if-is.false (c.is.ensures.1 e)) c.loop-r.invariant c.before-r.ensures
