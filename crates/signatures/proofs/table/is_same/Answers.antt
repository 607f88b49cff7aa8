use Rattle.std.proofs.Common.{◌∙◌, ◌<◌, length, ap, sym, eq-eqb, eqb-true, arith}
use Rattle.signatures.specs.{Lists.list_at, Extensions.parts_of}
use Rattle.signatures.proofs.ExtendedLists.{same_base, whole_is}
use Rattle.signatures.proofs.table.is_same.Goals as goal

pub returns-then-one-other-clause-same : goal.returns-then-one-other-clause-same
returns-then-one-other-clause-same c =
    let same = same_base c.args.bases.now.trie (parts_of c.args.one) (parts_of c.args.other) c.requires.one
    c.requires.other c.if-one-other.true in
    (λ t. same.0 (c.are_same.ensures.0 t), λ e. c.are_same.ensures.1 (same.1 e))

pub returns-clause-same : goal.returns-clause-same
returns-clause-same c =
    let first = c.in_ok-first.ensures in
    let second = c.in_ok-second.ensures in
    let old = c.invariants.ensures.stored in
    let new = c.invariants-2.ensures.stored in
    let grow = c.with-2.ensures.grow in
    let within : c.in_ok-first.first < length c.with-2.new.trie = omega (arith, first.within, grow.longer) in
    let one = whole_is _ _ (parts_of c.args.one) c.in_ok-first.first old new c.requires.one within
    (rw (grow.same _ first.within) first.exactly) in
    let two = whole_is _ _ (parts_of c.args.other) c.in_ok-second.second old new c.requires.other second.within
    (rw (← c.with.ensures.grow.same _ c.requires.other.base) second.exactly) in (
      λ t. sym one ∙ ap (list_at c.with-2.new.trie) (eqb-true _ _ t) ∙ two,
      λ e. eq-eqb _ _ (c.invariants-2.ensures.different _ _ within second.within (one ∙ e ∙ sym two)),
    )
