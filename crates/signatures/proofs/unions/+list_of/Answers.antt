use Rattle.std.proofs.Common.{rules, ◌∙◌, ℕ, arith}
use Rattle.signatures.{specs.Cuts.IsCut, proofs.Cuts.IsCut-ends}
use Rattle.signatures.proofs.Cuts.{AreHalvesIn-parts, parts_both, parts_shorter, first_before_last, ends_pairs}
use Rattle.signatures.proofs.unions.+list_of.Goals.{After-parted}
use Rattle.signatures.proofs.unions.+list_of.Goals as goal

pub cut-cut-requires : goal.cut-cut-requires
cut-cut-requires t c =
    search (rules, first_before_last, c.requires.ascending, c.requires.fit, c.key.ensures, c.key-2.ensures)

-- The number that `cut` returns is the split point of the list `pairs`, which is the number at which this list is
-- divided into two halves.
at_cut : (t : ℕ) (c : After-parted t) → IsCut c.args.pairs.now c.cut-cut.result
at_cut t c =
    IsCut-ends (ends_pairs _ c.requires.ascending c.requires.fit (omega arith) c.key.ensures c.key-2.ensures)
    c.cut-cut.ensures.1

pub list_of-requires : goal.list_of-requires
list_of-requires t c =
    let shorter = parts_shorter c.parted.ensures (at_cut t ((goal.at.list_of-requires t c).After-parted)) in
    (omega (arith, shorter), (parts_both c.parted.ensures c.requires.ascending c.requires.fit).0)

pub list_of-requires-2 : goal.list_of-requires-2
list_of-requires-2 t c =
    let shorter = parts_shorter c.parted.ensures (at_cut t ((goal.at.list_of-requires-2 t c).After-parted)) in
    (omega (arith, shorter), (parts_both c.parted.ensures c.requires.ascending c.requires.fit).1)

pub intern-requires-2 : goal.intern-requires-2
intern-requires-2 t c =
    let grow = c.list_of-2.ensures.grow in
    let low = c.in_ok-below.ensures.within in
    AreHalvesIn-parts (omega (arith, grow.longer)) c.in_ok-above.ensures.within
    (rw (grow.same _ low ∙ c.in_ok-below.ensures.list, c.in_ok-above.ensures.list) c.parted.ensures)
    (at_cut t ((goal.at.intern-requires-2 t c).After-parted)) (omega (arith, c.if-pairs-le-MOST_WHOLE.false))
