use Rattle.std.proofs.Common.{rules, ◌≡◌, ◌+◌, slice_index, arith}
use Rattle.std.proofs.lemmas.Result.{err_from_is_err_and}
use Rattle.lts.specs.Lts.{system_of}
use Rattle.quotient.proofs.Visits.{compared_keeps, rounds_keep}
use Rattle.quotient.proofs.comparison.equivalent.Goals as goal

pub returns-clause-verdict : goal.returns-clause-verdict
returns-clause-verdict g c = let A = system_of c.args.a.now in
    let B = system_of c.args.b.now in
    let decides = c.the_union_decides_equivalence.ensures in
    let law = decides.blocks c.args.r A B (system_of c.in_ok-both.both)
    (slice_index c.in_ok-blocks.blocks.block_ids) c.invariants.ensures.system c.invariants-2.ensures.system
    (decides.same (system_of c.in_ok-both.both) _ c.in_ok-both.ensures.system) c.in_ok-blocks.ensures.classes in
    let at : c.states.result + c.first-2.result ≡ A.states + B.first = search rules in
    rw (c.block_ids-block_ids.ensures.block_ids, c.first.ensures, at) (search (rules, law))

pub returns-in_err-blocks-clause-keeps : goal.returns-in_err-blocks-clause-keeps
returns-in_err-blocks-clause-keeps g c = let begun = c.in_err-blocks.ensures.err in
    let exit = err_from_is_err_and c.from_residual-in_err-blocks.result c.from_residual-in_err-blocks.ensures.1 in
    rw (exit.1) (compared_keeps c.args.a.now c.args.b.now c.in_ok-both.both c.in_ok-both.ensures.system _ _ _
    c.requires.fresh c.in_ok-both.ensures.visits begun.0 begun.1 0 0 begun.2 (omega arith))

pub returns-clause-keeps : goal.returns-clause-keeps
returns-clause-keeps g c =
    search (rules, c.in_ok-blocks.ensures.turns, rounds_keep, c.in_ok-both.ensures.system, c.in_ok-both.ensures.visits)
