use Rattle.std.proofs.Common.{◌∙◌, ◌++◌, [], ap, arith}
use Rattle.std.proofs.lemmas.Result.{on_ok_weaker, on_err_weaker}
use Rattle.signatures.specs.Lists.{list_at, merged}
use Rattle.signatures.proofs.{Cuts.parts_both, Ascending.append_both, Uniting.halved_parted, Uniting.merged_halves}
use Rattle.signatures.proofs.trie.Trie.+append_with.Goals as goal

pub append_with-requires : goal.append_with-requires
append_with-requires t c =
    let both = (parts_both c.parted.ensures c.requires.ascending c.requires.fit).0 in
    (omega (arith, c.in-Halved.ensures.below), (omega (arith, c.in-Halved.ensures.below), both))

pub append_with-requires-in-Halved : goal.append_with-requires-in-Halved
append_with-requires-in-Halved t c =
    let both = (parts_both c.parted.ensures c.requires.ascending c.requires.fit).1 in
    (omega (arith, c.in-Halved.ensures.above), (omega (arith, c.in-Halved.ensures.above), both))

pub returns-in_ok-append_with-in-Halved-clause-appended : goal.returns-in_ok-append_with-in-Halved-clause-appended
returns-in_ok-append_with-in-Halved-clause-appended t c =
    let stored = c.invariants.ensures.stored in
    let both = merged_halves (halved_parted c.in-Halved.ensures) c.parted.ensures
    (stored.ascending c.args.k [] c.requires.list) c.requires.ascending (stored.fit c.args.k [] c.requires.list)
    c.requires.fit in
    on_ok_weaker c.append_with-in-Halved.result
    (λ e. append_both _ _ _ c.in_ok-append_with-in-Halved.ensures.appended e
    ∙ ap (λ l. c.args.out.now.items ++ l) both) c.append_with-in-Halved.ensures.appended

pub returns-in_ok-append_with-in-Halved-clause-err : goal.returns-in_ok-append_with-in-Halved-clause-err
returns-in_ok-append_with-in-Halved-clause-err t c =
    let first = merged (list_at c.args.self.now c.in-Halved.halves.below) c.parted.result.0.now in
    on_err_weaker c.append_with-in-Halved.result
    (λ h. (first ++ h.0, append_both c.args.out.now.items first h.0 c.in_ok-append_with-in-Halved.ensures.appended h.1))
    c.append_with-in-Halved.ensures.err
