use Rattle.std.proofs.Common.{rules, ◌∙◌, ◌++◌, ◌↔◌, ◌<◌, length, All, take-append-drop, Contains}
use Rattle.std.proofs.lemmas.Result.{IfOk-weaker}
use Rattle.signatures.specs.{Lists.list_at, Extensions.extension_at, Extensions.HasBase}
use Rattle.signatures.proofs.{Storing.Grow-twice, Uniting.same_as}
use Rattle.signatures.proofs.ExtendedLists.{IsExtension-grow, one_of_both, joined_halves}
use Rattle.signatures.proofs.list_union.+base_of.Goals as goal

pub base_of-requires-2 : goal.base_of-requires-2
base_of-requires-2 t c = search (rules, IsExtension-grow)

pub returns-clause-exactly : goal.returns-clause-exactly
returns-clause-exactly t c = IfOk-weaker c.both.result _ _ (λ i is z.
    let extensions = c.args.extensions.now in
    let ids : All (λ k. k < length extensions) c.split_at.result.1.now = search rules in
    let same : HasBase c.base_of.new.bases.trie extensions c.split_at.result.1.now z
    ↔ HasBase c.args.bases.now.trie extensions c.split_at.result.1.now z =
    search (rules, c.base_of.ensures.grow, c.requires.extensions, ids) in
    let grow = c.both.ensures.grow in
    joined_halves (is.exactly z)
    (rw ((Grow-twice c.base_of-2.ensures.grow grow).same _ c.in_ok-j.ensures.within) (c.in_ok-j.ensures.exactly z))
    (same_as (rw (grow.same _ c.in_ok-k.ensures.within) (c.in_ok-k.ensures.exactly z)) same)
    (one_of_both (λ k. Contains (list_at c.args.bases.now.trie (extension_at extensions k).0) z)
    c.split_at.result.0.now c.split_at.result.1.now c.args.ids.now
    ((λ i. c.split_at.ensures.front i ++ c.split_at.ensures.back i) ∙ take-append-drop _ c.args.ids.now)))
    c.both.ensures.union
