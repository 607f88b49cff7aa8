use Rattle.std.proofs.Common.{rules, ◌≡◌, ◌∙◌, ◌++◌, ◌∷◌, [], ap, refl}
use Rattle.signatures.specs.{Hashed.mixed, Extensions.parts_of, Extensions.AreExtended}
use Rattle.signatures.proofs.Storing.{Grow-same, Grow-push}
use Rattle.signatures.proofs.ExtendedLists.{TableGrows-from, lists-grow, AreExtended-push, extended_some}
use Rattle.std.proofs.lemmas.List.{map-append}
use Rattle.signatures.proofs.table.Table.intern.Goals.{In_ok-id-2}
use Rattle.signatures.proofs.table.Table.intern.Goals as goal

pub returns-in_err-id-clause-keeps : goal.returns-in_err-id-clause-keeps
returns-in_err-id-clause-keeps c =
    TableGrows-from c.find.ensures.grow _ _ refl refl c.requires.extensions (Grow-same _)

pub returns-in-Some-clause-keeps : goal.returns-in-Some-clause-keeps
returns-in-Some-clause-keeps c = TableGrows-from c.find.ensures.grow _ _ refl refl c.requires.extensions (Grow-same _)

pub returns-in_err-id-2-clause-keeps : goal.returns-in_err-id-2-clause-keeps
returns-in_err-id-2-clause-keeps c =
    let same = c.in_err-id-2.ensures.err in
    TableGrows-from c.find.ensures.grow _ _ same.0 same.1 c.requires.extensions (Grow-same _)

pub returns-in-Some-clause-list : goal.returns-in-Some-clause-list
returns-in-Some-clause-list c =
    let found = rw c.in-Some.is at c.in_ok-id.ensures.found in
    rw (lists-grow c.find.ensures.grow _ c.requires.extensions.each) found.2

-- A list is stored in two parts: its base, which is a list of pairs that several lists can share, and its extra pairs,
-- which are all other pairs of the list. If the given list has the empty list as its base, and has no extra pairs, the
-- function returns at once. So after this test, the base of the given list is not the empty list, or the given list has
-- extra pairs.
not_both : (c : In_ok-id-2) → c.args.list.base ≡ 0 → c.args.list.extra.now ≡ [] → ⊥
not_both c = search rules

-- Suppose that the search finds no stored list that is equal to the given list. If the given list is then appended, all
-- lists of the table are stored correctly, and no two of them are equal (`AreExtended`).
more : (c : In_ok-id-2) → AreExtended c.args.bases.now.trie
    (c.args.self.now.extensions ++ parts_of c.args.list ∷ []) (c.args.self.now.buckets.tags ++ c.mix-tag.result ∷ [])
more c =
    let known = c.invariants.ensures in
    AreExtended-push c.requires.extensions (parts_of c.args.list) c.mix-tag.result c.requires.list
    known.stored.first
    (extended_some _ _ known.stored known.different c.requires.list (not_both c))
    (rw c.in_default.is at c.in_ok-id.ensures.found) (c.mix-tag.ensures ∙ ap mixed c.sum_of.ensures)

pub returns-clause-keeps : goal.returns-clause-keeps
returns-clause-keeps c =
    let is = c.in_ok-id-2.ensures in
    TableGrows-from c.find.ensures.grow _ _ is.extensions is.tags (more ((goal.at.returns-clause-keeps c).In_ok-id-2))
    (rw map-append (Grow-push _ _))
