use Rattle.std.proofs.{Common.rules, Common.ℕ, Common.arith, lemmas.Result.IfOk-weaker}
use Rattle.signatures.specs.{Lists.list_at, Lists.Grow, Unions.IsUnion}
use Rattle.signatures.proofs.Uniting.{AreUnited, AreUnited-parts, parted_grown, parts_fewer, halved_long, IsUnion-swap}
use Rattle.signatures.proofs.{Uniting.IsUnion-grown, Storing.Grow-twice}
use Rattle.signatures.proofs.unions.Bases.+both.Goals.{In_ok-above, In_ok-i}
use Rattle.signatures.proofs.unions.Bases.+both.Goals as goal

-- If the list with the ID `j` or the list with the ID `k` is stored as a range of pairs, the call of `with_list`
-- computes the union of the two lists.
pub returns-in_default-shape-clause-union : goal.returns-in_default-shape-clause-union
returns-in_default-shape-clause-union t c =
    IfOk-weaker c.with_list-in_default-shape.result _ _ (λ i. IsUnion-swap) c.with_list-in_default-shape.ensures.union

-- Suppose that the lists with the IDs `j` and `k` are both stored as two halves. Then the function divides each of
-- these two lists into two parts, and calls itself for the two lower parts and for the two upper parts. In each
-- recursive call, the two parts together have fewer pairs than the lists with the IDs `j` and `k` together.
pub both-requires : goal.both-requires
both-requires t c =
    let is = c.pieces_of_both-cut.ensures _ c.invariants.ensures.stored c.in-Halved.ensures c.in-Halved-shape.ensures in
    omega (arith, parts_fewer is.first.parted is.second.parted is.cut, is.first.first, is.second.first)

pub both-requires-2 : goal.both-requires-2
both-requires-2 t c =
    let is = c.pieces_of_both-cut.ensures _ c.invariants.ensures.stored c.in-Halved.ensures c.in-Halved-shape.ensures in
    let grow = c.both.ensures.grow in
    let less = parts_fewer (parted_grown grow grow is.first c.requires.first)
    (parted_grown grow grow is.second c.requires.second) is.cut in
    omega (arith, less, grow.longer, is.first.second, is.second.second)

-- The union of the lists with the IDs `j` and `k` is divided into two halves at a number. The lower part of each of the
-- two lists contains the pairs whose numbers (`pair_value`) are less than this number, and the upper part contains the
-- other pairs. The first half of the union is the union of the two lower parts, and the second half is the union of the
-- two upper parts.
united_in : (t : ℕ) (c : In_ok-above t) → AreUnited c.both-2.new.self.trie
    (record { below = c.in_ok-below.below; above = c.in_ok-above.above; cut = c.pieces_of_both-cut.result.cut })
    (list_at c.args.self.now.trie c.args.j) (list_at c.args.self.now.trie c.args.k)
united_in t c =
    let is = c.pieces_of_both-cut.ensures _ c.invariants.ensures.stored c.in-Halved.ensures c.in-Halved-shape.ensures in
    let grow = c.both.ensures.grow in
    let all = Grow-twice grow c.both-2.ensures.grow in
    let lower = c.in_ok-below.ensures.union in
    let upper = c.in_ok-above.ensures.union in
    AreUnited-parts
    (parted_grown grow all is.first c.requires.first) (parted_grown grow all is.second c.requires.second)
    c.both-2.ensures.grow lower.within lower.exactly upper.within upper.exactly
    (c.invariants.ensures.stored.ascending c.args.k _ c.requires.second) (halved_long c.in-Halved-shape.ensures) is.cut

pub intern-requires : goal.intern-requires
intern-requires t c = (united_in t ((goal.at.intern-requires t c).In_ok-above)).0

-- The list that is interned is the union of the lists with the IDs `j` and `k`. So the ID of this list can be stored in
-- the union cache, which is a hash table of unions that were computed before.
module _ (t : ℕ) (c : In_ok-i t) where
  grown : Grow c.args.self.now.trie c.intern.new.self
  grown = Grow-twice (Grow-twice c.both.ensures.grow c.both-2.ensures.grow) c.intern.ensures.grow

  union : IsUnion c.intern.new.self (c.args.j, c.args.k) c.in_ok-i.i
  union = IsUnion-grown grown c.requires.first c.requires.second c.in_ok-i.ensures.within
      (rw c.in_ok-i.ensures.list (united_in t ((goal.at.In_ok-i t c).In_ok-above)).1)

pub cache_union-requires : goal.cache_union-requires
cache_union-requires t c = union t ((goal.at.cache_union-requires t c).In_ok-i)

pub returns-in_err-cache_union-clause-grow : goal.returns-in_err-cache_union-clause-grow
returns-in_err-cache_union-clause-grow t c = search (rules, c.cache_union.ensures, grown, In_ok-i)

pub returns-clause-union : goal.returns-clause-union
returns-clause-union t c = rw c.cache_union.ensures (union t ((goal.at.returns-clause-union t c).In_ok-i))

pub returns-clause-grow : goal.returns-clause-grow
returns-clause-grow t c = rw c.cache_union.ensures (grown t ((goal.at.returns-clause-grow t c).In_ok-i))
