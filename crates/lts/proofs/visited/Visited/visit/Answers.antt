use Rattle.std.proofs.Common.{◌≡◌, ℕ, ◌/◌, ◌<◌, length, slice_index_or, refl, arith}
use Rattle.std.proofs.lemmas.List.{get_or_read}
use Rattle.lts.proofs.{Visits.bits_same, Visits.bit_more, visited.Visited.visit.Given.Over}
use Rattle.lts.proofs.visited.Visited.visit.Goals.{then-word-len+in_ok-widen, else-word-len, After-push}
use Rattle.lts.proofs.visited.Visited.visit.Goals as goal

-- The bit set assigns one bit to each place (index of a transition). The function `visit` calls `widen` if the bit set
-- has too few words to contain the bit of the place k. Afterwards the bit set contains the bit of k, and the set of
-- visited places has not changed.
wide : (g : Over) (c : After-push g) → let now = c.if-word-len.self-inside in
    (now.places.items ≡ c.self.inside.places.items)
    × ((k : ℕ) → slice_index_or now.words.items k 0 ≡ slice_index_or c.self.inside.words.items k 0)
    × (c.args.k / 64 < length now.words.items)
wide g c = elim c.if-word-len.branch [
  | then-word-len+in_ok-widen w ↦ rw w.self-inside-is (refl, w.widen.ensures.same, w.in_ok-widen.ensures.wide)
  | else-word-len w ↦ rw w.self-inside-is (refl, λ k. refl, omega (arith, c.len.ensures, w.if-word-len.false))
]

pub invariant_of-self : goal.invariant_of-self
invariant_of-self g c = bits_same _ _ _ c.self.invariant c.widen.ensures.same

pub invariant_of-self-in_err-push : goal.invariant_of-self-in_err-push
invariant_of-self-in_err-push g c = let d = (goal.at.invariant_of-self-in_err-push g c).After-push in
    let (old, same, room) = wide g d in
    rw (c.in_err-push.ensures.items, old) (bits_same _ _ _ c.self.invariant same)

pub invariant_of-self-2 : goal.invariant_of-self-2
invariant_of-self-2 g c = let d = (goal.at.invariant_of-self-2 g c).After-push in
    let (old, same, room) = wide g d in
    let read = get_or_read d.if-word-len.self-inside.words.items (c.args.k / 64) _ room c.index_mut.ensures.value 0 in
    rw (c.in_ok-push.ensures.items, old) (bit_more _ _ _ c.args.k _ c.self.invariant same room read)
