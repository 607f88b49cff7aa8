use Rattle.std.proofs.Common.{◌∙◌, ◌/◌, ◌<◌, length, get_or, arith, length-set, get_or-set_same, get_or-set_other}
use Rattle.std.proofs.lemmas.{Bool.cases_eq, List.get_or_default, Nat.Bits.bit_at-zero}
use Rattle.lts.proofs.Visits.{sets_none, place_within}
use Rattle.lts.proofs.visited.clear_bits.Goals as goal

pub bounds-words-places : goal.bounds-words-places
bounds-words-places c = let here : c.loop-i.i < length c.args.places.now = omega (arith, c.loop-i-test.true) in
    omega (arith, c.loop-i.invariant.size, place_within c.args.places.now c.args.words.now c.requires c.loop-i.i 0 here)

pub loop-i-preserved : goal.loop-i-preserved
loop-i-preserved c = let places = c.args.places.now in let is = c.loop-i.invariant in
    let here : c.loop-i.i < length places = omega (arith, c.loop-i-test.true) in
    let room : get_or places c.loop-i.i 0 / 64 < length c.loop-i.words =
    omega (arith, is.size, place_within places c.args.words.now c.requires c.loop-i.i 0 here) in record {
      size = length-set c.loop-i.words _ _ ∙ is.size;
      old = λ k one. is.old k (sets_none c.loop-i.words _ k room one);
      zero = λ j h. grind (arith, cases_eq j c.loop-i.i, is.zero j, room, get_or-set_same, get_or-set_other);
    }

pub returns : goal.returns
returns c k = (
  λ one.
      let (j, low, is) = c.loop-i.invariant.old k one in
      let zero = c.loop-i.invariant.zero j (omega (arith, low, c.loop-i-test.false)) in
      absurd (grind (arith, zero, one, is, get_or_default c.args.places.now j 0 k low, bit_at-zero)),
  λ h. absurd (omega (arith, h.1)),
)
