use Rattle.std.proofs.Common.{rules, ℕ, ◌<◌, ◌^◌, ◌∙◌, List, [], ◌∷◌, length, take, arith, pow-suc, mod-eq_of_lt}
use Rattle.core.specs.Int.Digits.{AllBelowBase}
use Rattle.core.proofs.dec2flt.Eight.{eight_at}
use lib.Lanes.{number_l}
use Rattle.autfmt.proofs.digits.word_in_front.Goals as goal

number_below : (xs : List ℕ) → AllBelowBase 256 xs → number_l 256 xs < 256 ^ length xs
number_below [] h = omega arith
number_below (x ∷ xs) h = omega (arith, h.0, number_below xs h.1, pow-suc 256 (length xs))

pub returns : goal.returns
returns c =
    let bytes = c.args.bytes.now in
    let eight = eight_at bytes 0 (λ k. (c.type_inv.bytes k).fits) c.requires in
    let small : number_l 256 (take 8 bytes) < 256 ^ 8 = search rules in
    c.index.ensures ∙ mod-eq_of_lt small
