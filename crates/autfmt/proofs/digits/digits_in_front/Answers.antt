use Rattle.std.proofs.Common.{◌+◌, ◌/◌, ◌≤◌, ◌∙◌, sym, length, take, drop, arith}
use lib.Count.{count_trailing_zeros}
use Rattle.core.proofs.dec2flt.Eight.{eight_at, lanes_are, first_other, shifted_is}
use Rattle.autfmt.proofs.digits.digits_in_front.Goals as goal

pub returns : goal.returns
returns c =
    let bytes = c.args.bytes.now in
    let room : 0 + 8 ≤ length bytes = omega arith in
    let xs = take 8 (drop 0 bytes) in
    let eight = eight_at bytes 0 (λ k. (c.type_inv.bytes k).fits) room in
    let is = c.word_in_front-lanes.ensures in
    let first = first_other xs _ eight is _ c.flags_from_ten-others.ensures (omega (arith, c.if-others-eq0.false)) in
    let n = count_trailing_zeros 64 c.flags_from_ten-others.result / 8 in
    let s = shifted_is xs n c.keep_first.result eight (omega arith) (omega arith) (c.keep_first.ensures
    ∙ rw (lanes_are xs _ eight is)) in
    record {
      room = omega arith;
      some = omega (arith, c.if-count-eq0.false);
      few = first.1;
      count = sym first.0;
      value = c.value_of_eight.ensures s.0 s.1 s.2 ∙ s.3;
    }
