use Rattle.std.proofs.Common.{eqb, ◌+◌, ◌≤◌, length, arith, w8}
use Rattle.std.proofs.lemmas.Simd.{length-chunk, bitmask_splat}
use lib.Lanes.{chunk}
use Rattle.autfmt.proofs.UsualLines.{byte_in_lanes}
use Rattle.autfmt.proofs.usual.mark_in.Goals as goal

pub returns-then-marks-ne0 : goal.returns-then-marks-ne0
returns-then-marks-ne0 c =
    let bytes = c.args.bytes.now in
    let i = c.loop-i.i in
    let room : i + 16 ≤ length bytes = omega arith in
    byte_in_lanes bytes i 34 _ room (bitmask_splat w8 eqb (chunk i 16 bytes) 16 34 (length-chunk i 16 bytes room)
    (omega arith)) (omega arith)
