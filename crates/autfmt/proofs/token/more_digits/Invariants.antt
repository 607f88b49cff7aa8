use Rattle.std.proofs.Common.{◌≡◌, ◌<◌, ◌^◌, length}
use Rattle.autfmt.specs.Reading.{more_digits}
use Rattle.autfmt.proofs.token.more_digits.Given as goal

abbrev pub invariant-loop-rest : goal.invariant-loop-rest
invariant-loop-rest l = record {
  small : l.value < 10 ^ 10;
  rest_of : more_digits l.value l.rest ≡ more_digits l.fn.value l.fn.line;
}

abbrev pub decreases-loop-rest : goal.decreases-loop-rest
decreases-loop-rest l = length l.rest
