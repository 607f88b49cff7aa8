-- This file is about bytes that are written to a sink (the object to which the output is written) through a buffer.
use Rattle.std.specs.Prelude.{◌≡◌, ℕ, List, ◌++◌, take, Option, Result, MatchResult}
use Rattle.std.specs.Io.KnownBytes.{Appends}
use Rattle.autfmt.specs.Stream.{AppendsPrefix}

-- `Progress old new waiting bytes` holds if a call has written a prefix of the list `bytes` to the sink (the object to
-- which the output is written), and the rest of `bytes` is the list `waiting`. The arguments `old` and `new` are the
-- bytes in the sink before and after the call, or `None` if these bytes are not known.
pub record Progress (old new : Option (List ℕ)) (waiting bytes : List ℕ) : Type 0 where
  pub front : List ℕ
  pub gained : Appends old new front
  pub whole : bytes ≡ front ++ waiting

-- `PutsThrough old new result buffer bytes` holds if `result` is a correct result of a call that sends the list `bytes`
-- through the buffer `buffer` to the sink (the object to which the output is written). The arguments `old` and `new`
-- are the bytes in the sink before and after the call, or `None` if these bytes are not known. If the call succeeded,
-- it has written a prefix of `bytes`, and the remaining bytes are at the beginning of the buffer. In this case, the
-- call returns the number of the remaining bytes. If the call failed, it has written a prefix of `bytes`.
abbrev pub PutsThrough : {E : Type 0} → Option (List ℕ) → Option (List ℕ) → Result ℕ E → List ℕ → List ℕ → Type 0
PutsThrough old new result buffer bytes =
    MatchResult result (λ n. Progress old new (take n buffer) bytes) (λ _. AppendsPrefix old new bytes)
