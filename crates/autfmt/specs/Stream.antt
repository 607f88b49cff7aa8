-- This file defines the effects of calling a source (the object from which the input is read) or a sink (the object to
-- which the output is written). The effects are the number of times that the source or the sink has failed so far, and
-- the bytes that were added to the sink.
use Rattle.std.specs.Prelude.{◌≡◌, ℕ, List, ◌++◌, Option, Result, MatchResult}
use Rattle.std.specs.Io.KnownBytes.{Appends}

-- `CountsFailure result failures` is about a call that reads from a source, writes to a sink, or flushes a sink. The
-- source or sink must not have failed before the call, and `failures` is the number of times that it has failed until
-- the end of the call. `CountsFailure` holds if this number agrees with the result of the call: `failures` is 1 if the
-- call returned an error, and 0 if the call succeeded.
abbrev pub CountsFailure : {T E : Type 0} → Result T E → ℕ → Type 0
CountsFailure result failures = MatchResult result (λ _. failures ≡ 0) (λ _. failures ≡ 1)

-- `AppendsPrefix old new bs` holds if a prefix of the list bs was added to the bytes in the sink (the object to which
-- the output is written). The arguments `old` and `new` are the bytes in the sink before and after the call. If the
-- contract of the sink does not state which bytes the sink contains, `old` is `None`, and `new` can be any value.
abbrev pub AppendsPrefix : Option (List ℕ) → Option (List ℕ) → List ℕ → Type 0
AppendsPrefix old new bs = (front back : List ℕ) × (bs ≡ front ++ back) × Appends old new front

-- `PutsAll old new result bs` holds if `result` is a correct result of a call that writes the bytes bs to the sink (the
-- object to which the output is written). The arguments `old` and `new` are the bytes in the sink before and after the
-- call. If the call succeeded, it has added all bytes bs to the sink. If the call failed, it has added a prefix of
-- these bytes.
abbrev pub PutsAll : {T E : Type 0} → Option (List ℕ) → Option (List ℕ) → Result T E → List ℕ → Type 0
PutsAll old new result bs = MatchResult result (λ _. Appends old new bs) (λ _. AppendsPrefix old new bs)
