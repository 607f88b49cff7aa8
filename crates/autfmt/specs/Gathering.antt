-- The line splitter (`Cutter`) divides the bytes of an input into lines. The following definitions state which results
-- the functions of the line splitter may return. The results depend on the bytes that the functions take from the
-- source (the object from which the input is read).
use Rattle.std.specs.Prelude.{◌≡◌, ℕ, ◌+◌, ◌<◌, ◌≤◌, Bool, false, IsTrue, List, [], ◌∷◌, ◌++◌, length, Result}
use Rattle.std.specs.Prelude.{MatchResult}
use Rattle.std.specs.List.{slice_range}
use Rattle.autfmt.specs.declared.cutter.Step.{Step}
use Rattle.autfmt.specs.declared.cutter.Step.TheVariants.{Line, TooLong, End}
use Rattle.autfmt.specs.declared.cutter.Found.{Found}
use Rattle.autfmt.specs.declared.cutter.Found.TheVariants.{Feed, TooLong as Long, End as AtEnd}
use Rattle.autfmt.specs.Cutter.{Cutting, BeginsTooLong, CutsLine, CutsEnd, IsPart}

-- `FoundIn bytes found buffer chunk` holds if `found` is a correct result of the function `gather`, which reads chunks
-- of bytes until a line ends. The list `bytes` contains the bytes that were in the buffer before the call, followed by
-- the bytes that the call has read. The arguments `buffer` and `chunk` are the buffer and the chunk after the call. The
-- bytes that were read last are stored at the beginning of the chunk. If the result is `Feed at to`, the buffer
-- contains the first line of `bytes`, which is not too long, and the line feed after this line is at the index `at` of
-- the chunk. In this case, `to` is the number of bytes that were read last. If the result is `Long`, the first line of
-- `bytes` is too long. If the result is `AtEnd`, the buffer contains all bytes of the list `bytes`, which is the last
-- line of the input or is empty. In this case, the last line is not too long.
abbrev pub FoundIn : List ℕ → Found → List ℕ → List ℕ → Type 0
FoundIn bytes (Feed at to) buffer chunk =
    IsPart buffer × (at < to) × (to ≤ length chunk) × (bytes ≡ buffer ++ 10 ∷ slice_range chunk (at + 1) to)
FoundIn bytes Long buffer chunk = BeginsTooLong bytes
FoundIn bytes AtEnd buffer chunk = IsPart buffer × (bytes ≡ buffer)

-- `Gathers bytes result buffer chunk` holds if `result` is a correct result of a call of the function `gather`, which
-- reads chunks of bytes until a line ends. The list `bytes` contains the bytes that were in the buffer before the call,
-- followed by the bytes that the call has read. If the call succeeded, `FoundIn` must hold for the value that the call
-- returned. If the source (the object from which the input is read) has failed, `bytes` must be a part of one line.
abbrev pub Gathers : {E : Type 0} → List ℕ → Result Found E → List ℕ → List ℕ → Type 0
Gathers bytes result buffer chunk = MatchResult result (λ found. FoundIn bytes found buffer chunk) (λ _. IsPart bytes)

-- `Makes over bytes step now` holds if `step` is a correct result of splitting off the next line, and `now` is the
-- state of the line splitter after this. The list `bytes` contains the bytes that were not yet divided into lines
-- before the call, followed by the bytes that the call has read. The argument `over` is true if the source (the object
-- from which the input is read) had ended before the call. If the result is `Line`, the first line of `bytes` was split
-- off. If the result is `TooLong`, the first line of `bytes` is too long. If the result is `Line` or `TooLong`, the
-- source had not ended before the call. If the result is `End`, the list `bytes` is empty and the source has ended.
abbrev pub Makes : Bool → List ℕ → Step → Cutting → Type 0
Makes over bytes Line now = (over ≡ false) × CutsLine bytes now
Makes over bytes TooLong now = (over ≡ false) × BeginsTooLong bytes
Makes over bytes End now = CutsEnd bytes now

-- `Advances over bytes result now` holds if `result` is a correct result of a call of the function `advance`, which
-- splits off the next line. The argument `now` is the state of the line splitter after the call. The argument `over` is
-- true if the source (the object from which the input is read) had ended before the call. The list `bytes` contains the
-- bytes that were not yet divided into lines before the call, followed by the bytes that the call has read from the
-- input. If the call succeeded, `Makes` must hold for the value that the call returned. If the source has failed, the
-- source must not have ended before the call, and `bytes` must be a part of one line.
abbrev pub Advances : {E : Type 0} → Bool → List ℕ → Result Step E → Cutting → Type 0
Advances over bytes result now =
    MatchResult result (λ step. Makes over bytes step now) (λ _. (over ≡ false) × IsPart bytes)

-- `Peeks over bytes result now` holds if `result` is a correct result of a call of the function `is_at_end`, which
-- returns whether the input ends after the lines that were split off so far. The argument `now` is the state of the
-- line splitter after the call. The argument `over` is true if the source (the object from which the input is read) had
-- ended before the call. The list `bytes` contains the bytes that were not yet divided into lines before the call,
-- followed by the bytes that the call has read from the input. If the call succeeded, `bytes` must be the bytes that
-- are not yet divided into lines after the call (`now.ahead`). The result must then be true if and only if the input
-- has ended (`now.over`). If the result is true, `bytes` must be empty. If the result is false, the source must not
-- have ended before the call, and `bytes` must not be empty. If the source has failed, the source must not have ended
-- before the call, and `bytes` must be empty.
abbrev pub Peeks : {E : Type 0} → Bool → List ℕ → Result Bool E → Cutting → Type 0
Peeks over bytes result now =
    MatchResult result
    (λ at_end. (bytes ≡ now.ahead) × (now.over ≡ at_end) × (IsTrue at_end → bytes ≡ [])
    × ((at_end ≡ false) → (over ≡ false) × (1 ≤ length bytes)))
    (λ _. (over ≡ false) × (bytes ≡ []))
