-- This file defines the text that is written for a system. The text is the content of a `.aut` file.
use Rattle.std.specs.Prelude.{◌≡◌, ℕ, List, ◌++◌, length, codes, decimal, if◌then◌else◌, Option, Result, Err}
use Rattle.std.specs.Prelude.{MatchResult}
use Rattle.std.specs.Io.KnownBytes.{Appends}
use Rattle.std.specs.List.{flat_map}
use Rattle.std.specs.List.Sorted.{IsPermutation, IsSorted}
use Rattle.std.specs.Ordering.{nat_cmp, ordering_then}
use Rattle.std.specs.declared.cmp.Ordering.{Ordering}
use Rattle.std.specs.Cmp.Lexicographic.{slice_cmp}
use Rattle.theory.specs.System.{System, Transition}
use Rattle.autfmt.specs.declared.fault.Fault.{Fault}
use Rattle.autfmt.specs.declared.fault.Fault.TheVariants.{Device}
use Rattle.autfmt.specs.Grammar.{is_plain, quoted}

-- `written_label a` is the written form of the label a. The label is written without quotation marks if the format
-- allows this (`is_plain`), and otherwise between quotation marks.
abbrev pub written_label : List ℕ → List ℕ
written_label a = if is_plain a then a else quoted a

-- `header_of first transitions states` is the header that declares the first state `first`, the number of transitions
-- `transitions` and the number of states `states`. The header ends with a line feed.
abbrev pub header_of : ℕ → ℕ → ℕ → List ℕ
header_of first transitions states =
    codes "des (" ++ decimal first ++ codes ", " ++ decimal transitions ++ codes ", " ++ decimal states ++ codes ")\n"

-- `written_transition e` is the line that is written for the transition e, with its line feed.
abbrev pub written_transition : Transition → List ℕ
written_transition e =
    codes "(" ++ decimal e.source ++ codes ", " ++ written_label e.label ++ codes ", "
    ++ decimal e.target ++ codes ")\n"

-- `transition_cmp d e` compares the transitions d and e by source, then by the bytes of the label, then by target.
abbrev pub transition_cmp : Transition → Transition → Ordering
transition_cmp d e =
    ordering_then (nat_cmp d.source e.source) (ordering_then (slice_cmp nat_cmp d.label e.label)
    (nat_cmp d.target e.target))

-- `listed A` is the header of the system A, followed by one line for each transition, in the order in which A lists its
-- transitions.
abbrev pub listed : System → List ℕ
listed A = header_of A.first (length A.transitions) A.states ++ flat_map written_transition A.transitions

-- `IsInWrittenOrder A B` holds if B is the system A with its transitions sorted as the writer sorts them: by source,
-- then by the bytes of the label, then by target.
pub record IsInWrittenOrder (A B : System) : Type 0 where
  pub first : B.first ≡ A.first
  pub states : B.states ≡ A.states
  pub same : IsPermutation B.transitions A.transitions
  pub sorted : IsSorted transition_cmp B.transitions

-- `Text A text` holds if the bytes `text` are the text that is written for the system A, with sorted transitions.
abbrev pub Text : System → List ℕ → Type 0
Text A text = (B : System) × IsInWrittenOrder A B × (text ≡ listed B)

-- `GainsText A old new` holds if the text that is written for the system A was added to the bytes in the sink (the
-- object to which the output is written). The arguments `old` and `new` are the bytes in the sink before and after the
-- call. If the contract of the sink does not state which bytes the sink contains, `old` is `None`, and `new` can be any
-- value.
abbrev pub GainsText : System → Option (List ℕ) → Option (List ℕ) → Type 0
GainsText A old new = (text : List ℕ) × Text A text × Appends old new text

-- `GainsPrefix A old new` holds if a prefix of the text that is written for the system A was added to the bytes in the
-- sink (the object to which the output is written). The arguments `old` and `new` are the bytes in the sink before and
-- after the call. If the contract of the sink does not state which bytes the sink contains, `old` is `None`, and `new`
-- can be any value.
abbrev pub GainsPrefix : System → Option (List ℕ) → Option (List ℕ) → Type 0
GainsPrefix A old new = (front back : List ℕ) × Text A (front ++ back) × Appends old new front

-- `WritesText A old new result` holds if `result` is a correct result of a call that writes the text of the system A to
-- the sink (the object to which the output is written). The arguments `old` and `new` are the bytes in the sink before
-- and after the call. If the call succeeded, it has written the whole text. If the call failed, it has written a prefix
-- of the text.
abbrev pub WritesText : {T E : Type 0} → System → Option (List ℕ) → Option (List ℕ) → Result T E → Type 0
WritesText A old new result = MatchResult result (λ _. GainsText A old new) (λ _. GainsPrefix A old new)

-- `failures_after result` is the number of times that a sink (the object to which the output is written) has failed
-- until the end of a call of `write` with this result: 1 if the result is the error `Device`, and 0 otherwise. The sink
-- must not have failed before the call.
abbrev pub failures_after : {T : Type 0} → Result T Fault → ℕ
failures_after (Err Device) = 1
failures_after _ = 0
