-- These definitions relate the lines of an input that have been read so far to the transitions that the reader has
-- stored.
use Rattle.std.specs.Prelude.{ℕ, List, [], ◌∷◌, ◌++◌}
use Rattle.std.specs.List.{AllZip}
use Rattle.theory.specs.System.{Transition}
use Rattle.autfmt.specs.declared.judge.Promise.{Promise}
use Rattle.autfmt.specs.declared.held.Held.{Held}
use Rattle.autfmt.specs.Bounds.{Bounds}
use Rattle.autfmt.specs.Texts.{GoodHeader, SpellsAmong, Reads}
use Rattle.autfmt.specs.Cutter.{Cutting, HasCut}
use Rattle.autfmt.specs.Held.{Holds}

-- `ReadSoFar bounds given at p es` holds if both of the following conditions hold. First, the line splitter (`Cutter`)
-- in the state `at` has divided the bytes `given` into lines. Second, these lines are a correct header within the
-- limits `bounds`, followed by one line for each transition in the list es. The sources and targets of these
-- transitions must be states of the system, which are the numbers less than the number of states that the header
-- declares. The record p contains the numbers that the header declares.
pub record ReadSoFar (bounds : Bounds) (given : List ℕ) (at : Cutting) (p : Promise) (es : List Transition) :
    Type 0 where
  pub header : List ℕ
  pub lines : List (List ℕ)
  pub cut : HasCut given (header ∷ lines) at
  pub good : GoodHeader bounds header p.first p.transitions p.states
  pub spelled : AllZip (SpellsAmong p.states) lines es

-- `Place` is the state of a reader. This state consists of the state of the line splitter (`Cutting`) and of the
-- transitions that the reader has stored (`Held`).
abbrev pub Place : Type 0
Place = Cutting × Held

-- `HeldSoFar bounds H given p at es` holds if a reader in the state `at` has read a header and the transitions in the
-- list es from the bytes `given`, and has stored these transitions. In the stored transitions, the labels in the list H
-- are hidden. The record p contains the numbers that the header declares.
abbrev pub HeldSoFar : Bounds → List (List ℕ) → List ℕ → Promise → Place → List Transition → Type 0
HeldSoFar bounds H given p at es = ReadSoFar bounds given at.0 p es × Holds H p.states at.1 es

-- `ReadsOneMore H p got old now` states that a reader has read the next transition of the input from the bytes `got`
-- and has stored this transition. The record p contains the numbers that the header declares, and the labels in the
-- list H are hidden. The arguments `old` and `now` are the states of the reader before and after this step. For every
-- list of transitions that the reader may have stored in the state `old` (`HeldSoFar`), the reader must have stored the
-- same list and one further transition in the state `now`.
abbrev pub ReadsOneMore : List (List ℕ) → Promise → List ℕ → (old now : Place) → Type 0
ReadsOneMore H p got old now =
    (bounds : Bounds) (given : List ℕ) (es : List Transition) → HeldSoFar bounds H given p old es →
    (e : Transition) × HeldSoFar bounds H (given ++ got) p now (es ++ e ∷ [])

-- `HoldsText bounds H text p held` holds if the input `text` denotes a system within the limits `bounds`, and `held`
-- stores the transitions of this system. In `held`, the labels in the list H are hidden. The record p contains the
-- numbers that the header of the input declares.
abbrev pub HoldsText : Bounds → List (List ℕ) → List ℕ → Promise → Held → Type 0
HoldsText bounds H text p held =
    (es : List Transition) × Reads bounds text (record { first = p.first; states = p.states; transitions = es })
    × Holds H p.states held es
