-- The lemmas in this file are about a run, which is a minimisation or a comparison. Some lemmas say that a run may
-- return the error of a call that failed within the run. Other lemmas say that facts about a system in memory also hold
-- for the system that the input describes, after the labels to hide have been hidden in it. These two systems differ
-- only in the order of their transitions. The lemma `of_all` is about the contents of a source that was read to its
-- end.
use Rattle.std.proofs.Common.{rules, ◌≡◌, ◌↔◌, ℕ, ◌+◌, ◌*◌, Bool, IsTrue, List, Option, Result, IsErrAnd, length}
use Rattle.std.proofs.Common.{MatchResult, ap₂, refl}
use Rattle.std.proofs.{KnownBytes.Consumes-whole, lemmas.Result.err_from_is_err_and}
use Rattle.std.proofs.lemmas.List.Sorted.{IsPermutation-sym}
use Rattle.std.specs.Io.KnownBytes.{Consumes, IsAtEnd}
use Rattle.theory.specs.{System.System, System.Hide, Bisimulation.Equivalent, declared.relation.Relation.Relation}
use Rattle.theory.specs.{Blocks.Turns, Alike.SameSteps, Union.union_of}
use Rattle.theory.proofs.CallerLemmas.{same_steps_refl, same_steps_sym, same_steps_permuted, bisimilar_alike}
use Rattle.theory.proofs.CallerLemmas.{turns_alike, equivalent_alike, quotient_alike, quotient_reordered, unions_alike}
use Rattle.lts.specs.{Lts.Grouped, Lts.system_of, Meter.Counts}
use Rattle.quotient.specs.Visits.{StaysWithin, quotient_passes, union_passes}
use Rattle.autfmt.specs.{Bounds.Bounds, Outcomes.ReadsTo, Outcomes.Takes, Written.IsInWrittenOrder}
use Rattle.autbis.specs.{Comparisons.HasReadBoth, Ends.OfText, Runs.HasReadInput, Runs.Minimises, Runs.Used}

-- Suppose that a call within a run (a minimisation or a comparison) returned the error e, and that the run returned e
-- too. Suppose also that the bytes `given` were read from the source (the object from which the input is read), and
-- that the contract of the run allows the error e after these bytes have been read (`Bad`). Then the result of the run
-- satisfies the contract of the run (`Takes`).
pub takes_error : {T E : Type 0} {old new : Option (List ℕ)} {Good : List ℕ → T → Type 0}
    {Bad : List ℕ → E → Type 0} {r : Result T E} (e : E) (given : List ℕ) →
    IsErrAnd r (λ y. y ≡ e) → Consumes old new given → Bad given e → Takes old new Good Bad r
takes_error e given is took bad = search rules

-- Suppose that a function returned the error e of a call within the function, and that the contract of the function
-- allows the error e (`Bad`). Then the result of the function satisfies the contract of the function.
pub passes : {T E : Type 0} (Good : T → Type 0) (Bad : E → Type 0) (r : Result T E) (e : E) → IsErrAnd r (λ y. y ≡ e) →
    Bad e → MatchResult r Good Bad
passes Good Bad r e is bad = let exit = err_from_is_err_and r is in rw (exit.1, exit.2) bad

-- Suppose that a source (an object from which an input is read) was read to its end, and that the property P holds for
-- the bytes that were read from the source. Then P holds for the contents of the source (`OfText`). This is true even
-- if the contract of the source does not state these contents.
pub of_all : (old new : Option (List ℕ)) (given : List ℕ) (P : List ℕ → Type 0) → Consumes old new given → IsAtEnd new →
    P given → OfText old P
of_all old new given P took at_end h =
    (given, Consumes-whole old new given (λ bytes. bytes ≡ given) took at_end refl, h)

module _ {n k m j passes : ℕ} {at : Counts} (states : n ≡ k) (transitions : m ≡ j) where
  -- Suppose that two systems have the same number of states and the same number of transitions. If the numbers of
  -- rounds and visits (reads of transitions) of a run are within the bounds for one of these systems (`StaysWithin`),
  -- then these numbers are within the bounds for the other system as well.
  pub keeps_whole : (rounds : ℕ) → StaysWithin n m passes at (rounds * m) → StaysWithin k j passes at (rounds * j)
  keeps_whole rounds keeps = rw (← states, ← transitions) keeps

  -- Suppose that two systems have the same number of states and the same number of transitions. Suppose also that the
  -- numbers of rounds and visits (reads of transitions) that a meter has counted do not exceed the upper bounds for a
  -- run with one of these systems (`StaysWithin`). Then these numbers do not exceed the upper bounds for a run with the
  -- other system.
  pub keeps_part : {least : ℕ} → StaysWithin n m passes at least → StaysWithin k j passes at 0
  keeps_part keeps = search rules

module _ {bounds : Bounds} {H : List (List ℕ)} {given : List ℕ} {rest : Option (List ℕ)} {failures : ℕ} {s : Grouped}
    (got : ReadsTo bounds H given rest failures s) where
  -- Suppose that the system in memory was read from an input, and that the labels in the list H were hidden when it was
  -- read. Then this system has the same steps as the system that the input describes, after the labels in H have been
  -- hidden in it.
  pub steps_of_text : SameSteps (system_of s) (Hide H got.read.0)
  steps_of_text = let groups = got.read.2 in
      same_steps_permuted (system_of s) (Hide H got.read.0) groups.first groups.states
      (IsPermutation-sym _ _ groups.same)

-- Suppose that the input of a minimisation was read to its end, and that the numbers of rounds and visits (reads of
-- transitions) on the meter are within the bounds for a minimisation of the system in memory. Then these numbers are
-- within the bounds for a minimisation of the system that the input describes (`HasReadInput`).
pub has_read : {T : Type 0} {bounds : Bounds} {H : List (List ℕ)} {given : List ℕ} {source : Used T} {s : Grouped}
    {at : Counts} {least : ℕ} → ReadsTo bounds H given source.after source.failures s →
    StaysWithin s.states (length s.places) quotient_passes at least → HasReadInput bounds given source at
has_read got keeps = let within = keeps_part got.read.2.states got.as_many keeps in
    search (rules, got.at_end, got.sound, got.read.1, within)

-- Suppose that the systems A and B have the same steps, that Q is the minimised system for A, and that R results from Q
-- by sorting the transitions into the order in which they are written. Then R is the minimised system for B.
pub minimises_alike : {rel : Relation} {A B Q R : System} → SameSteps A B → Minimises rel A Q → IsInWrittenOrder Q R →
    Minimises rel B R
minimises_alike {rel} {A} {B} {Q} {R} same is order =
    let alike = same_steps_permuted R Q order.first order.states order.same in
    let back = same_steps_sym A B same in
    record {
      quotient = quotient_reordered rel B Q R order.first order.states order.same
          (quotient_alike rel A B Q same is.quotient);
      equivalent = equivalent_alike rel A B Q R same (same_steps_sym R Q alike) is.equivalent;
      no_two_bisimilar = λ s t both. is.no_two_bisimilar s t (bisimilar_alike rel R Q R Q s t alike alike both);
      smallest = λ C sys other.
          rw order.states (is.smallest C sys (equivalent_alike rel B A C C back (same_steps_refl C) other));
    }

module _ {bounds : Bounds} {H : List (List ℕ)} {first second : List ℕ} {rest more : Option (List ℕ)} {j k : ℕ}
    {s t : Grouped} (one : ReadsTo bounds H first rest j s) (other : ReadsTo bounds H second more k t) where
  -- Suppose that two systems in memory were read from two inputs, and that the labels in the list H were hidden in both
  -- systems. If a verdict (which states whether two systems are equivalent) is correct for the systems in memory, then
  -- it is correct for the systems that the inputs describe, after the labels in H have been hidden in them.
  pub verdict_of : (rel : Relation) (same : Bool) → IsTrue same ↔ Equivalent rel (system_of s) (system_of t) →
      IsTrue same ↔ Equivalent rel (Hide H one.read.0) (Hide H other.read.0)
  verdict_of rel same is =
      let here = steps_of_text one in
      let there = steps_of_text other in (
        λ yes. equivalent_alike rel _ _ _ _ here there (is.0 yes),
        λ e. is.1 (equivalent_alike rel _ _ _ _ (same_steps_sym _ _ here) (same_steps_sym _ _ there) e),
      )

  -- If the refinement of the union of the two systems in memory takes r rounds, then the refinement of the union of the
  -- two systems that the inputs describe takes r rounds, too. The labels in the list H are hidden in all these systems.
  pub turns_of : (rel : Relation) (r : ℕ) → Turns rel (union_of (system_of s) (system_of t)) r →
      Turns rel (union_of (Hide H one.read.0) (Hide H other.read.0)) r
  turns_of rel = turns_alike rel _ _ (unions_alike _ _ _ _ (steps_of_text one) (steps_of_text other))

-- Suppose that both inputs of a comparison were read to their ends, and that the numbers of rounds and visits (reads of
-- transitions) on the meter are within the bounds for a comparison of the systems in memory. Then these numbers are
-- within the bounds for a comparison of the systems that the inputs describe (`HasReadBoth`).
abbrev pub has_read_both : {A B : Type 0} {bounds : Bounds} {H : List (List ℕ)} {first second : List ℕ} {a : Used A}
    {b : Used B} {s t : Grouped} {at : Counts} {least : ℕ} → ReadsTo bounds H first a.after a.failures s →
    ReadsTo bounds H second b.after b.failures t → Consumes b.before b.after second →
    StaysWithin (s.states + t.states) (length s.places + length t.places) union_passes at least →
    HasReadBoth bounds first (a, b) at
has_read_both one other took keeps = record {
  second = _;
  took = took;
  exhausted = ((one.at_end, one.sound), (other.at_end, other.sound));
  both = record {
    one = one.read.0;
    other = other.read.0;
    reads_first = one.read.1;
    reads_second = other.read.1;
  };
  keeps = keeps_part (ap₂ ◌+◌ one.read.2.states other.read.2.states) (ap₂ ◌+◌ one.as_many other.as_many) keeps;
}
