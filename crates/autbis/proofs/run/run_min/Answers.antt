use Rattle.std.proofs.Common.{rules, ◌∙◌, ℕ, ap₂, inl, inr, refl, sym, arith}
use Rattle.std.proofs.lemmas.{List.length-map}
use Rattle.theory.specs.System.{System}
use Rattle.theory.proofs.CallerLemmas.{quotient_system, turns_alike}
use Rattle.lts.specs.Lts.{transition_of, system_of}
use Rattle.autfmt.specs.{declared.fault.Fault.TheVariants.Memory, Written.IsInWrittenOrder}
use Rattle.autfmt.proofs.CallerLemmas.{text_is_read_again}
use Rattle.autbis.specs.{declared.run.Counts.Counts, Runs.MinimisedText, Runs.asks}
use Rattle.autbis.specs.Runs.MinimisationFails.{out_of_memory, not_written}
use Rattle.autbis.proofs.{run.run_min.Given.Over, run.run_min.Goals.After-write}
use Rattle.autbis.proofs.Runs.{has_read, keeps_whole, minimises_alike, steps_of_text, takes_error}
use Rattle.autbis.proofs.run.run_min.Goals as goal

pub returns-in_err-system-clause-outcome : goal.returns-in_err-system-clause-outcome
returns-in_err-system-clause-outcome g c = search rules

pub returns-in_err-quotient-clause-outcome : goal.returns-in_err-quotient-clause-outcome
returns-in_err-quotient-clause-outcome g c =
    let got = c.in_ok-system.ensures.outcome in
    takes_error Memory got.given c.from_residual-in_err-quotient.ensures.1 got.took
    (out_of_memory (has_read got.outcome c.in_err-quotient.ensures.keeps) refl c.requires.sink)

-- `to` proves that the input was correct, and that `listing` is the minimised system for this input. The input
-- describes a system, and the labels to hide are then hidden in this system. The system in memory differs from the
-- resulting system only in the order of its transitions. Therefore results about the system in memory hold for the
-- resulting system as well.
abbrev to : (g : Over) (c : After-write g) (listing : System) →
    IsInWrittenOrder (system_of c.in_ok-quotient.quotient) listing →
    MinimisedText (asks c.args.rel c.args.lim.now c.args.h.now) c.in_ok-system.ensures.outcome.given
to g c listing order =
    let got = c.in_ok-system.ensures.outcome.outcome in
    let q = c.in_ok-quotient.quotient in
    let is = c.in_ok-quotient.ensures in
    let count = length-map q.places (transition_of q.labels) in
    record {
      input = got.read.0;
      output = listing;
      read = got.read.1;
      minimises = minimises_alike (steps_of_text got)
          (search (rules, is.quotient, is.equivalent, is.no_two_bisimilar, is.smallest)) order;
      sorted = order.sorted;
      read_again = text_is_read_again c.args.lim.now (system_of q) listing c.invariants.ensures
          (quotient_system c.args.rel _ (system_of q) c.states.ensures.lts.system is.quotient)
          (omega (arith, got.within.states, is.no_larger.0))
          (omega (arith, got.within.transitions, count, is.no_larger.1)) order;
    }

pub returns-in_err-write-clause-outcome : goal.returns-in_err-write-clause-outcome
returns-in_err-write-clause-outcome g c =
    let at = (goal.at.returns-in_err-write-clause-outcome g c).After-write in
    let got = c.in_ok-system.ensures.outcome in
    let is = c.in_err-write.ensures in
    let keeps = c.in_ok-quotient.ensures.keeps in
    takes_error c.in_err-write.field-0.0 got.given c.from_residual-in_err-write.ensures.1 got.took (elim is.faults [
      | inl memory ↦ out_of_memory (has_read got.outcome keeps) memory (rw memory at is.failures)
      | inr device ↦
          let (front, later, (listing, order, text), gained) = is.device device in
          not_written (has_read got.outcome keeps) device (to g at listing order)
          ((front, later, sym text, gained), rw device at is.failures)
    ])

pub returns-in_err-write-clause-untouched : goal.returns-in_err-write-clause-untouched
returns-in_err-write-clause-untouched g c = search rules

-- `sizes_of s t` is the size of a system with s states and t transitions, in the form in which `run_min` returns it.
abbrev sizes_of : ℕ → ℕ → Counts
sizes_of s t = record { states = s; transitions = t }

pub returns-clause-outcome : goal.returns-clause-outcome
returns-clause-outcome g c =
    let at = (goal.at.returns-clause-outcome g c).After-write in
    let got = c.in_ok-system.ensures.outcome in
    let read = got.outcome in
    let is = c.in_ok-quotient.ensures in
    let (text, (listing, order, written), gained) = c.in_ok-write.ensures.text in
    record {
      given = got.given;
      took = got.took;
      outcome = record {
        to = to g at listing order;
        sizes = ap₂ sizes_of (c.states.ensures.value ∙ read.read.2.states) (c.edges.ensures.value ∙ read.as_many);
        written = (rw written at gained, c.in_ok-write.ensures.failures);
        turns = turns_alike c.args.rel _ _ (steps_of_text read) _ is.turns;
        keeps = keeps_whole (sym c.states.ensures.value) (sym c.edges.ensures.value) _ is.keeps;
        exhausted = (read.at_end, read.sound);
      };
    }
