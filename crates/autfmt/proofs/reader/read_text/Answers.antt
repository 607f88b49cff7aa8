use Rattle.std.proofs.Common.{List, ℕ, ◌∷◌, ◌++◌, false, sym, inl, inr, refl, ◌∙◌, arith}
use Rattle.std.specs.Io.KnownBytes.{Consumes}
use Rattle.std.proofs.KnownBytes.{Consumes-trans}
use Rattle.theory.specs.System.{Transition}
use Rattle.autfmt.specs.ReadSoFar.{HeldSoFar}
use Rattle.std.proofs.lemmas.List.Elements.{All-nil}
use Rattle.autfmt.proofs.FaultLaws.{Reads-from_lines}
use Rattle.autfmt.proofs.{Cutting.HasCut-end, Cutting.more_lines, Holding.Holds-length, reader.read_text.Given.Over}
use Rattle.autfmt.proofs.ReaderSteps.{takes_more, returns_error, transition_failed, transition_refused}
use Rattle.autfmt.proofs.reader.read_text.Goals.{After-is_at_end}
use Rattle.autfmt.proofs.reader.read_text.Goals as goal

pub returns-in_err-held-clause-whole : goal.returns-in_err-held-clause-whole
returns-in_err-held-clause-whole g c =
    let first = c.in_ok-promise.ensures.header in
    let (bytes, took, step) = c.in_err-held.ensures.transitions in
    takes_more _ first.given bytes first.took took
    (returns_error _ _ _ c.from_residual-in_err-held.ensures.1 (step c.args.lim.now first.given first.outcome))

-- `so_far` proves that a list of transitions has been read before the reader tests whether the input has ended. The
-- first part of `so_far` is the list of the bytes that have been read from the source (the object from which the input
-- is read).
so_far : (g : Over) (c : After-is_at_end g) → (front : List ℕ)
    × Consumes (g.R.Source.rest c.args.r.now) (g.R.Source.rest c.read_transitions.new.r) front × (es : List Transition)
    × HeldSoFar c.args.lim.now c.args.h.now front c.in_ok-promise.promise
    (c.read_transitions.new.cutter, c.in_ok-held.held) es
so_far g c =
    let first = c.in_ok-promise.ensures.header in
    let (bytes, took, step) = c.in_ok-held.ensures.transitions in
    let (es, now) = step c.args.lim.now first.given first.outcome in
    (first.given ++ bytes, Consumes-trans _ _ _ first.given bytes first.took took, es, now)

pub returns-in_err-at_end-clause-whole : goal.returns-in_err-at_end-clause-whole
returns-in_err-at_end-clause-whole g c =
    let (front, taken, es, now) = so_far g (goal.at.returns-in_err-at_end-clause-whole g c).After-is_at_end in
    let (last, took, none) = c.in_err-at_end.ensures.look in
    let count = c.in_ok-held.ensures.len in
    let size = Holds-length _ _ _ es now.1 in
    takes_more _ front last taken took (returns_error _ _ _ c.from_residual-in_err-at_end.ensures.1
    (transition_failed last now.0 _ _ (omega arith) (inr none.1) c.in_err-at_end.ensures.failures
    (none.0, rw none.1 (All-nil _, omega arith))))

pub returns-then-not-at_end-clause-whole : goal.returns-then-not-at_end-clause-whole
returns-then-not-at_end-clause-whole g c =
    let (front, taken, es, now) = so_far g (goal.at.returns-then-not-at_end-clause-whole g c).After-is_at_end in
    let (last, took, look) = rw c.if-not-at_end.true at c.in_ok-at_end.ensures.look in
    let count = sym c.in_ok-held.ensures.len ∙ Holds-length _ _ _ es now.1 in
    takes_more _ front last taken took
    (transition_refused last now.0 _ count (omega arith) c.in_ok-at_end.ensures.failures (λ over. absurd cc) tt
    (more_lines front last (now.0.header ∷ now.0.lines) c.read_transitions.new.cutter now.0.cut false _ (look.3 refl)
    (λ line others. inl (inr (omega arith, refl)))))

pub returns-clause-whole : goal.returns-clause-whole
returns-clause-whole g c =
    let (front, taken, es, now) = so_far g (goal.at.returns-clause-whole g c).After-is_at_end in
    let (last, took, look) = rw c.if-not-at_end.false at c.in_ok-at_end.ensures.look in
    let count = sym c.in_ok-held.ensures.len ∙ Holds-length _ _ _ es now.1 in
    let old = c.read_transitions.new.cutter in
    let l = HasCut-end front last (now.0.header ∷ now.0.lines) old now.0.cut (look.2 refl) in
    let read = Reads-from_lines _ (front ++ last) now.0.header now.0.lines _ _ _ es l now.0.good now.0.spelled
    (sym count) in
    takes_more _ front last taken took (es, read, now.1)
