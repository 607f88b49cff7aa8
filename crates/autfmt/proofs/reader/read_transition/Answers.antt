use Rattle.std.proofs.Common.{◌++◌, ◌∷◌, [], inl, refl, ◌∙◌, arith}
use Rattle.theory.specs.System.{Transition, IsAmong}
use Rattle.autfmt.specs.{Faults.LineFault.too_long}
use Rattle.autfmt.specs.declared.cutter.Step.TheVariants.{Line, TooLong, End}
use Rattle.autfmt.proofs.{Cutting.HasCut-line, Cutting.after, Holding.Holds-length, Holding.Holds-add}
use Rattle.autfmt.proofs.ReaderSteps.{returns_error, transition_failed, transition_refused, transition_good}
use Rattle.autfmt.proofs.ReaderSteps.{no_memory_behind, end_fault-missing}
use Rattle.autfmt.proofs.{reader.read_transition.Given.Over, reader.read_transition.Goals.In_ok-read}
use Rattle.autfmt.proofs.reader.read_transition.Goals as goal

pub returns-in_err-advance-clause-transition : goal.returns-in_err-advance-clause-transition
returns-in_err-advance-clause-transition g c =
    let s = c.in_err-advance.ensures.step in (
      s.0,
      s.1,
      λ bounds given es standing.
          let count = Holds-length _ _ _ es standing.1 in
          returns_error _ _ _ c.from_residual.ensures.1 (transition_failed s.0 standing.0 _ _ (omega arith)
          (inl (omega arith)) c.in_err-advance.ensures.failures s.2),
    )

pub returns-in-TooLong-clause-transition : goal.returns-in-TooLong-clause-transition
returns-in-TooLong-clause-transition g c =
    let s = rw c.in-TooLong.is at c.in_ok-advance.ensures.step in
    let end = c.advance.ensures.end c.requires.source.end in (
      s.0,
      s.1,
      λ bounds given es standing.
          let count = c.len-found.ensures ∙ Holds-length _ _ _ es standing.1 in
          transition_refused s.0 standing.0 _ count (omega arith) c.in_ok-advance.ensures.failures end tt
          (after given s.0 (standing.0.header ∷ standing.0.lines) c.args.cutter.now standing.0.cut TooLong
          c.advance.new.self _ s.2
          (λ line others big. inl (inl (omega arith, too_long refl big)))),
    )

pub returns-in-End-clause-transition : goal.returns-in-End-clause-transition
returns-in-End-clause-transition g c =
    let s = rw c.in-End.is at c.in_ok-advance.ensures.step in
    let end = c.advance.ensures.end c.requires.source.end in (
      s.0,
      s.1,
      λ bounds given es standing.
          let count = c.len-found.ensures ∙ Holds-length _ _ _ es standing.1 in
          transition_refused s.0 standing.0 _ count (omega arith) c.in_ok-advance.ensures.failures end tt
          (after given s.0 (standing.0.header ∷ standing.0.lines) c.args.cutter.now standing.0.cut End
          c.advance.new.self _ s.2 (end_fault-missing _ c.args.promise.states _ (omega arith))),
    )

pub returns-in_err-read-clause-transition : goal.returns-in_err-read-clause-transition
returns-in_err-read-clause-transition g c =
    let s = rw c.in-Line.is at c.in_ok-advance.ensures.step in
    let end = c.advance.ensures.end c.requires.source.end in
    let bad = rw c.line.ensures at c.in_err-read.ensures.fault in (
      s.0,
      s.1,
      λ bounds given es standing.
          let count = c.len-found.ensures ∙ Holds-length _ _ _ es standing.1 in
          returns_error _ _ _ c.from_residual-in_err-read.ensures.1
          (transition_refused s.0 standing.0 _ count (omega arith) c.in_ok-advance.ensures.failures end
          c.in_err-read.ensures.kind
          (after given s.0 (standing.0.header ∷ standing.0.lines) c.args.cutter.now standing.0.cut Line
          c.advance.new.self _ s.2 (λ others. inl (inl (omega arith, bad))))),
    )

pub returns-in_err-add-clause-transition : goal.returns-in_err-add-clause-transition
returns-in_err-add-clause-transition g c =
    let s = rw c.in-Line.is at c.in_ok-advance.ensures.step in
    let end = c.advance.ensures.end c.requires.source.end in (
      s.0,
      s.1,
      λ bounds given es standing. returns_error _ _ _ c.from_residual-in_err-add.ensures.1
          (no_memory_behind (standing.0.lines ++ c.advance.new.self.line ∷ []) c.advance.new.self
          (HasCut-line given s.0 (standing.0.header ∷ standing.0.lines) c.args.cutter.now standing.0.cut _ s.2)
          standing.0.good
          c.in_ok-advance.ensures.failures end),
    )

-- If the reader has checked a transition successfully, then the source and the target of this transition are states of
-- the system.
read : (g : Over) (c : In_ok-read g) → (e : Transition) × IsAmong c.args.promise.states e
read g c = (
  record { source = c.in_ok-read.read.0; label = c.in_ok-read.read.1.now; target = c.in_ok-read.read.2 },
  record {
    source = c.in_ok-read.ensures.among.0;
    label = c.in_ok-read.ensures.label;
    target = c.in_ok-read.ensures.among.1;
  },
)

pub returns-clause-transition : goal.returns-clause-transition
unfolding read
returns-clause-transition g c =
    let s = rw c.in-Line.is at c.in_ok-advance.ensures.step in
    let (e, among) = read g (goal.at.returns-clause-transition g c).In_ok-read in
    let good = rw c.line.ensures at c.in_ok-read.ensures.good in (
      s.0,
      s.1,
      λ bounds given es standing.
          let before = standing.0.header ∷ standing.0.lines in
          let cut = HasCut-line given s.0 before c.args.cutter.now standing.0.cut _ s.2 in
          let so_far = transition_good s.0 standing.0 _ _ e cut s.2.1.short good among in
          let added = c.in_ok-add.ensures.added standing.1.shown in
          (e, (so_far, Holds-add es e standing.1 among added)),
    )
