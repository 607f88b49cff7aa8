use Rattle.std.proofs.Common.{◌++◌, ◌∷◌, [], inl, refl, arith}
use Rattle.std.proofs.lemmas.{List.length_push, Slice.Zip.all_zipped_more}
use Rattle.autfmt.specs.HideLists.{Hides}
use Rattle.autfmt.specs.{Faults.LineFault.too_long}
use Rattle.autfmt.specs.declared.cutter.Step.TheVariants.{Line, TooLong}
use Rattle.autfmt.proofs.{Cutting.HasCut-line, Cutting.after, ReaderSteps.returns_error}
use Rattle.autfmt.proofs.HideSteps.{hide_ends, hide_failed, hide_refused, SameLabels-add}
use Rattle.autfmt.proofs.hide_reader.read_hide_line.Goals as goal

pub returns-in_err-advance-clause-line : goal.returns-in_err-advance-clause-line
returns-in_err-advance-clause-line g c =
    let s = c.in_err-advance.ensures.step in
    let few = c.requires.more in (
      s.0,
      s.1,
      λ given H so_far count. returns_error _ _ _ c.from_residual.ensures.1
          (hide_failed s.0 so_far _ _ (omega arith) (inl (omega arith)) c.in_err-advance.ensures.failures s.2),
    )

pub returns-in-TooLong-clause-line : goal.returns-in-TooLong-clause-line
returns-in-TooLong-clause-line g c =
    let s = rw c.in-TooLong.is at c.in_ok-advance.ensures.step in
    let few = c.requires.more in
    let end = c.advance.ensures.end c.requires.source.end in (
      s.0,
      s.1,
      λ given H so_far count. hide_refused s.0 so_far _ count (omega arith) c.in_ok-advance.ensures.failures end tt
          (after given s.0 so_far.lines c.args.cutter.now so_far.cut TooLong c.advance.new.self _ s.2
          (λ line others big. inl (inl (few, too_long refl big)))),
    )

pub returns-in-End-clause-line : goal.returns-in-End-clause-line
returns-in-End-clause-line g c =
    let s = rw c.in-End.is at c.in_ok-advance.ensures.step in
    let few = c.requires.more in
    (s.0, s.1, λ given H so_far count. hide_ends s.0 so_far (omega arith) s.2.none)

pub returns-in_err-label-clause-line : goal.returns-in_err-label-clause-line
returns-in_err-label-clause-line g c =
    let s = rw c.in-Line.is at c.in_ok-advance.ensures.step in
    let few = c.requires.more in
    let end = c.advance.ensures.end c.requires.source.end in
    let bad = rw c.line.ensures at c.in_err-label.ensures.fault in (
      s.0,
      s.1,
      λ given H so_far count. returns_error _ _ _ c.from_residual-in_err-label.ensures.1
          (hide_refused s.0 so_far _ count (omega arith) c.in_ok-advance.ensures.failures end
          c.in_err-label.ensures.kind (after given s.0 so_far.lines c.args.cutter.now so_far.cut Line c.advance.new.self
          _ s.2 (λ others. inl (inl (few, bad))))),
    )

pub returns-clause-line : goal.returns-clause-line
returns-clause-line g c =
    let s = rw c.in-Line.is at c.in_ok-advance.ensures.step in
    let now = c.advance.new.self in
    let a = c.in_ok-label.label.now in
    let good = rw c.line.ensures at c.in_ok-label.ensures.good in (
      s.0,
      s.1,
      λ given H so_far count. (
        a,
        record {
          lines = so_far.lines ++ now.line ∷ [];
          cut = HasCut-line given s.0 so_far.lines c.args.cutter.now so_far.cut now s.2;
          named = all_zipped_more Hides so_far.lines H now.line a so_far.named good;
          same = SameLabels-add _ H a _ so_far.same c.in_ok-add.ensures.added;
        },
      ),
    )

pub returns-clause-few : goal.returns-clause-few
returns-clause-few g c = grind (arith, length_push)
