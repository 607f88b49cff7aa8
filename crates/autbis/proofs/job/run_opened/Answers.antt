use Rattle.std.proofs.Common.{◌≡◌, ◌∙◌, ◌⊎◌, Bool, IsTrue, ap, false, inl, inr, refl, true}
use Rattle.autbis.proofs.Ending.{ends_revealed, reveals_itself}
use Rattle.autbis.proofs.job.run_opened.Goals as goal

pub returns-in-Input-clause-ends : goal.returns-in-Input-clause-ends
returns-in-Input-clause-ends g c = rw (c.in-Input.is, ← c.relation_of-rel.ensures, ← c.file.ensures)
    (ends_revealed (reveals_itself _) (λ sound. (sound, tt)) inl c.min_program.ensures.ends)

pub returns-in-One-clause-ends : goal.returns-in-One-clause-ends
returns-in-One-clause-ends g c = rw (c.in-One.is, ← c.relation_of-rel.ensures, ← c.file.ensures)
    (ends_revealed (reveals_itself _) (λ sound. (c.requires.input, sound)) (λ failed. inr (tt, failed))
    c.min_program-in-One.ensures.ends)

pub returns-in-Two-clause-ends : goal.returns-in-Two-clause-ends
returns-in-Two-clause-ends g c =
    let sound = rw c.in-Two.is at c.requires.texts in
    rw (c.in-Two.is, ← c.relation_of-rel.ensures, ← c.file.ensures)
    (ends_revealed (reveals_itself _, reveals_itself _) (λ kept. (c.requires.input, kept))
    (λ failed. inr (
      tt,
      elim failed [
        | inl (first, same) ↦ inl (first, ap g.S.Source.failures same ∙ sound.1)
        | inr second ↦ inr second
      ],
    ))
    c.cmp_program.ensures.ends)

-- Suppose that the proposition `Silent` holds if `flag` is false, and that the proposition `Shown` holds if `flag` is
-- true. Then `Silent` holds, or `flag` is true and `Shown` holds.
silent_or_shown : (flag : Bool) {Silent Shown : Type 0} → (flag ≡ false → Silent) → (IsTrue flag → Shown) →
    Silent ⊎ (IsTrue flag × Shown)
silent_or_shown true silent shown = inr (refl, shown refl)
silent_or_shown false silent shown = inl (silent refl)

pub returns-in-Input-clause-silent : goal.returns-in-Input-clause-silent
returns-in-Input-clause-silent g c low =
    rw (c.in-Input.is, ← c.relation_of-rel.ensures, ← c.file.ensures, ← c.shows_counts-stats.ensures)
    (silent_or_shown _ (c.min_program.ensures.silent low) (c.min_program.ensures.shown low))

pub returns-in-One-clause-silent : goal.returns-in-One-clause-silent
returns-in-One-clause-silent g c low =
    rw (c.in-One.is, ← c.relation_of-rel.ensures, ← c.file.ensures, ← c.shows_counts-stats.ensures)
    (silent_or_shown _ (c.min_program-in-One.ensures.silent low) (c.min_program-in-One.ensures.shown low))

pub returns-in-Two-clause-silent : goal.returns-in-Two-clause-silent
returns-in-Two-clause-silent g c low = inl (c.cmp_program.ensures.silent low)
