-- If a system has no internal transitions, then strong and branching bisimilarity relate the same states of this
-- system, and refinement takes the same number of rounds for both relations.
use Rattle.std.proofs.Common.{rules, ◌≡◌, ◌∙◌, ℕ, ◌*◌, ◌≤◌, List, [], ◌∷◌, length, Contains, refl, sym, subst}
use Rattle.std.proofs.lemmas.List.{get_or_default}
use Rattle.theory.specs.{System.System, System.Step, System.Internal, System.Along, System.internal, Bisimulation.Pairs}
use Rattle.theory.specs.{declared.relation.Relation.Relation, Blocks.Inert, Blocks.Signature, Blocks.Turns}
use Rattle.theory.specs.declared.relation.Relation.TheVariants.{Strong, Branching}
use Rattle.theory.proofs.CallerLemmas.{strong_is_branching, branching_is_strong, SameSignatures, same_signatures_turns}
use Rattle.lts.specs.{Lts.Grouped, Lts.IsLts, Lts.system_of, Meter.Counts, Meter.Costs}
use Rattle.lts.proofs.CallerLemmas.{labels_have_ids}
use Rattle.quotient_core.specs.Numbers.{AreClasses}

module _ (A : System) (none : (s t : ℕ) → ¬ Internal A s t) where
  stays : (blocks : ℕ → ℕ) (us : List ℕ) (s u : ℕ) → Along (Inert A blocks) s us u → s ≡ u
  stays blocks [] s u h = h
  stays blocks (x ∷ us) s u h = absurd (none s x h.0.0)

  shown : (one two : Relation) (blocks : ℕ → ℕ) (s : ℕ) (a : List ℕ) (b : ℕ) → Signature one A blocks s a b →
      Signature two A blocks s a b
  shown Strong Strong blocks s a b h = h
  shown Strong Branching blocks s a b (t, step, to) =
      (s, t, ([], refl), step, to, λ inert. none s t (subst (λ c. Step A s c t) inert.0 step))
  shown Branching Strong blocks s a b (u, t, path, step, to, stands) = search (rules, stays)
  shown Branching Branching blocks s a b h = h

  alike : (one two : Relation) → SameSignatures one two A A
  alike one two = search (rules, shown)

-- Suppose that the label table of a system does not contain the internal label. If the blocks are the classes of
-- strongly bisimilar states, then they are also the classes of branching bisimilar states. If refinement for strong
-- bisimilarity takes r rounds, then refinement for branching bisimilarity also takes r rounds.
module _ {l : Grouped} {labels : List (List ℕ)} (lts : IsLts l) (read : labels ≡ l.labels)
    (absent : ¬ Contains labels internal) where
  none : (s t : ℕ) → ¬ Internal (system_of l) s t
  none s t step = let (k, number) = labels_have_ids l s internal t lts step in
      absent (rw read (k, number.below, sym (get_or_default l.labels k [] internal number.below) ∙ number.text))

  pub branching_classes : (blocks : List ℕ) → AreClasses Strong l blocks → AreClasses Branching l blocks
  branching_classes blocks h s t ls lt = let A = system_of l in (
    λ e. let x = (h s t ls lt).0 e in (x.0, strong_is_branching A A (Pairs x.0) x.1, x.2),
    λ x. (h s t ls lt).1 (x.0, branching_is_strong A A (Pairs x.0) none none x.1, x.2),
  )

  pub branching_turns : {old new : Counts} → (r : ℕ) × (r ≤ l.states) × Turns Strong (system_of l) r
      × Costs old new r (r * length l.places) (r * length l.places) → (r : ℕ) × (r ≤ l.states)
      × Turns Branching (system_of l) r × Costs old new r (r * length l.places) (r * length l.places)
  branching_turns (r, low, turns, costs) = (r, low, search (rules, same_signatures_turns, alike, none), costs)
