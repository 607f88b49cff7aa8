-- The quotient of a well-formed system is a well-formed system. Each step from a reachable state is represented by a
-- transition of the quotient, except for the steps that the quotient leaves out. For branching bisimilarity, these are
-- the internal steps whose source and target are represented by the same quotient state.
use Rattle.std.proofs.Common.{◌⊎◌, ℕ, ◌<◌, List, get_or, sym, subst, inl, inr}
use Rattle.std.proofs.lemmas.List.Elements.{All-contains, Contains-get_or}
use Rattle.theory.specs.System.{System, IsSystem, IsAmong, Transition, Step, Internal, AnyStep, Reachable, Silent}
use Rattle.theory.specs.System.{internal}
use Rattle.theory.specs.declared.relation.Relation.{Relation}
use Rattle.theory.specs.declared.relation.Relation.TheVariants.{Strong, Branching}
use Rattle.theory.specs.Quotient.{Number, IsDropped, IsQuotientStep, Quotient}
use Rattle.theory.proofs.Deciding.{same_number, same_bytes, both}
use Rattle.theory.proofs.Paths.{leads_map, leads_append, reachable_on}
use Rattle.theory.proofs.Numbers.{number_of, first_number, number_below}

-- The class number of a reachable state is the number of the quotient state that the class of this state becomes.
-- `Numbered` holds if the state s is reachable and has the class number n.
abbrev pub Numbered : Relation → System → ℕ → ℕ → Type 0
Numbered rel A s n = Reachable A s × Number rel A s n

-- If a silent path leads from a reachable state to the state t, then t is reachable.
pub reachable_silent : (A : System) (s t : ℕ) → Reachable A s → Silent A s t → Reachable A t
reachable_silent A s t path silent =
    leads_append (AnyStep A) A.first s t path (leads_map (Internal A) (AnyStep A) (λ x y r. (internal, r)) s t silent)

-- It is decidable whether the quotient leaves out a transition between quotient states. For branching bisimilarity, the
-- quotient leaves out the internal transitions from a quotient state to itself.
dropped_decided : (rel : Relation) (e : Transition) → Dec (IsDropped rel e)
dropped_decided Strong e = no (λ h. h)
dropped_decided Branching e = both (same_bytes e.label internal) (same_number e.source e.target)

module _ (rel : Relation) (A Q : System) (sys : IsSystem A) (quotient : Quotient rel A Q) where
  -- The class number of a reachable state is defined by counting leaders, which are states that represent their
  -- classes. Every class number is a state of the quotient.
  pub number_state : (s n : ℕ) → Number rel A s n → n < Q.states
  number_state = number_below rel A sys Q.states quotient.states

  stands_among : (e : Transition) → IsQuotientStep rel A e → IsAmong Q.states e
  stands_among e stands =
      let step : IsAmong A.states (record { source = stands.0; label = e.label; target = stands.1 }) =
      All-contains (IsAmong A.states) A.transitions (record { source = stands.0; label = e.label; target = stands.1 })
      sys.transitions stands.3 in
      record {
        source = number_state stands.0 e.source stands.4;
        label = step.label;
        target = number_state stands.1 e.target stands.5;
      }

  -- The quotient of a well-formed system is a well-formed system.
  pub quotient_system : IsSystem Q
  quotient_system = record {
    first = subst (λ n. n < Q.states) (sym quotient.first) (number_state A.first 0 (first_number rel A sys));
    transitions = λ k d l.
        let e : Transition = get_or Q.transitions k d in
        stands_among e ((quotient.transitions e).0 (Contains-get_or Q.transitions k d l)).0;
  }

  -- Suppose that the reachable state s has a step with the label a to the state t. Let n be the quotient state that
  -- represents s. Then some quotient state m represents t, and the quotient has a step from n to m with the label a,
  -- unless it leaves out such a step (`IsDropped`).
  pub step_numbered : (s n : ℕ) (a : List ℕ) (t : ℕ) → Numbered rel A s n → Step A s a t →
      (m : ℕ) × Numbered rel A t m × (Step Q n a m ⊎ IsDropped rel (record { source = n; label = a; target = m }))
  step_numbered s n a t (path, number) step =
      let on : Reachable A t = reachable_on A s a t path step in
      let m : (m : ℕ) × Number rel A t m = number_of rel A sys t on in
      let e : Transition = record { source = n; label = a; target = m.0 } in (
        m.0,
        (on, m.1),
        elim (dropped_decided rel e) [
          | yes drop ↦ inr drop
          | no kept ↦ inl ((quotient.transitions e).1 ((s, t, path, step, number, m.1), kept))
        ],
      )
