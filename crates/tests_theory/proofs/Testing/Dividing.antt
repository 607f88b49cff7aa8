-- Tests whether a given system is the quotient of another given system.
use Rattle.std.proofs.Common.{◌≡◌, ◌≢◌, ◌↔◌, ℕ, zero, suc, Bool, true, false, not, eqb, List, [], ◌∷◌, length, get_or}
use Rattle.std.proofs.Common.{Contains, AllPairs, bytes_eq, refl, subst, inl, inr, arith}
use Rattle.std.proofs.lemmas.Bool.{eqb-true, eq-eqb}
use Rattle.std.proofs.lemmas.List.Elements.{Contains-get_or}
use Rattle.theory.specs.System.{System, Transition, Reachable, AnyStep, internal}
use Rattle.theory.specs.Bisimulation.{Bisimilar}
use Rattle.theory.specs.declared.relation.Relation.{Relation}
use Rattle.theory.specs.declared.relation.Relation.TheVariants.{Strong, Branching}
use Rattle.theory.specs.Blocks.{Share}
use Rattle.theory.specs.Quotient.{HowMany, IsLeader, Number, IsDropped, IsQuotientStep, Quotient}
use Rattle.tests_theory.proofs.Testing.{and_then, and_then_parts, and_then_from, or_else, or_else_cases, not_passes}
use Rattle.tests_theory.proofs.Testing.{every, every_passes, some, some_passes, has, has_contains, contains_has}
use Rattle.tests_theory.proofs.Testing.{bytes_same, bytes_pass}
use Rattle.tests_theory.proofs.Testing.Reaching.{reachable, reachable_found}
use Rattle.theory.proofs.CallerLemmas.{leads_on}
use Rattle.tests_theory.proofs.Testing.Rising.{rises}
use Rattle.tests_theory.proofs.Testing.Leading.{are_reachable, are_classes, classes_pass, are_leaders}
use Rattle.tests_theory.proofs.Testing.Leading.{leaders_reachable, reachable_has}
use Rattle.tests_theory.proofs.Testing.Numbering.{number_at, leader_count, number_is, number_unique}

-- `same_transition` returns true if the transitions e and f are equal.
abbrev pub same_transition : Transition → Transition → Bool
same_transition e f =
    and_then (eqb e.source f.source) (λ _. and_then (bytes_eq e.label f.label) (λ _. eqb e.target f.target))

same_transition_moves :
    (P : Transition → Type 0) (e f : Transition) → same_transition e f ≡ true → P e → P f
same_transition_moves P e f h p =
    let first = and_then_parts (eqb e.source f.source) (λ _. and_then (bytes_eq e.label f.label)
    (λ _. eqb e.target f.target)) h in
    let second = and_then_parts (bytes_eq e.label f.label) (λ _. eqb e.target f.target) first.1 in
    subst (λ z. P (record { source = f.source; label = f.label; target = z })) (eqb-true e.target f.target second.1)
    (subst (λ z. P (record { source = f.source; label = z; target = e.target })) (bytes_same e.label f.label second.0)
    (subst (λ z. P (record { source = z; label = e.label; target = e.target })) (eqb-true e.source f.source first.0) p))

pub same_transition_at : (e f : Transition) → e ≡ f → same_transition e f ≡ true
same_transition_at e f is = subst (λ z. same_transition e z ≡ true) is
    (and_then_from (eqb e.source e.source) (λ _. and_then (bytes_eq e.label e.label) (λ _. eqb e.target e.target))
    (eq-eqb e.source e.source refl)
    (and_then_from (bytes_eq e.label e.label) (λ _. eqb e.target e.target) (bytes_pass e.label e.label refl)
    (eq-eqb e.target e.target refl)))

-- `all_differ` returns true if the given list of transitions contains no transition twice.
abbrev pub all_differ : List Transition → Bool
all_differ [] = true
all_differ (e ∷ es) = and_then (every es (λ f. not (same_transition e f))) (λ _. all_differ es)

all_differ_passes : (es : List Transition) → all_differ es ≡ true → AllPairs (λ e f. e ≢ f) es
all_differ_passes [] h i j d low l = absurd (omega (arith, l))
all_differ_passes (e ∷ es) h zero zero d low l = absurd (omega (arith, low))
all_differ_passes (e ∷ es) h zero (suc j) d low l =
    let parts = and_then_parts (every es (λ f. not (same_transition e f))) (λ _. all_differ es) h in
    λ is. not_passes (same_transition e (get_or es j d))
    (every_passes es (λ f. not (same_transition e f)) parts.0 (get_or es j d)
    (Contains-get_or es j d (omega (arith, l))))
    (same_transition_at e (get_or es j d) is)
all_differ_passes (e ∷ es) h (suc i) zero d low l = absurd (omega (arith, low))
all_differ_passes (e ∷ es) h (suc i) (suc j) d low l =
    all_differ_passes es (and_then_parts (every es (λ f. not (same_transition e f))) (λ _. all_differ es) h).1
    i j d (omega (arith, low)) (omega (arith, l))

-- `dropped` returns true if a quotient does not contain the transition e. For branching bisimilarity, a quotient
-- contains no internal transition from a state to itself.
abbrev pub dropped : Relation → Transition → Bool
dropped Strong e = false
dropped Branching e = and_then (bytes_eq e.label internal) (λ _. eqb e.source e.target)

dropped_there : (rel : Relation) (e : Transition) → dropped rel e ≡ true → IsDropped rel e
dropped_there Strong e h = cc
dropped_there Branching e h =
    let parts = and_then_parts (bytes_eq e.label internal) (λ _. eqb e.source e.target) h in
    (bytes_same e.label internal parts.0, eqb-true e.source e.target parts.1)

dropped_back : (rel : Relation) (e : Transition) → IsDropped rel e → dropped rel e ≡ true
dropped_back Strong e h = absurd h
dropped_back Branching e h =
    and_then_from (bytes_eq e.label internal) (λ _. eqb e.source e.target) (bytes_pass e.label internal h.0)
    (eq-eqb e.source e.target h.1)

-- `image` returns the transition of the quotient that represents the transition e of A. In this transition, the source
-- and the target of e are replaced by their class numbers, which are the numbers of the quotient states that their
-- classes become.
abbrev pub image : System → (ℕ → ℕ) → List ℕ → Transition → Transition
image A lead leaders e =
    record {
      source = number_at A leaders (lead e.source);
      label = e.label;
      target = number_at A leaders (lead e.target);
    }

-- `is_image` returns true if e is a transition of the quotient. This is the case if e is not a transition that a
-- quotient leaves out (`dropped`), and e represents some transition of A whose source is reachable.
abbrev pub is_image : Relation → System → (ℕ → ℕ) → List ℕ → Transition → Bool
is_image rel A lead leaders e =
    and_then (not (dropped rel e)) (λ _.
    some A.transitions (λ f. and_then (has (reachable A) f.source) (λ _. same_transition (image A lead leaders f) e)))

-- `has_image` returns true if the list es of quotient transitions represents the transition f of A. The function
-- returns true in three cases: if the source of f is unreachable, if the quotient leaves out the transition that would
-- represent f, or if es contains the transition that represents f.
abbrev pub has_image : Relation → System → (ℕ → ℕ) → List ℕ → List Transition → Transition → Bool
has_image rel A lead leaders es f =
    or_else (not (has (reachable A) f.source)) (λ _.
    or_else (dropped rel (image A lead leaders f)) (λ _.
    some es (λ e. same_transition e (image A lead leaders f))))

-- `divides` returns true if the system Q is the quotient of the system A. The function uses `lead`, which gives the
-- leader of each state of A (the state that represents its class), and the list of all leaders.
abbrev pub divides : Relation → System → (ℕ → ℕ) → List ℕ → System → Bool
divides rel A lead leaders Q =
    and_then (eqb (length leaders) Q.states) (λ _. and_then (eqb Q.first 0) (λ _.
    and_then (every Q.transitions (λ e. is_image rel A lead leaders e)) (λ _.
    and_then (every A.transitions (λ f. has_image rel A lead leaders Q.transitions f)) (λ _.
    all_differ Q.transitions))))

module _ (rel : Relation) (A Q : System) (block : ℕ → ℕ) (pairs : List (ℕ × ℕ)) (k : ℕ)
    (lead : ℕ → ℕ) (leaders : List ℕ)
    (classes : are_classes rel A block pairs k ≡ true) (led : are_leaders A block lead leaders ≡ true)
    (up : rises leaders ≡ true) (h : divides rel A lead leaders Q ≡ true) where
  abbrev images : Bool
  images = every Q.transitions (λ e. is_image rel A lead leaders e)

  abbrev covered : Bool
  covered = every A.transitions (λ f. has_image rel A lead leaders Q.transitions f)

  one : (eqb (length leaders) Q.states ≡ true)
      × (and_then (eqb Q.first 0) (λ _. and_then images (λ _. and_then covered (λ _. all_differ Q.transitions))) ≡ true)
  one = and_then_parts (eqb (length leaders) Q.states) (λ _. and_then (eqb Q.first 0)
      (λ _. and_then images (λ _. and_then covered (λ _. all_differ Q.transitions)))) h

  two : (eqb Q.first 0 ≡ true) × (and_then images (λ _. and_then covered (λ _. all_differ Q.transitions)) ≡ true)
  two = and_then_parts (eqb Q.first 0) (λ _. and_then images (λ _. and_then covered (λ _. all_differ Q.transitions)))
      one.1

  three : (images ≡ true) × (and_then covered (λ _. all_differ Q.transitions) ≡ true)
  three = and_then_parts images (λ _. and_then covered (λ _. all_differ Q.transitions)) two.1

  four : (covered ≡ true) × (all_differ Q.transitions ≡ true)
  four = and_then_parts covered (λ _. all_differ Q.transitions) three.1

  same : (s t : ℕ) → Bisimilar rel A s A t ↔ Share A block s t
  same = classes_pass rel A block pairs k classes

  found : are_reachable A ≡ true
  found = leaders_reachable A block lead leaders led

  number : (s : ℕ) → Reachable A s → Number rel A s (number_at A leaders (lead s))
  number = number_is rel A block lead leaders same led up

  stands : (f : Transition) → Contains A.transitions f → Contains (reachable A) f.source →
      IsQuotientStep rel A (image A lead leaders f)
  stands f c r =
      let path = reachable_found A f.source r in (
        f.source,
        f.target,
        path,
        c,
        number f.source path,
        number f.target (leads_on (AnyStep A) A.first f.source f.target path (f.label, c)),
      )

  there : (e : Transition) → Contains Q.transitions e → IsQuotientStep rel A e × ¬ IsDropped rel e
  there e c =
      let parts = and_then_parts (not (dropped rel e)) (λ _.
      some A.transitions (λ f. and_then (has (reachable A) f.source) (λ _. same_transition (image A lead leaders f) e)))
      (every_passes Q.transitions (λ e. is_image rel A lead leaders e) three.0 e c) in
      let from = some_passes A.transitions
      (λ f. and_then (has (reachable A) f.source) (λ _. same_transition (image A lead leaders f) e)) parts.1 in
      let f = from.0 in
      let both = and_then_parts (has (reachable A) f.source)
      (λ _. same_transition (image A lead leaders f) e) from.2 in (
        same_transition_moves (IsQuotientStep rel A) (image A lead leaders f) e both.1
            (stands f from.1 (has_contains (reachable A) f.source both.0)),
        λ drop. not_passes (dropped rel e) parts.0 (dropped_back rel e drop),
      )

  listed : (f : Transition) → Contains A.transitions f → Contains (reachable A) f.source →
      ¬ IsDropped rel (image A lead leaders f) → Contains Q.transitions (image A lead leaders f)
  listed f c r kept =
      elim (or_else_cases (not (has (reachable A) f.source)) (λ _.
      or_else (dropped rel (image A lead leaders f)) (λ _.
      some Q.transitions (λ e. same_transition e (image A lead leaders f))))
      (every_passes A.transitions (λ f. has_image rel A lead leaders Q.transitions f) four.0 f c)) [
        | inl n ↦ absurd (not_passes (has (reachable A) f.source) n (contains_has (reachable A) f.source r))
        | inr q ↦ elim (or_else_cases (dropped rel (image A lead leaders f)) (λ _.
            some Q.transitions (λ e. same_transition e (image A lead leaders f))) q) [
              | inl drop ↦ absurd (kept (dropped_there rel (image A lead leaders f) drop))
              | inr p ↦ (
                  let at = some_passes Q.transitions (λ e. same_transition e (image A lead leaders f)) p in
                  same_transition_moves (Contains Q.transitions) at.0 (image A lead leaders f) at.2 at.1)
            ]
      ]

  back : (e : Transition) → IsQuotientStep rel A e × ¬ IsDropped rel e → Contains Q.transitions e
  back e ((s, t, path, step, first, last), kept) =
      let f : Transition = record { source = s; label = e.label; target = t } in
      let on = leads_on (AnyStep A) A.first s t path (e.label, step) in
      let p = number_unique rel A block lead leaders same led up s e.source path first in
      let q = number_unique rel A block lead leaders same led up t e.target on last in
      let P : Transition → Type 0 = λ g. ¬ IsDropped rel g → Contains Q.transitions g in
      subst (λ z. P (record { source = e.source; label = e.label; target = z })) q
      (subst (λ z. P (record { source = z; label = e.label; target = number_at A leaders (lead t) })) p
      (listed f step (reachable_has A found s path))) kept

  -- A leader is a state that represents its class. Suppose that the blocks are the classes of bisimilar states, that
  -- the leaders are correct, and that `divides` returns true. Then Q is the quotient of A.
  pub quotient_passes : Quotient rel A Q
  quotient_passes = record {
    states = subst (HowMany (IsLeader rel A)) (eqb-true (length leaders) Q.states one.0)
        (leader_count rel A block lead leaders same led up);
    first = eqb-true Q.first 0 two.0;
    transitions = λ e. (there e, back e);
    once = all_differ_passes Q.transitions four.1;
  }
