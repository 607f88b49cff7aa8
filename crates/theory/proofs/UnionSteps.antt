-- Lemmas about the steps of the disjoint union of two systems. Both systems are embedded in the union, and the union
-- has no other states and steps.
use Rattle.std.proofs.Common.{◌≡◌, ◌⊎◌, ℕ, ◌+◌, List, map, Contains, refl, sym, ap, subst, ◌∙◌, inl, inr, arith}
use Rattle.std.proofs.lemmas.List.{length-map, get_or-map}
use Rattle.std.proofs.lemmas.List.Elements.{All-contains, All-contains_itself, All-weaker, All-map, All-append}
use Rattle.std.proofs.lemmas.List.Elements.{Contains-append_left, Contains-append_right, Contains-append_cases}
use Rattle.theory.specs.System.{System, IsSystem, IsAmong, Transition, Step}
use Rattle.theory.specs.Union.{shifted, union_of}
use Rattle.theory.proofs.Paths.{step_below}
use Rattle.theory.proofs.Embeddings.{Embeds}

-- Let f be a function. If the list xs contains the element x, then the list that results from applying f to each
-- element of xs contains f x. The next lemma states the converse: every element of the resulting list is f x for some
-- element x of xs.
contains_image : {X Y : Type 0} (f : X → Y) (xs : List X) (x : X) → Contains xs x → Contains (map f xs) (f x)
contains_image f xs x c = (c.0, omega (arith, c.1, length-map xs f), get_or-map f xs c.0 x (f x) c.1 ∙ ap f c.2)

image_contains : {X Y : Type 0} (f : X → Y) (xs : List X) (y : Y) → Contains (map f xs) y →
    (x : X) × Contains xs x × (f x ≡ y)
image_contains {X} {Y} f xs y c =
    let P : Y → Type 0 = λ z. (x : X) × Contains xs x × (f x ≡ z) in
    All-contains P (map f xs) y (All-map P f xs (All-weaker (Contains xs) (λ x. P (f x)) (λ x d. (x, d, refl)) xs
    (All-contains_itself xs))) c

among_left : (m n : ℕ) (e : Transition) → IsAmong m e → IsAmong (m + n) e
among_left m n e h = record { source = omega (arith, h.source); label = h.label; target = omega (arith, h.target) }

among_right : (m n : ℕ) (e : Transition) → IsAmong n e → IsAmong (m + n) (shifted m e)
among_right m n e h = record { source = omega (arith, h.source); label = h.label; target = omega (arith, h.target) }

module _ (A B : System) where
  -- The union of two well-formed systems is a well-formed system.
  pub union_system : IsSystem A → IsSystem B → IsSystem (union_of A B)
  union_system sys sys' =
      let n : ℕ = A.states + B.states in record {
        first = omega (arith, sys.first);
        transitions =
            All-append (IsAmong n) A.transitions (map (shifted A.states) B.transitions)
            (All-weaker (IsAmong A.states) (IsAmong n) (among_left A.states B.states) A.transitions sys.transitions)
            (All-map (IsAmong n) (shifted A.states) B.transitions
            (All-weaker (IsAmong B.states) (λ e. IsAmong n (shifted A.states e)) (among_right A.states B.states)
            B.transitions sys'.transitions));
      }

  -- `OfRight` holds if the step with the label a from the state s to the state t is the image of a transition of B in
  -- the union. States are numbers, and the number of states of A was added to the source and to the target of this
  -- transition of B.
  abbrev pub OfRight : ℕ → List ℕ → ℕ → Type 0
  OfRight s a t =
      (e : Transition) × Contains B.transitions e × (shifted A.states e ≡ record { source = s; label = a; target = t })

  pub union_step : (s : ℕ) (a : List ℕ) (t : ℕ) → Step (union_of A B) s a t → Step A s a t ⊎ OfRight s a t
  union_step s a t step =
      let e : Transition = record { source = s; label = a; target = t } in
      elim (Contains-append_cases A.transitions (map (shifted A.states) B.transitions) e step) [
        | inl c ↦ inl c
        | inr c ↦ inr (image_contains (shifted A.states) B.transitions e c)
      ]

  pub step_left : (s : ℕ) (a : List ℕ) (t : ℕ) → Step A s a t → Step (union_of A B) s a t
  step_left s a t =
      Contains-append_left A.transitions (map (shifted A.states) B.transitions)
      (record { source = s; label = a; target = t })

  pub step_right : (s : ℕ) (a : List ℕ) (t : ℕ) → Step B s a t → Step (union_of A B) (A.states + s) a (A.states + t)
  step_right s a t step =
      let e : Transition = record { source = s; label = a; target = t } in
      Contains-append_right A.transitions (map (shifted A.states) B.transitions) (shifted A.states e)
      (contains_image (shifted A.states) B.transitions e step)

  -- Each of the systems A and B is embedded in the union of A and B (`Embeds`): each state of A or B has an image in
  -- the union, and the steps of the state correspond to the steps of the image.
  pub embeds_left : Embeds A (union_of A B) (λ s. s)
  embeds_left = record {
    below = λ s l. omega (arith, l);
    there = step_left;
    back = λ s l a y step. elim (union_step s a y step) [
      | inl c ↦ (y, c, refl)
      | inr (e, c, same) ↦ let at : A.states + e.source ≡ s = ap (λ z. z.source) same in absurd (omega (arith, l, at))
    ];
  }

  pub embeds_right : IsSystem A → Embeds B (union_of A B) (λ s. A.states + s)
  embeds_right sys = record {
    below = λ s l. omega (arith, l);
    there = step_right;
    back = λ s l a y step. elim (union_step (A.states + s) a y step) [
      | inl c ↦ absurd (omega (arith, (step_below A sys (A.states + s) a y c).0))
      | inr (e, c, same) ↦
          let at : A.states + e.source ≡ A.states + s = ap (λ z. z.source) same in
          let here : e.source ≡ s = omega (arith, at) in
          let label : e.label ≡ a = ap (λ z. z.label) same in
          let target : A.states + e.target ≡ y = ap (λ z. z.target) same in (
            e.target,
            subst (λ z. Step B s z e.target) label (subst (λ z. Step B z e.label e.target) here c),
            sym target,
          )
    ];
  }
