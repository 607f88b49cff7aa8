-- Lemmas about embeddings of one system in another system. An embedding maps each state to its image, so that the steps
-- of the state correspond to the steps of the image. Therefore two states are bisimilar if and only if their images are
-- bisimilar.
use Rattle.std.proofs.Common.{◌≡◌, ℕ, ◌<◌, List, [], ◌∷◌, Contains, refl, sym, ap, subst, subst₂, inl, inr}
use Rattle.theory.specs.System.{System, IsSystem, Step, Internal, Along, Silent, internal}
use Rattle.theory.specs.Bisimulation.{Matches, IsBisimulation, Pairs, Converse, Bisimilar}
use Rattle.theory.specs.declared.relation.Relation.{Relation}
use Rattle.theory.specs.declared.relation.Relation.TheVariants.{Strong, Branching}
use Rattle.theory.proofs.Paths.{leads_step, leads_append, leads_answered, step_below}
use Rattle.theory.proofs.Deciding.{same_number, below, both, some_in}
use Rattle.theory.proofs.Bisimulations.{pairs_decided, bisimilar_by}

-- `Embeds` holds if the function f embeds the system A in the system U. This means that all three of the following
-- conditions hold. First, f maps each state of A to a state of U, which is called its image. Second, for each step of A
-- from a state s to a state t, U has a step from the image of s to the image of t with the same label. Third, for each
-- step of U from the image of a state s of A, A has a step from s with the same label to some state t, and the step of
-- U leads to the image of t.
pub record Embeds (A U : System) (f : ℕ → ℕ) : Type 0 where
  pub below : (s : ℕ) → s < A.states → f s < U.states
  pub there : (s : ℕ) (a : List ℕ) (t : ℕ) → Step A s a t → Step U (f s) a (f t)
  pub back : (s : ℕ) → s < A.states → (a : List ℕ) (y : ℕ) → Step U (f s) a y → (t : ℕ) × Step A s a t × (y ≡ f t)

-- The identity embeds every system in itself (`Embeds`): each state is its own image.
pub embeds_itself : (A : System) → Embeds A A (λ s. s)
embeds_itself A = record {
  below = λ s l. l;
  there = λ s a t step. step;
  back = λ s l a y step. (y, step, refl);
}

module _ (B V : System) (g : ℕ → ℕ) (embeds : Embeds B V g) where
  -- Let g embed the system B in the system V (`Embeds`), so that the steps of a state of B correspond to the steps of
  -- its image in V. If a silent path of B leads from the state s to the state t, then a silent path of V leads from the
  -- image of s to the image of t.
  silent_there : (s t : ℕ) → Silent B s t → Silent V (g s) (g t)
  silent_there s t path = go s path.0 path.1
    where
      go : (s : ℕ) (us : List ℕ) → Along (Internal B) s us t → Silent V (g s) (g t)
      go s [] same = ([], ap g same)
      go s (u ∷ us) way =
          leads_append (Internal V) (g s) (g u) (g t)
          (leads_step (Internal V) (g s) (g u) (embeds.there s internal u way.0)) (go u us way.1)

  -- Let g embed the system B in the system V (`Embeds`), so that the steps of a state of B correspond to the steps of
  -- its image in V. Suppose that a silent path of V leads from the image of the state s to the state y. Then y is the
  -- image of some state t, and a silent path of B leads from s to t.
  silent_back : IsSystem B → (s y : ℕ) → s < B.states → Silent V (g s) y
      → (t : ℕ) × Silent B s t × ((t < B.states) × (y ≡ g t))
  silent_back system s y low path =
      leads_answered (Internal V) (Internal B) (λ y t. (t < B.states) × (y ≡ g t))
      (λ x y t step tied.
      let h = embeds.back t tied.0 internal y (subst (λ z. Step V z internal y) tied.1 step) in
      (h.0, leads_step (Internal B) t h.0 h.1, ((step_below B system t internal h.0 h.1).1, h.2)))
      (g s) y s path (low, refl)

module _ (A U B V : System) (f g : ℕ → ℕ) (one : Embeds A U f) (other : Embeds B V g) (R Q : ℕ → ℕ → Type 0) where
  -- Let f embed the system A in the system U, and let g embed the system B in the system V (`Embeds`), so that the
  -- steps of a state correspond to the steps of its image. Suppose that the relation Q relates the images of any two
  -- states that the relation R relates. If the state t of B matches the steps of the state s of A with respect to R,
  -- then the image of t matches the steps of the image of s with respect to Q.
  answers_there : (rel : Relation) → ((s t : ℕ) → R s t → Q (f s) (g t))
      → (s t : ℕ) → s < A.states → Matches rel A B R s t → Matches rel U V Q (f s) (g t)
  answers_there Strong into s t low answers = λ a x step.
      let h = one.back s low a x step in
      let found = answers a h.0 h.1 in
      (g found.0, other.there t a found.0 found.1, subst (λ z. Q z (g found.0)) (sym h.2) (into h.0 found.0 found.2))
  answers_there Branching into s t low answers = λ a x step.
      let h = one.back s low a x step in
      elim (answers a h.0 h.1) [
        | inl rests ↦ inl (rests.0, subst (λ z. Q z (g t)) (sym h.2) (into h.0 t rests.1))
        | inr goes ↦ inr (
          g goes.0,
          g goes.1,
          silent_there B V g other t goes.0 goes.2,
          other.there goes.0 a goes.1 goes.3,
          into s goes.0 goes.4,
          subst (λ z. Q z (g goes.1)) (sym h.2) (into h.0 goes.1 goes.5),
        )
      ]

  -- Let f embed the system A in the system U, and let g embed the system B in the system V (`Embeds`), so that the
  -- steps of a state correspond to the steps of its image. Suppose that the relation R relates any two states whose
  -- images are related by the relation Q. If the image of the state t of B matches the steps of the image of the state
  -- s of A with respect to Q, then t matches the steps of s with respect to R.
  answers_back : (rel : Relation) → IsSystem A → IsSystem B
      → ((s t : ℕ) → s < A.states → t < B.states → Q (f s) (g t) → R s t)
      → (s t : ℕ) → s < A.states → t < B.states → Matches rel U V Q (f s) (g t) → Matches rel A B R s t
  answers_back Strong sys sys' from s t low low' answers = λ a s' step.
      let found = answers a (f s') (one.there s a s' step) in
      let h = other.back t low' a found.0 found.1 in
      let below' = (step_below A sys s a s' step).1 in
      (h.0, h.1, from s' h.0 below' (step_below B sys' t a h.0 h.1).1 (subst (λ z. Q (f s') z) h.2 found.2))
  answers_back Branching sys sys' from s t low low' answers = λ a s' step.
      let below' = (step_below A sys s a s' step).1 in
      elim (answers a (f s') (one.there s a s' step)) [
        | inl rests ↦ inl (rests.0, from s' t below' low' rests.1)
        | inr goes ↦
            let near = silent_back B V g other sys' t goes.0 low' goes.2 in
            let h = other.back near.0 near.2.0 a goes.1 (subst (λ z. Step V z a goes.1) near.2.1 goes.3) in
            inr (
              near.0,
              h.0,
              near.1,
              h.1,
              from s near.0 low near.2.0 (subst (λ z. Q (f s) z) near.2.1 goes.4),
              from s' h.0 below' (step_below B sys' near.0 a h.0 h.1).1 (subst (λ z. Q (f s') z) h.2 goes.5),
            )
      ]

module _ (rel : Relation) (A U B V : System) (f g : ℕ → ℕ) (one : Embeds A U f) (other : Embeds B V g)
    (pairs : List (ℕ × ℕ)) where
  -- The function f maps states of the system A to their images in the system U, and g maps states of the system B to
  -- their images in the system V. `Image` holds for x and y if the list `pairs` contains a pair (s, t) such that x is
  -- the image of s, and y is the image of t.
  abbrev Image : ℕ → ℕ → Type 0
  Image x y = (p : ℕ × ℕ) × Contains pairs p × ((f p.0 ≡ x) × (g p.1 ≡ y))

  image_decided : (x y : ℕ) → Dec (Image x y)
  image_decided x y =
      some_in (λ p. (f p.0 ≡ x) × (g p.1 ≡ y)) (λ p. both (same_number (f p.0) x) (same_number (g p.1) y)) pairs

  into : (s t : ℕ) → Pairs pairs s t → Image (f s) (g t)
  into s t c = ((s, t), c, (refl, refl))

  image_bisimulation : IsBisimulation rel A B (Pairs pairs) → IsBisimulation rel U V Image
  image_bisimulation meets = record {
    states = λ x y (p, c, (ex, ey)).
        let at = meets.states p.0 p.1 c in
        (subst (λ z. z < U.states) ex (one.below p.0 at.0), subst (λ z. z < V.states) ey (other.below p.1 at.1));
    forth = λ x y (p, c, (ex, ey)).
        subst₂ (Matches rel U V Image) ex ey
        (answers_there A U B V f g one other (Pairs pairs) Image rel into p.0 p.1 (meets.states p.0 p.1 c).0
        (meets.forth p.0 p.1 c));
    back = λ x y (p, c, (ex, ey)).
        subst₂ (Matches rel V U (Converse Image)) ey ex
        (answers_there B V A U g f other one (Converse (Pairs pairs)) (Converse Image) rel (λ t s. into s t)
        p.1 p.0 (meets.states p.0 p.1 c).1 (meets.back p.0 p.1 c));
  }

  -- The function f maps states of the system A to their images in the system U, and g maps states of the system B to
  -- their images in the system V. `Beneath` holds for a state s of A and a state t of B if the list `pairs` contains
  -- the pair of their images.
  abbrev Beneath : ℕ → ℕ → Type 0
  Beneath s t = (s < A.states) × ((t < B.states) × Pairs pairs (f s) (g t))

  beneath_decided : (s t : ℕ) → Dec (Beneath s t)
  beneath_decided s t = both (below s A.states) (both (below t B.states) (pairs_decided pairs (f s) (g t)))

  beneath_bisimulation : IsSystem A → IsSystem B → IsBisimulation rel U V (Pairs pairs) → IsBisimulation rel A B Beneath
  beneath_bisimulation sys sys' meets = record {
    states = λ s t h. (h.0, h.1.0);
    forth = λ s t h.
        answers_back A U B V f g one other Beneath (Pairs pairs) rel sys sys' (λ x y l l' c. (l, (l', c)))
        s t h.0 h.1.0 (meets.forth (f s) (g t) h.1.1);
    back = λ s t h. answers_back B V A U g f other one (Converse Beneath) (Converse (Pairs pairs)) rel sys' sys
        (λ y x l' l c. (l, (l', c)))
        t s h.1.0 h.0 (meets.back (f s) (g t) h.1.1);
  }

module _ (rel : Relation) (A U B V : System) (f g : ℕ → ℕ) (one : Embeds A U f) (other : Embeds B V g) (s t : ℕ) where
  -- Let f embed the system A in the system U, and let g embed the system B in the system V (`Embeds`), so that the
  -- steps of a state correspond to the steps of its image. If a state of A and a state of B are bisimilar, then their
  -- images are bisimilar.
  pub bisimilar_there : Bisimilar rel A s B t → Bisimilar rel U (f s) V (g t)
  bisimilar_there (pairs, meets, c) =
      bisimilar_by rel U V (Image rel A U B V f g one other pairs) (image_decided rel A U B V f g one other pairs)
      (image_bisimulation rel A U B V f g one other pairs meets) (f s) (g t) ((s, t), c, (refl, refl))

  -- Let f embed the system A in the system U, and let g embed the system B in the system V (`Embeds`), so that the
  -- steps of a state correspond to the steps of its image. If the images of a state of A and a state of B are
  -- bisimilar, then the two states are bisimilar.
  pub bisimilar_back : IsSystem A → IsSystem B → s < A.states → t < B.states
      → Bisimilar rel U (f s) V (g t) → Bisimilar rel A s B t
  bisimilar_back sys sys' low low' (pairs, meets, c) =
      bisimilar_by rel A B (Beneath rel A U B V f g one other pairs) (beneath_decided rel A U B V f g one other pairs)
      (beneath_bisimulation rel A U B V f g one other pairs sys sys' meets) s t (low, (low', c))
