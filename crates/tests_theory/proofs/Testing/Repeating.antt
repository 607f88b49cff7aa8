-- The functions in this file test whether a list of splits contains exactly the splits that the refinement of a given
-- system makes. Refinement makes splits until a split changes nothing, and this split is the last one.
use Rattle.std.proofs.Common.{◌≡◌, ◌≢◌, ℕ, zero, suc, ◌<◌, ◌≤◌, Bool, true, not, eqb, ltb, ltb-true, List, [], ◌∷◌}
use Rattle.std.proofs.Common.{length, map, slice_index, sym, subst, arith}
use Rattle.std.specs.List.{slice_index_or}
use Rattle.std.proofs.lemmas.Bool.{eqb-true, eq-eqb}
use Rattle.theory.specs.System.{System, IsSystem}
use Rattle.theory.specs.declared.relation.Relation.{Relation}
use Rattle.theory.specs.Blocks.{Split, SameBlocks, OneBlock, After, ChangesNothing, Turns}
use Rattle.tests_theory.proofs.Testing.{and_then, and_then_parts, not_passes, each_below, each_below_passes}
use Rattle.tests_theory.proofs.Testing.{same_answer, same_answer_there, same_answer_back}
use Rattle.tests_theory.proofs.Testing.Systems.{is_system, system_passes}
use Rattle.theory.proofs.CallerLemmas.{same_split, after_is_unique}
use Rattle.tests_theory.proofs.Testing.Signing.{Entry}
use Rattle.tests_theory.specs.Examples.{SplitsBy, RefinesBy, Round}
use Rattle.tests_theory.proofs.Testing.Splitting.{is_split, split_passes, splits_by}

-- `Course` is a record of the refinement of a system: it lists the blocks and the signatures, and states why each split
-- except for the last one changes something. The function `ends_after` checks that a course is correct. The field
-- `blocks` lists the blocks before the first split and after each split. The field `signs` lists, for each split, the
-- signatures of all states. The field `parts` lists, for each split except for the last one, two states that this split
-- separates.
pub record Course : Type 0 where
  pub blocks : List (List ℕ)
  pub signs : List (List (List Entry))
  pub parts : List (ℕ × ℕ)

-- A course lists the blocks and the signatures of each split of a refinement. The function `block_at` returns the block
-- of a state before the split with the index j. The function `signs_at` returns the signature of a state at this split.
-- The function `parts_at` returns two states that this split separates.
abbrev pub block_at : Course → ℕ → ℕ → ℕ
block_at course j = slice_index (slice_index_or course.blocks j [])

abbrev pub signs_at : Course → ℕ → ℕ → List Entry
signs_at course j s = slice_index_or (slice_index_or course.signs j []) s []

abbrev pub parts_at : Course → ℕ → ℕ × ℕ
parts_at course j = slice_index_or course.parts j (0, 0)

-- `parts_two` returns true if the two states in the pair p are separated: they share a block of the partition f, but
-- they do not share a block of the partition g.
abbrev pub parts_two : System → (ℕ → ℕ) → (ℕ → ℕ) → ℕ × ℕ → Bool
parts_two A f g p =
    and_then (ltb p.0 A.states) (λ _. and_then (ltb p.1 A.states) (λ _.
    and_then (eqb (f p.0) (f p.1)) (λ _. not (eqb (g p.0) (g p.1)))))

parts_two_passes :
    (A : System) (f g : ℕ → ℕ) (p : ℕ × ℕ) → parts_two A f g p ≡ true →
    (p.0 < A.states) × (p.1 < A.states) × (f p.0 ≡ f p.1) × (g p.0 ≢ g p.1)
parts_two_passes A f g p h =
    let one = and_then_parts (ltb p.0 A.states) (λ _. and_then (ltb p.1 A.states) (λ _.
    and_then (eqb (f p.0) (f p.1)) (λ _. not (eqb (g p.0) (g p.1))))) h in
    let two = and_then_parts (ltb p.1 A.states) (λ _.
    and_then (eqb (f p.0) (f p.1)) (λ _. not (eqb (g p.0) (g p.1)))) one.1 in
    let three = and_then_parts (eqb (f p.0) (f p.1)) (λ _. not (eqb (g p.0) (g p.1))) two.1 in (
      ltb-true p.0 A.states one.0,
      ltb-true p.1 A.states two.0,
      eqb-true (f p.0) (f p.1) three.0,
      λ e. not_passes (eqb (g p.0) (g p.1)) three.1 (eq-eqb (g p.0) (g p.1) e),
    )

-- `are_same` returns true if f and g divide the states of A into the same blocks.
abbrev pub are_same : System → (ℕ → ℕ) → (ℕ → ℕ) → Bool
are_same A f g = each_below A.states (λ s. each_below A.states (λ t. same_answer (eqb (g s) (g t)) (eqb (f s) (f t))))

are_same_passes : (A : System) (f g : ℕ → ℕ) → are_same A f g ≡ true → SameBlocks A f g
are_same_passes A f g h s t ls lt =
    let test = each_below_passes A.states (λ v. same_answer (eqb (g s) (g v)) (eqb (f s) (f v)))
    (each_below_passes A.states (λ u. each_below A.states (λ v. same_answer (eqb (g u) (g v)) (eqb (f u) (f v)))) h s
    ls)
    t lt in (
      λ e. eqb-true (f s) (f t) (same_answer_there (eqb (g s) (g t)) (eqb (f s) (f t)) test (eq-eqb (g s) (g t) e)),
      λ e. eqb-true (g s) (g t) (same_answer_back (eqb (g s) (g t)) (eqb (f s) (f t)) test (eq-eqb (f s) (f t) e)),
    )

-- `is_one` returns true if all states of A share a block.
abbrev pub is_one : System → (ℕ → ℕ) → Bool
is_one A f = each_below A.states (λ s. each_below A.states (λ t. eqb (f s) (f t)))

is_one_passes : (A : System) (f : ℕ → ℕ) → is_one A f ≡ true → OneBlock A f
is_one_passes A f h s t ls lt =
    eqb-true (f s) (f t) (each_below_passes A.states (λ v. eqb (f s) (f v))
    (each_below_passes A.states (λ u. each_below A.states (λ v. eqb (f u) (f v))) h s ls) t lt)

-- A course is the record of all splits of a refinement: it lists the blocks and the signatures of each split. `runs`
-- returns true if all states share a block before the first split, and the blocks that the course lists after each of
-- the first k splits are correct.
abbrev pub runs : Relation → System → Course → ℕ → Bool
runs rel A course k =
    and_then (is_one A (block_at course 0)) (λ _.
    each_below k (λ j. is_split rel A (block_at course j) (block_at course (suc j)) (signs_at course j)))

runs_is_split :
    (rel : Relation) (A : System) (course : Course) (k : ℕ) → runs rel A course k ≡ true →
    (j : ℕ) → j < k → is_split rel A (block_at course j) (block_at course (suc j)) (signs_at course j) ≡ true
runs_is_split rel A course k h j l =
    each_below_passes k (λ j. is_split rel A (block_at course j) (block_at course (suc j)) (signs_at course j))
    (and_then_parts (is_one A (block_at course 0)) (λ _.
    each_below k (λ j. is_split rel A (block_at course j) (block_at course (suc j)) (signs_at course j))) h).1 j l

runs_split :
    (rel : Relation) (A : System) (course : Course) (k : ℕ) → runs rel A course k ≡ true →
    (j : ℕ) → j < k → Split rel A (block_at course j) (block_at course (suc j))
runs_split rel A course k h j l = split_passes rel A (block_at course j) (block_at course (suc j)) (signs_at course j)
    (runs_is_split rel A course k h j l)

pub runs_after :
    (rel : Relation) (A : System) (course : Course) (k : ℕ) → runs rel A course k ≡ true →
    (j : ℕ) → j ≤ k → After rel A j (block_at course j)
runs_after rel A course k h zero l = is_one_passes A (block_at course 0)
    (and_then_parts (is_one A (block_at course 0)) (λ _.
    each_below k (λ j. is_split rel A (block_at course j) (block_at course (suc j)) (signs_at course j))) h).0
runs_after rel A course k h (suc j) l =
    (block_at course j, runs_after rel A course k h j (omega (arith, l)), runs_split rel A course k h j l)

-- A course is the record of all splits of a refinement: it lists the blocks and the signatures of each split.
-- `ends_after` returns true if refinement makes exactly k + 1 splits, and the course describes these splits correctly.
-- Each of the first k splits separates two states that shared a block, and the last split changes nothing.
abbrev pub ends_after : Relation → System → Course → ℕ → Bool
ends_after rel A course k =
    and_then (is_system A) (λ _. and_then (runs rel A course (suc k)) (λ _.
    and_then (each_below k (λ j. parts_two A (block_at course j) (block_at course (suc j)) (parts_at course j))) (λ _.
    are_same A (block_at course k) (block_at course (suc k)))))

module _ (rel : Relation) (A : System) (course : Course) (k : ℕ) (h : ends_after rel A course k ≡ true) where
  abbrev parted : Bool
  parted = each_below k (λ j. parts_two A (block_at course j) (block_at course (suc j)) (parts_at course j))

  abbrev ended : Bool
  ended = and_then parted (λ _. are_same A (block_at course k) (block_at course (suc k)))

  system_and_rest : (is_system A ≡ true) × (and_then (runs rel A course (suc k)) (λ _. ended) ≡ true)
  system_and_rest = and_then_parts (is_system A) (λ _. and_then (runs rel A course (suc k)) (λ _. ended)) h

  runs_and_rest : (runs rel A course (suc k) ≡ true) × (ended ≡ true)
  runs_and_rest = and_then_parts (runs rel A course (suc k)) (λ _. ended) system_and_rest.1

  parted_and_same : (parted ≡ true) × (are_same A (block_at course k) (block_at course (suc k)) ≡ true)
  parted_and_same =
      and_then_parts parted (λ _. are_same A (block_at course k) (block_at course (suc k))) runs_and_rest.1

  system : IsSystem A
  system = system_passes A system_and_rest.0

  -- The course is the record of all splits. For each split before the last one, the course names two states that this
  -- split separates. So each of these splits changes something.
  each_parts : (j : ℕ) → j < suc k → ¬ ChangesNothing rel A j
  each_parts zero l nothing = nothing
  each_parts (suc j) l (old, new, after, split, same) =
      let low : j < k = omega (arith, l) in
      let p = parts_at course j in
      let two_states = parts_two_passes A (block_at course j) (block_at course (suc j)) p
      (each_below_passes k (λ i. parts_two A (block_at course i) (block_at course (suc i)) (parts_at course i))
      parted_and_same.0 j low) in
      let before = after_is_unique rel A system j (block_at course j) old
      (runs_after rel A course (suc k) runs_and_rest.0 j (omega (arith, l))) after in
      let behind = same_split rel A system (block_at course j) (block_at course (suc j)) old new
      (runs_split rel A course (suc k) runs_and_rest.0 j (omega (arith, l))) split before in
      let share = (before p.0 p.1 two_states.0 two_states.1).1 two_states.2 in
      let still = (same p.0 p.1 two_states.0 two_states.1).1 share in
      two_states.3 ((behind p.0 p.1 two_states.0 two_states.1).0 still)

  turns_pass : Turns rel A (suc k)
  turns_pass = record {
    last = (
      block_at course k,
      block_at course (suc k),
      runs_after rel A course (suc k) runs_and_rest.0 k (omega arith),
      runs_split rel A course (suc k) runs_and_rest.0 k (omega arith),
      are_same_passes A (block_at course k) (block_at course (suc k)) parted_and_same.1,
    );
    least = each_parts;
  }

  -- For each split, the blocks and the signatures that the course (the record of all splits) lists are correct.
  course_splits : (j : ℕ) → j < suc k → SplitsBy rel A
      (slice_index_or course.blocks j []) (slice_index_or course.signs j []) (slice_index_or course.blocks (suc j) [])
  course_splits j l = splits_by rel A
      (slice_index_or course.blocks j []) (slice_index_or course.signs j []) (slice_index_or course.blocks (suc j) [])
      (runs_is_split rel A course (suc k) runs_and_rest.0 j l)

-- `course_of` builds a course, which is a record of all splits of a refinement. The list `first` contains the blocks
-- before the first split. The list `rounds` contains, for each split, the signatures of all states and the blocks after
-- the split. The list `parts` contains, for each split except for the last one, two states that this split separates.
abbrev pub course_of : List ℕ → List Round → List (ℕ × ℕ) → Course
course_of first rounds parts =
    record { blocks = first ∷ map (λ r. r.1) rounds; signs = map (λ r. r.0) rounds; parts = parts }

-- A round is given by the signatures of all states and by the blocks after the round. If the function `ends_after`,
-- which checks a list of rounds, returns true, then refinement consists of exactly these rounds.
pub refines_by :
    (rel : Relation) (A : System) (first : List ℕ) (rounds : List Round) (parts : List (ℕ × ℕ)) (k : ℕ) →
    length rounds ≡ suc k → ends_after rel A (course_of first rounds parts) k ≡ true → RefinesBy rel A first rounds
refines_by rel A first rounds parts k long h = record {
  one = runs_after rel A course (suc k) (runs_and_rest rel A course k h).0 0 (omega arith);
  splits = λ j l. course_splits rel A course k h j (subst (λ n. j < n) long l);
  turns = subst (Turns rel A) (sym long) (turns_pass rel A course k h);
}
  where
    course : Course
    course = course_of first rounds parts
