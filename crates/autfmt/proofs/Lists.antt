-- This file contains general lemmas about lists, about prefixes of lists, and about two lists that are related element
-- by element.
use Rattle.std.proofs.Common.{rules, ◌≡◌, ℕ, ◌+◌, ◌-◌, ◌≤◌, List, [], ◌∷◌, ◌++◌, All, length, take, drop, refl, ap₂}
use Rattle.std.proofs.Common.{arith}
use Rattle.std.proofs.lemmas.List.{append_assoc, take-append-drop, take_rest, take-take, length-take-le}
use Rattle.std.specs.List.{AllZip}
use Rattle.std.proofs.lemmas.List.Elements.{All-nil, All-cons}
use Rattle.std.proofs.Math.Seq.{take-append-add}

-- Suppose that a list consists of the parts `front` and `rest`. Then the list stays the same if the first n elements of
-- `rest` are moved to the end of `front`.
pub front_more : {A : Type 0} → (front rest all : List A) (n : ℕ) → all ≡ front ++ rest →
    all ≡ front ++ take n rest ++ take (length rest - n) (drop n rest)
front_more front rest all n is = grind (arith, take-append-drop, append_assoc, take_rest)

-- Suppose that the list `run` was written into a list from the index `at` on. Then the elements of the new list from
-- the index `at` on begin with the first n elements of `run`.
pub begins_with : {A : Type 0} → (at n : ℕ) (run old new : List A) → at ≤ length old → n ≤ length run →
    take (at + length run) new ≡ take at old ++ run → take (at + n) new ≡ take at old ++ take n run
begins_with at n run old new room short is =
    let size = length-take-le at old room in
    let some = take-take (at + n) (at + length run) new (omega arith) in
    cc (take-append-add (take at old) run n)

-- Suppose that an element has the property P if the relation R relates it to some element. Suppose also that R relates
-- two lists element by element. Then each element of the first list has the property P.
pub AllZip-firsts : {A B : Type 0} (R : A → B → Type 0) (P : A → Type 0) → ((x : A) (y : B) → R x y → P x) →
    (xs : List A) (ys : List B) → AllZip R xs ys → All P xs
AllZip-firsts R P each [] ys zipped = All-nil P
AllZip-firsts R P each (a ∷ xs) [] zipped = absurd zipped
AllZip-firsts R P each (a ∷ xs) (b ∷ ys) zipped = search (rules, All-cons, (AllZip-firsts R P each xs ys zipped.1))

-- Suppose that two elements are equal if the relation R relates an element to the first of them, and the relation S
-- relates the same element to the second of them. Suppose also that R relates a list, element by element, to the list
-- ys, and that S relates the same list to the list zs. Then ys and zs are equal.
pub AllZip-unique :
    {A B : Type 0} (R S : A → B → Type 0) → ((x : A) (y z : B) → R x y → S x z → y ≡ z) →
    (xs : List A) (ys zs : List B) → AllZip R xs ys → AllZip S xs zs → ys ≡ zs
AllZip-unique R S one [] [] [] a b = refl
AllZip-unique R S one (x ∷ xs) (y ∷ ys) (z ∷ zs) a b =
    ap₂ ◌∷◌ (one x y z a.0 b.0) (AllZip-unique R S one xs ys zs a.1 b.1)
AllZip-unique R S one xs ys zs a b = grind arith
