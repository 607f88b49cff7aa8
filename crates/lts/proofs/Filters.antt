-- Lemmas about filtered lists and mapped lists: their elements and their lengths, and the result of filtering a list
-- that was filtered or mapped before. The last lemma is about the first elements of a list.
use Rattle.std.proofs.Common.{get_or, ◌≡◌, Bool, true, List, [], ◌∷◌, map, Contains, refl, ap, ◌∙◌, arith, rules, ℕ}
use Rattle.std.proofs.Common.{◌+◌, ◌<◌, ◌≤◌, ◌↔◌, false, cond, ◌&&◌, length, filter, All, take, drop, ◌-◌, ◌++◌}
use Rattle.std.specs.List.{slice_range}
use Rattle.std.proofs.lemmas.{Bool.cond_both, Bool.cond-true, Bool.cond-false, Bool.cases_Bool, List.length-map}
use Rattle.std.proofs.lemmas.{List.get_or-map, List.places, List.same_lists, List.append-nil, List.Edits.split_between}
use Rattle.std.proofs.lemmas.List.Elements.{Contains-get_or, All-contains, All-contains_itself, All-map, All-filter}
use Rattle.std.proofs.lemmas.List.Elements.{filter_passes, All-head, All-tail, filter-append}
use Rattle.theory.proofs.CallerLemmas.{contains_here, contains_there, contains_cases, contains_none}

-- If the list xs contains the element x, then the list that results from applying the function f to each element of xs
-- contains f x.
pub contains_mapped : {X Y : Type 0} (f : X → Y) (xs : List X) (x : X) → Contains xs x → Contains (map f xs) (f x)
contains_mapped f xs x c = (c.0, omega (arith, c.1, length-map xs f), get_or-map f xs c.0 x (f x) c.1 ∙ ap f c.2)

pub mapped_contains : {X Y : Type 0} (f : X → Y) (xs : List X) (y : Y) → Contains (map f xs) y →
    (x : X) × Contains xs x × (f x ≡ y)
mapped_contains {X} {Y} f xs y c = let P : Y → Type 0 = λ z. (x : X) × Contains xs x × (f x ≡ z) in
    All-contains P (map f xs) y (All-map P f xs (λ k d l. (get_or xs k d, Contains-get_or xs k d l, refl))) c

-- If the list xs contains the element x, and the property p holds for x, then the list xs filtered by p contains x.
pub contains_passing : {X : Type 0} (p : X → Bool) (xs : List X) (x : X) → Contains xs x → p x ≡ true →
    Contains (filter p xs) x
contains_passing p [] x c h = absurd (contains_none x c)
contains_passing p (y ∷ xs) x c h =
    let rest = contains_passing p xs x in let there = contains_there y (filter p xs) x in
    cond_both (p y) (y ∷ filter p xs) (filter p xs) (λ l. Contains l x)
    (λ e. grind (arith, contains_cases y xs x c, rest, h, contains_here y (filter p xs), there))
    (λ e. grind (arith, contains_cases y xs x c, rest, h, e))

pub passing_contains : {X : Type 0} (p : X → Bool) (xs : List X) (x : X) → Contains (filter p xs) x →
    Contains xs x × (p x ≡ true)
passing_contains p xs x c = (
  All-contains (Contains xs) (filter p xs) x (All-filter p (Contains xs) xs (All-contains_itself xs)) c,
  All-contains (λ y. p y ≡ true) (filter p xs) x (filter_passes p xs) c,
)

-- Returns 1 for true, and 0 for false.
abbrev pub ones : Bool → ℕ
ones b = cond b 1 0

-- Let p, q and r be properties. Suppose that an element has the property p if and only if it has the property q or the
-- property r, and that no element has both q and r. Then the length of the list filtered by p is the sum of the lengths
-- of the lists filtered by q and by r.
pub length-filter-sum : {X : Type 0} (p q r : X → Bool) → ((x : X) → ones (p x) ≡ ones (q x) + ones (r x)) →
    (xs : List X) → length (filter p xs) ≡ length (filter q xs) + length (filter r xs)
length-filter-sum p q r h [] = omega arith
length-filter-sum p q r h (x ∷ xs) = search (rules, length-filter-sum p q r h xs)

pub filter-none : {X : Type 0} (p : X → Bool) (xs : List X) → All (λ x. p x ≡ false) xs → filter p xs ≡ []
filter-none p [] h = refl
filter-none p (x ∷ xs) h = search (rules, cond-false, All-head, filter-none p xs, All-tail)

pub filter-whole : {X : Type 0} (p : X → Bool) (xs : List X) → All (λ x. p x ≡ true) xs → filter p xs ≡ xs
filter-whole p [] h = refl
filter-whole p (x ∷ xs) h = search (rules, cond-true, All-head, filter-whole p xs, All-tail)

-- Suppose that a is at most b, that b is at most the length of a list, and that exactly the elements of the list at the
-- indices k with a <= k < b have the property p. Then filtering the list by p results in the list of these elements.
pub filter-slice : {X : Type 0} (p : X → Bool) (xs : List X) (a b : ℕ) → a ≤ b → b ≤ length xs →
    ((k : ℕ) (d : X) → k < length xs → (p (get_or xs k d) ≡ true) ↔ ((a ≤ k) × (k < b))) →
    filter p xs ≡ slice_range xs a b
filter-slice p xs a b low high each =
    let before : filter p (take a xs) ≡ [] = filter-none p _
    (λ k d h. grind (arith, places, cases_Bool (p (get_or xs k d)), each k d)) in
    let within : filter p (slice_range xs a b) ≡ slice_range xs a b = filter-whole p _
    (λ k d h. grind (arith, places, each (a + k) d)) in
    let behind : filter p (drop b xs) ≡ [] = filter-none p _
    (λ k d h. grind (arith, places, cases_Bool (p (get_or xs (b + k) d)), each (b + k) d)) in
    ap (filter p) (split_between xs a b low) ∙ simp (filter-append, before, within, behind, append-nil)

-- Filtering a list by the property q and then by the property p keeps exactly the elements that have both properties.
pub filter-filter : {X : Type 0} (p q r : X → Bool) → ((x : X) → r x ≡ (q x && p x)) → (xs : List X) →
    filter p (filter q xs) ≡ filter r xs
filter-filter p q r h [] = refl
filter-filter p q r h (x ∷ xs) = search (rules, filter-filter p q r h xs)

-- Let f be a function, and let p be a property. Suppose that f is applied to each element of a list, and that the
-- result is filtered by p. The same list results if first only the elements x for which p (f x) holds are kept, and f
-- is then applied to each of them.
pub filter-map : {X Y : Type 0} (p : Y → Bool) (f : X → Y) (xs : List X) →
    filter p (map f xs) ≡ map f (filter (λ x. p (f x)) xs)
filter-map p f [] = refl
filter-map p f (x ∷ xs) = search (rules, filter-map p f xs)

-- If i is at most j, the first j elements of a list are the first i elements, followed by the elements at the indices k
-- with i <= k < j.
pub take-split : {X : Type 0} (i j : ℕ) (xs : List X) → i ≤ j → take j xs ≡ take i xs ++ take (j - i) (drop i xs)
take-split i j xs h = same_lists _ _ (search (rules, places)) (λ k d l. grind (arith, places))
