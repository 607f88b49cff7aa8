-- A list is stored in two parts: its base, which is a list of pairs that several lists can share, and its extra pairs,
-- which are all other pairs of the list. The bases are stored in a separate store, which is called the trie. Some
-- lemmas show when two lists that are stored in this way are equal. Other lemmas show that the stored lists stay the
-- same if lists are added to the trie, or if a list is appended to the table of lists. The last lemmas are about the
-- union of several lists: the bases of the lists are united, and the extra pairs of the lists are collected. Collected
-- pairs that are already in the base of the union are removed.
use Rattle.std.proofs.Common.{refl, Contains, ap, inl, inr, arith, All, ◌+◌, filter, Option, None, Some, rules, ◌≡◌}
use Rattle.std.proofs.Common.{get_or-append-add, length-append, ◌∙◌, ◌⊎◌, ◌↔◌, ℕ, ◌<◌, ◌≤◌, List, [], ◌∷◌, ◌++◌, length}
use Rattle.std.proofs.{lemmas.List.get_or_append_left, lemmas.List.nil_from_length, Common.slice_index, Common.IfSome}
use Rattle.signatures.proofs.Ascending.{is_lacking, passing_has, merged_nil, merged_has, merged_ascending}
use Rattle.signatures.proofs.Ascending.{ascending_unique, has_pair}
use Rattle.std.proofs.lemmas.Bool.{cases_lt, cases_Bool, cases_eq}
use Rattle.std.proofs.lemmas.List.{get_or-append_right, length-map, length_push, map-append, get_or-map}
use Rattle.std.specs.{Set.is_member, Ordering.eq_by_cmp, List.Sorted.IsStrictlySortedBy}
use Rattle.std.proofs.lemmas.List.Elements.{All-push, All-weaker, All-contains, All-map}
use Rattle.signatures.specs.Lists.{pair_cmp, list_at, merged, AreLists, Grow, HasOne}
use Rattle.signatures.specs.Extensions.{Includes, extension_at, extended, IsExtension, extended_lists, AreExtended}
use Rattle.signatures.specs.Extensions.{TableGrows, ShareNone, OneHas, HasBase, HasExtra}
use Rattle.signatures.specs.{Nodes.AreStored, declared.nodes.TheConstants.MOST_LISTS, declared.table.Table.Table}
use Rattle.signatures.specs.{Hashed.tag_of, Hashed.AreDifferent, Hashed.IsNewList, Unions.Unites}
use Rattle.signatures.proofs.Storing.{Grow-same, map_same, list-old, list-new}
use Rattle.signatures.proofs.Uniting.{SomeBelow, up_to_more, unites_is_merged}
use Rattle.std_collections.proofs.SortedSets.{length_union}

-- A list is stored in two parts: its base, which is a list of pairs that several lists can share, and its extra pairs,
-- which are all other pairs of the list. The bases are stored in a separate store, which is called the trie. Suppose
-- that lists are added to the trie. Then each list that is stored in this way contains the same pairs as before. The
-- base of each such list is still in the trie, and the extra pairs are still not in the base (`IsExtension`).
module _ {old new : List (List (ℕ × ℕ))} (grow : Grow old new) where
  pub extended-grow : (x : ℕ × List (ℕ × ℕ)) → IsExtension old x → extended new x ≡ extended old x
  extended-grow x is = ap (λ l. merged l x.1) (grow.same x.0 is.base)

  pub IsExtension-grow : (x : ℕ × List (ℕ × ℕ)) → IsExtension old x → IsExtension new x
  IsExtension-grow x is =
      let base : x.0 < length new = omega (arith, is.base, grow.longer) in
      record { base = base; ascending = is.ascending; apart = rw (grow.same x.0 is.base) is.apart }

  pub lists-grow : (extensions : List (ℕ × List (ℕ × ℕ))) → All (IsExtension old) extensions →
      extended_lists new extensions ≡ extended_lists old extensions
  lists-grow extensions each =
      map_same (extended new) (extended old) extensions (λ k x low. extended-grow _ (each k x low))

  pub AreExtended-grow : (extensions : List (ℕ × List (ℕ × ℕ))) (tags : List ℕ) → AreExtended old extensions tags →
      AreExtended new extensions tags
  AreExtended-grow extensions tags are = search (rules, IsExtension-grow, lists-grow)

  pub Grow-lists : (extensions : List (ℕ × List (ℕ × ℕ))) → All (IsExtension old) extensions →
      Grow (extended_lists old extensions) (extended_lists new extensions)
  Grow-lists extensions each = rw (lists-grow extensions each) (Grow-same _)

  -- The table stores lists, and the trie stores the parts that several of these lists can share. The condition
  -- `AreExtended` states that the table and the trie fit together. Suppose that lists are added to the trie. Suppose
  -- also that every list of the old table is in the new table, with the same ID, and that the new table satisfies
  -- `AreExtended` with the old trie. Then the new table satisfies `AreExtended` with the new trie, and each list of the
  -- old table contains the same pairs as before (`TableGrows`).
  pub TableGrows-from : (before after : Table) {extensions : List (ℕ × List (ℕ × ℕ))} {tags : List ℕ}
      → after.extensions ≡ extensions → after.buckets.tags ≡ tags → AreExtended old extensions tags
      → Grow (extended_lists old before.extensions) (extended_lists old extensions) → TableGrows old new before after
  TableGrows-from before after same same' are lists = search (rules, same, same', AreExtended-grow, grow, lists-grow)

-- A list is stored in two parts: its base, which is a list of pairs that several lists can share, and its extra pairs,
-- which are all other pairs of the list. Suppose that two lists have the same base. Then the two lists are equal if and
-- only if their extra pairs are equal.
pub same_base : (trie : List (List (ℕ × ℕ))) (x y : ℕ × List (ℕ × ℕ)) → IsExtension trie x
    → IsExtension trie y → x.0 ≡ y.0 → (x.1 ≡ y.1) ↔ (extended trie x ≡ extended trie y)
same_base trie x y is is' e = (
  λ f. cc,
  λ f. ascending_unique _ _ is.ascending is'.ascending (λ z.
      let one = merged_has z (list_at trie x.0) x.1 in
      let two = merged_has z (list_at trie y.0) y.1 in
      grind (arith, one, two, f, e, is.apart z, is'.apart z)),
)

-- A list is stored in two parts: its base, which is a list of pairs that several lists can share, and its extra pairs,
-- which are all other pairs of the list. Let x be a list that is stored in this way. Suppose that a list of the trie,
-- which stores the bases, contains exactly the pairs of the base of x and the extra pairs of x. Then this list of the
-- trie is equal to the list x.
pub whole_is : (trie new : List (List (ℕ × ℕ))) (x : ℕ × List (ℕ × ℕ)) (i : ℕ) → AreStored trie → AreStored new
    → IsExtension trie x → i < length new
    → Unites (list_at new i) x.1 (list_at trie x.0) → list_at new i ≡ extended trie x
whole_is trie new x i stored stored' is low unites =
    unites_is_merged _ x.1 _ (stored'.ascending i [] low) is.ascending (stored.ascending x.0 [] is.base) unites

-- The table stores lists, and the trie stores the parts that several of these lists can share. These lemmas assume that
-- all lists of the table are stored correctly (`AreExtended`).
module _ {trie : List (List (ℕ × ℕ))} {extensions : List (ℕ × List (ℕ × ℕ))} {tags : List ℕ}
    (are : AreExtended trie extensions tags) where
  -- Each list of the table has a tag, which is a hash of 32 bits. The number of tags equals the number of lists.
  pub tags_size : length tags ≡ length extensions
  tags_size = search (rules, are.tagged, length-map)

  first_is : list_at trie 0 ≡ [] → list_at (extended_lists trie extensions) 0 ≡ []
  first_is none = search (rules, get_or-map, are.first, merged_nil, none)

  -- Suppose that the list with the ID 0 in the trie is empty. Suppose also that a list is not empty and is not in the
  -- table yet. If this list is appended to the table, and its tag (a hash of 32 bits) is appended to the tags, all
  -- lists of the table are still stored correctly. In particular, no two of these lists are equal.
  pub AreExtended-push : (x : ℕ × List (ℕ × ℕ)) (tag : ℕ) → IsExtension trie x → list_at trie 0 ≡ []
      → (extended trie x ≡ [] → ⊥) → IsNewList (extended_lists trie extensions) (extended trie x)
      → tag ≡ tag_of (extended trie x) → AreExtended trie (extensions ++ x ∷ []) (tags ++ tag ∷ [])
  AreExtended-push x tag is none some absent tagged =
      let longer = length_push extensions x in
      let filled = are.some in
      let empty = first_is none in
      record {
        each = All-push (IsExtension trie) extensions x are.each is;
        some = omega arith;
        first = get_or_append_left extensions (x ∷ []) (0, []) 0 are.some ∙ are.first;
        different = let old = are.different in
            rw map-append (search (rules, old, cases_eq, cases_lt, empty, length_push, list-old, list-new));
        tagged = simp (are.tagged, tagged, map-append);
      }

  -- Suppose that the lists of the trie are stored correctly (`AreStored`), and that the table has at most 2^32 - 1
  -- lists (`MOST_LISTS`). Then no two lists of the table are equal, and each list of the table is in strictly ascending
  -- order (`AreLists`).
  pub AreLists-extended : AreStored trie → length tags ≤ MOST_LISTS → AreLists (extended_lists trie extensions)
  AreLists-extended stored few =
      let ascending : All (IsStrictlySortedBy pair_cmp) (extended_lists trie extensions) =
      All-map (IsStrictlySortedBy pair_cmp) (extended trie) extensions (All-weaker (IsExtension trie) _
      (λ x is. merged_ascending _ _ (stored.ascending x.0 [] is.base) is.ascending) extensions are.each) in
      search (rules, length-map, tags_size, first_is, stored, are)

-- A list is stored in two parts: its base, which is a list of pairs that several lists can share, and its extra pairs,
-- which are all other pairs of the list. The base with the ID 0 is the empty list. Suppose that the base of a list has
-- another ID, or that the list has extra pairs. Then the list is not empty.
pub extended_some : (trie : List (List (ℕ × ℕ))) (x : ℕ × List (ℕ × ℕ)) → AreStored trie → AreDifferent trie
    → IsExtension trie x → (x.0 ≡ 0 → x.1 ≡ [] → ⊥) → extended trie x ≡ [] → ⊥
extended_some trie x stored different is some e =
    let longer = length_union pair_cmp (list_at trie x.0) x.1 in
    search (rules, longer, nil_from_length, different, is.base, stored.some, stored.first)

-- In the model of `Interner`, a list is stored in two parts: its base, which is a list of pairs that several lists can
-- share, and its extra pairs, which are all other pairs of the list. A pair is in the list if and only if the pair is
-- in the base or is an extra pair.
pub has_either : (trie : List (List (ℕ × ℕ))) (extensions : List (ℕ × List (ℕ × ℕ))) {lists : List (List (ℕ × ℕ))}
    → extended_lists trie extensions ≡ lists → (k : ℕ) → k < length lists → (x : ℕ × List (ℕ × ℕ))
    → x ≡ extension_at extensions k → (z : ℕ × ℕ)
    → Contains (list_at lists k) z ↔ (Contains (list_at trie x.0) z ⊎ Contains x.1 z)
has_either trie extensions view k low x e z =
    let is : list_at (extended_lists trie extensions) k ≡ extended trie x = search (rules, get_or-map, length-map) in
    rw (← view, is) (merged_has z (list_at trie x.0) x.1)

-- Suppose that one of several lists contains all pairs of the other lists and all pairs in `pairs`. Then this list is
-- the union of all these lists and of `pairs`.
pub includes_all : (lists : List (List (ℕ × ℕ))) (ids : List ℕ) (pairs : List (ℕ × ℕ)) (i : ℕ) → i < length ids
    → All (λ j. Includes (list_at lists (slice_index ids i)) (list_at lists j)) ids
    → All (Contains (list_at lists (slice_index ids i))) pairs
    → (z : ℕ × ℕ) → Contains (list_at lists (slice_index ids i)) z ↔ (Contains pairs z ⊎ HasOne lists ids z)
includes_all lists ids pairs i low all has z =
    let own = All-contains (Contains (list_at lists (slice_index ids i))) pairs z has in
    (λ d. inr (i, low, d), λ o. elim o [ inl d ↦ own d | inr (j, less, d) ↦ all j 0 less z d ])

-- `IsExtra` is about the list whose ID is at the index j of `ids`. The list is stored in two parts: its base, which is
-- a list of pairs that several lists can share, and its extra pairs, which are all other pairs of the list. `IsExtra`
-- holds if z is an extra pair of this list, and if P holds for the ID of the base of this list.
abbrev pub IsExtra : List (ℕ × List (ℕ × ℕ)) → List ℕ → (ℕ → Type 0) → ℕ × ℕ → ℕ → Type 0
IsExtra extensions ids P z j =
    P (extension_at extensions (slice_index ids j)).0 × Contains (extension_at extensions (slice_index ids j)).1 z

-- A list is stored in two parts: its base, which is a list of pairs that several lists can share, and its extra pairs,
-- which are all other pairs of the list. Suppose that a loop has gone through the first i IDs in `ids`, and has
-- collected the extra pairs of exactly those lists whose base has an ID for which P holds. Let x be the list with the
-- next ID. If P holds for the ID of the base of x, the loop collects the extra pairs of x, and otherwise it collects
-- nothing. Then the loop has gone through the first i + 1 IDs, and has still collected the extra pairs of exactly those
-- lists whose base has an ID for which P holds.
module _ (extensions : List (ℕ × List (ℕ × ℕ))) (ids : List ℕ) (P : ℕ → Type 0) (z : ℕ × ℕ) (x : ℕ × List (ℕ × ℕ))
    (i : ℕ) (is : x ≡ extension_at extensions (slice_index ids i)) {B D : Type 0}
    (before : B ↔ (D ⊎ SomeBelow (IsExtra extensions ids P z) i)) where
  pub extra_skip : (P x.0 → ⊥) → B ↔ (D ⊎ SomeBelow (IsExtra extensions ids P z) (i + 1))
  extra_skip none = search (rules, up_to_more (IsExtra extensions ids P z) i)

  pub extra_more : {A : Type 0} → P x.0 → A ↔ (B ⊎ Contains x.1 z) →
      A ↔ (D ⊎ SomeBelow (IsExtra extensions ids P z) (i + 1))
  extra_more p now = search (rules, up_to_more (IsExtra extensions ids P z) i)

-- Suppose that the list `new` results from the list `old` by removing all pairs that are in `list`. Then `new` has no
-- pair in common with `list`. The lists `list` and `new` together contain the same pairs as the lists `list` and `old`
-- together.
module _ (list old new : List (ℕ × ℕ)) (is : new ≡ filter (is_lacking list) old) where
  pub lack_apart : ShareNone list new
  lack_apart z d e = grind (arith, is, passing_has (is_lacking list) old z, has_pair list z)

  pub lack_same : (z : ℕ × ℕ) → (Contains list z ⊎ Contains new z) ↔ (Contains list z ⊎ Contains old z)
  lack_same z =
      let test = is_member (eq_by_cmp pair_cmp) list z in
      grind (arith, is, passing_has (is_lacking list) old z, has_pair list z, cases_Bool test)

own_or_not : (own : Option ℕ) (base : ℕ) → (own ≡ Some base) ⊎ ¬ (own ≡ Some base)
own_or_not None base = search rules
own_or_not (Some own) base = search (rules, cases_eq own base)

-- A list is stored in two parts: its base, which is a list of pairs that several lists can share, and its extra pairs,
-- which are all other pairs of the list. A pair is in at least one of several lists if and only if the pair is in the
-- base of at least one of these lists, or is an extra pair of at least one of these lists. The lemma distinguishes two
-- kinds of extra pairs: the extra pairs of lists whose base has the ID `own`, and the extra pairs of all other lists.
module _ (trie : List (List (ℕ × ℕ))) (extensions : List (ℕ × List (ℕ × ℕ))) (ids : List ℕ)
    (known : All (λ k. k < length extensions) ids)
    (own : Option ℕ) (z : ℕ × ℕ) where
  pub all_have : HasOne (extended_lists trie extensions) ids z
      ↔ (HasBase trie extensions ids z ⊎ (HasExtra extensions ids
      (λ b. ¬ (own ≡ Some b)) z ⊎ HasExtra extensions ids (λ b. own ≡ Some b) z))
  all_have =
      let at = λ (j : ℕ) (low : j < length ids). let k = slice_index ids j in
      has_either trie extensions refl k (rw length-map (known j 0 low)) (extension_at extensions k) refl z in (
        λ (j, low, has). let is = own_or_not own (extension_at extensions (slice_index ids j)).0 in
            search (rules, at j low),
        λ o. elim o [
          | inl h ↦ (h.0, h.1, (at h.0 h.1).1 (inl h.2))
          | inr (inl h) ↦ (h.0, h.1, (at h.0 h.1).1 (inr h.2.1))
          | inr (inr h) ↦ (h.0, h.1, (at h.0 h.1).1 (inr h.2.1))
        ],
      )

-- The union of several lists and of some pairs is computed in several steps. Suppose that each step satisfies its
-- contract. Then the base of the result and the extra pairs after the last step together contain exactly the pairs of
-- the union.
pub joined_all : {B G H L M O P R S T : Type 0} → B ↔ R → G ↔ (P ⊎ S) → O ↔ G → (B ⊎ L) ↔ (B ⊎ O) → M ↔ (L ⊎ T)
    → H ↔ (R ⊎ (S ⊎ T)) → (B ⊎ M) ↔ (P ⊎ H)
joined_all whole gathered ordered lacked merged all = search rules

-- A list is stored in two parts: its base, which is a list of pairs that several lists can share, and its extra pairs,
-- which are all other pairs of the list. Suppose that `pairs` consists of the pairs in `left` and of the extra pairs of
-- some lists that have the same base. Suppose also that no pair in `left` is in this base. Then no pair in `pairs` is
-- in this base.
pub joined_apart : (old trie : List (List (ℕ × ℕ))) (extensions : List (ℕ × List (ℕ × ℕ))) (ids : List ℕ) (base : ℕ)
    (own : Option ℕ)
    (left pairs : List (ℕ × ℕ)) → IfSome own (λ b. b ≡ base) → Grow old trie → All (IsExtension old) extensions
    → All (λ k. k < length extensions) ids → ShareNone (list_at trie base) left
    → ((z : ℕ × ℕ) → Contains pairs z ↔ (Contains left z ⊎ HasExtra extensions ids (λ b. own ≡ Some b) z))
    → ShareNone (list_at trie base) pairs
joined_apart old trie extensions ids base own left pairs is_base grow each known apart merged z d e =
    elim ((merged z).0 e) [
      | inl l ↦ apart z d l
      | inr (j, low, has) ↦
          let is = each (slice_index ids j) (0, []) (known j 0 low) in
          let same : (extension_at extensions (slice_index ids j)).0 ≡ base = grind arith in
          is.apart z (rw (← grow.same _ is.base, same) d) has.1
    ]

-- Suppose that `all` is the list xs followed by the list ys. Then P holds for at least one element of `all` if and only
-- if P holds for at least one element of xs or of ys.
pub one_of_both : (P : ℕ → Type 0) (xs ys all : List ℕ) → xs ++ ys ≡ all → OneHas P all ↔ (OneHas P xs ⊎ OneHas P ys)
one_of_both P xs ys all e =
    search (rules, cases_lt, get_or_append_left, get_or-append_right, get_or-append-add, length-append)

pub joined_halves : {A B C H I W : Type 0} → A ↔ (B ⊎ C) → B ↔ H → C ↔ I → W ↔ (H ⊎ I) → A ↔ W
joined_halves union first second whole = search rules
