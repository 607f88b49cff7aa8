-- A node stores one list: a short list as a range of pairs, and a long list as the IDs of the two halves of the list.
-- Some lemmas state which list is stored in a node. Other lemmas show that all lists are still stored correctly
-- (`AreNodes`) after a list has been appended. The relation `Grow` states that lists keep their IDs. The first lemmas
-- are about the buffers that contain the ranges of pairs. The last lemmas are about the search for a list by its tag,
-- which is a hash of 32 bits: the code compares the list with each stored list that has the same tag.
use Rattle.std.proofs.Common.{rules, ◌≡◌, ℕ, ◌+◌, ◌≤◌, List, [], ◌∷◌, ◌++◌, length, refl, arith, All, ◌-◌, drop, map}
use Rattle.std.proofs.Common.{slice_range, length-drop, length-take, drop_at, take_all, ◌∙◌, zero, suc, ◌<◌, take, ap}
use Rattle.std.{specs.List.Sorted.IsStrictlySortedBy, proofs.Common.length-append, proofs.Common.append-nil}
use Rattle.std.proofs.{lemmas.List.get_or_push, lemmas.List.length-map, lemmas.Bool.cases_lt, Common.sym, Common.subst}
use Rattle.std.proofs.lemmas.List.{map-append, drop-append-le, take-append-le, length_push, get_or_append_left}
use Rattle.std.proofs.lemmas.List.Elements.{All-tail, All-cons, All-nil, All-push}
use Rattle.signatures.specs.declared.extensions.Slot.{Slot}
use Rattle.signatures.specs.{Extensions.extension_in, Extensions.all_extensions, Extensions.AreSlots, Hashed.tag_of}
use Rattle.signatures.specs.declared.nodes.{Halves.Halves, Node.Node, Node.TheVariants.Whole, Node.TheVariants.Halved}
use Rattle.signatures.specs.declared.nodes.Shape.{Shape, TheVariants.Whole as Pairs, TheVariants.Halved as Cut}
use Rattle.signatures.specs.{declared.nodes.TheConstants.MOST_WHOLE, declared.nodes.TheConstants.MOST_LISTS, Cuts.Fit}
use Rattle.signatures.specs.{Lists.pair_cmp, Lists.list_at, Lists.Grow, Nodes.Suits, Nodes.AreStored, Nodes.AreNodes}
use Rattle.signatures.specs.Nodes.{IsHalved, node_at, StoresNode, list_of_node, list_of_shape, lists_to, lists_of_nodes}
use Rattle.signatures.proofs.{Ascending.ascending_none, Cuts.halves_ascending, Cuts.halves_has}
use Rattle.buckets.specs.Buckets.{tag_at, IsLast}
use Rattle.std.proofs.Math.ListN as plain

-- If pairs are appended to a buffer, each range of indices that lies within the old buffer still contains the same
-- pairs. The range after the old buffer contains the appended pairs.
pub slice_range-append : (pairs more : List (ℕ × ℕ)) (start end : ℕ) → start ≤ end → end ≤ length pairs →
    slice_range (pairs ++ more) start end ≡ slice_range pairs start end
slice_range-append pairs more start end h k = search (rules, drop-append-le, take-append-le, length-drop)

pub slice_range-last : (pairs more : List (ℕ × ℕ)) (end : ℕ) → end ≡ length pairs + length more →
    slice_range (pairs ++ more) (length pairs) end ≡ more
slice_range-last pairs more end e = search (rules, drop_at, take_all)

-- If two functions have the same value at each element of a list, mapping the list with one function gives the same
-- result as mapping it with the other function.
pub map_same : {X Y : Type 0} (f g : X → Y) (xs : List X) → All (λ x. f x ≡ g x) xs → map f xs ≡ map g xs
map_same f g [] h = refl
map_same f g (x ∷ xs) h = rw (h 0 x (omega arith), map_same f g xs (All-tail (λ x. f x ≡ g x) x xs h))

pub length-part : (pairs : List (ℕ × ℕ)) (start count : ℕ) → length (slice_range pairs start (start + count)) ≤ count
length-part pairs start count = omega (arith, length-take (start + count - start) (drop start pairs))

-- A slot stores a list in two parts: the ID of its base, which is a list of pairs that several lists can share, and the
-- range of a buffer in which all other pairs of the list are stored. If pairs are appended to the buffer, the list in
-- each slot stays the same.
module _ (pairs more : List (ℕ × ℕ)) where
  pub extensions-more : (slots : List Slot) → All (λ x. x.start + x.count ≤ length pairs) slots →
      all_extensions (pairs ++ more) slots ≡ all_extensions pairs slots
  extensions-more slots h =
      map_same (extension_in (pairs ++ more)) (extension_in pairs) slots (λ k d low.
      search (rules, slice_range-append, h))

-- A slot stores a list in two parts: the ID of its base, which is a list of pairs that several lists can share, and the
-- range of a buffer in which all other pairs of the list are stored. Suppose that pairs are appended to the buffer, and
-- that a slot for these pairs is appended to the slots. Then the list of the new slot is the last stored list, and all
-- other stored lists stay the same.
module _ (pairs list : List (ℕ × ℕ)) (slots : List Slot) (new : Slot) (are : AreSlots pairs slots)
    (start : new.start ≡ length pairs) (count : new.count ≡ length list) where
  pub extensions-push : all_extensions (pairs ++ list) (slots ++ new ∷ [])
      ≡ all_extensions pairs slots ++ (new.base, list) ∷ []
  extensions-push = search (rules, map-append, extensions-more, slice_range-last)

pub All-only : {X : Type 0} (P : X → Type 0) (x : X) → P x → All P (x ∷ [])
All-only P x p = All-cons P x [] p (All-nil P)

-- If a list is appended to a sequence of lists, the appended list gets the next ID, and all other lists keep their IDs.
module _ (lists : List (List (ℕ × ℕ))) (list : List (ℕ × ℕ)) where
  pub list-old : (k : ℕ) → k < length lists → list_at (lists ++ list ∷ []) k ≡ list_at lists k
  list-old k h = get_or_append_left lists (list ∷ []) [] k h

  pub list-new : (k : ℕ) → k ≡ length lists → list_at (lists ++ list ∷ []) k ≡ list
  list-new k e = get_or_push lists list [] k (sym e)

  pub Grow-push : Grow lists (lists ++ list ∷ [])
  Grow-push = record { longer = omega (arith, length_push lists list); same = list-old }

-- The relation `Grow` between old lists and new lists holds if each old list is also one of the new lists, with the
-- same ID. This relation is reflexive and transitive.
pub Grow-same : (lists : List (List (ℕ × ℕ))) → Grow lists lists
Grow-same lists = record { longer = omega arith; same = λ k h. refl }

pub Grow-twice : {a b c : List (List (ℕ × ℕ))} → Grow a b → Grow b c → Grow a c
Grow-twice first second = search rules

pub IsHalved-grow : (lists new : List (List (ℕ × ℕ))) (k : ℕ) (h : Halves) → Grow lists new → k < length lists →
    IsHalved lists k h → IsHalved new k h
IsHalved-grow lists new k h grow low = search rules

-- `AreStored` states conditions for the stored lists, for example that each of them is in strictly ascending order.
-- Suppose that the stored lists satisfy these conditions, and that there are fewer than 2^32 - 1 stored lists
-- (`MOST_LISTS`). Suppose also that a list in strictly ascending order is appended to the stored lists, and that the
-- second component of each pair of this list is less than 2^32 (`Fit`). If this list has more than 64 pairs
-- (`MOST_WHOLE`), suppose also that its two halves are already stored. Then the stored lists, including the appended
-- list, satisfy the conditions of `AreStored`.
pub AreStored-push : (lists : List (List (ℕ × ℕ))) (list : List (ℕ × ℕ)) → AreStored lists → length lists < MOST_LISTS
    → IsStrictlySortedBy pair_cmp list → Fit list
    → (MOST_WHOLE < length list → (h : Halves) × IsHalved (lists ++ list ∷ []) (length lists) h)
    → AreStored (lists ++ list ∷ [])
AreStored-push lists list are few ascending fits long =
    let longer = length_push lists list in
    let some = are.some in
    record {
      ascending = All-push (IsStrictlySortedBy pair_cmp) lists list are.ascending ascending;
      fit = All-push Fit lists list are.fit fits;
      halved = search (rules, cases_lt, are.halved, list-old, IsHalved-grow, Grow-push, list-new);
      some = omega arith;
      few = omega arith;
      first = list-old lists list 0 some ∙ are.first;
    }

-- Each node stores one list, so that the first n nodes store n lists.
module _ (pairs : List (ℕ × ℕ)) (nodes : List Node) where
  length-to : (n : ℕ) → length (lists_to pairs nodes n) ≡ n
  unfolding lists_to
  length-to zero = refl
  length-to (suc n) = search (rules, length_push, length-to n)

  pub length-lists : length (lists_of_nodes pairs nodes) ≡ length nodes
  length-lists = length-to (length nodes)

  -- Each node stores one list, as a range of pairs or as the IDs of two other lists, which are the halves of the list.
  -- The list with the ID k is computed from its node and from the lists with smaller IDs.
  to_at : (n k : ℕ) → k < n → list_at (lists_to pairs nodes n) k ≡ list_of_node pairs (lists_to pairs nodes k)
      (node_at nodes k)
  unfolding lists_to
  to_at zero k low = absurd (omega arith)
  to_at (suc n) k low = search (rules, cases_lt k n, get_or_append_left, get_or_push, length-to n, to_at n k)

  pub list_whole : (k start count : ℕ) → k < length nodes → node_at nodes k ≡ Whole start count
      → list_at (lists_of_nodes pairs nodes) k ≡ slice_range pairs start (start + count)
  list_whole k start count low e = to_at (length nodes) k low ∙ ap (list_of_node pairs (lists_to pairs nodes k)) e

-- Each list is stored in a node, as a range of pairs or as the IDs of its two halves. Suppose that a list has more than
-- 64 pairs (`MOST_WHOLE`). Then the node of this list contains the IDs of the two halves.
kept_long : (pairs : List (ℕ × ℕ)) (lists new : List (List (ℕ × ℕ))) (k : ℕ) (node : Node) → StoresNode pairs new k node
    → MOST_WHOLE < length (list_of_node pairs lists node) → (h : Halves) × IsHalved new k h
kept_long pairs lists new k (Whole start count) is long = search (rules, length-part)
kept_long pairs lists new k (Halved h) is long = (h, is)

-- A node stores one list, as a range of a buffer of pairs or as the IDs of the two halves of the list. Suppose that a
-- node is appended to the nodes, and that pairs may be appended to the buffer. Then the list of the new node is the
-- last stored list, and all other stored lists stay the same.
module _ (pairs more : List (ℕ × ℕ)) (nodes : List Node) (new : Node) (are : AreNodes pairs nodes) where
  same_list : (lists each_node : List (List (ℕ × ℕ))) (k : ℕ) (node : Node) → StoresNode pairs each_node k node →
      list_of_node (pairs ++ more) lists node ≡ list_of_node pairs lists node
  same_list lists each_node k (Whole start count) is =
      slice_range-append pairs more start (start + count) (omega arith) is.0
  same_list lists each_node k (Halved h) is = refl

  to_agree : (n : ℕ) → n ≤ length nodes → lists_to (pairs ++ more) (nodes ++ new ∷ []) n ≡ lists_to pairs nodes n
  unfolding lists_to
  to_agree zero low = refl
  to_agree (suc n) low =
      let same = same_list (lists_to pairs nodes n) _ n (node_at nodes n) (are.each_node n (omega arith)) in
      rw (to_agree n (omega arith), get_or_append_left, same)

  abbrev pub list : List (ℕ × ℕ)
  list = list_of_node (pairs ++ more) (lists_of_nodes pairs nodes) new

  pub lists-push : lists_of_nodes (pairs ++ more) (nodes ++ new ∷ []) ≡ lists_of_nodes pairs nodes ++ list ∷ []
  unfolding lists_to
  lists-push =
      let longer : length (nodes ++ new ∷ []) ≡ suc (length nodes) = omega (arith, length_push nodes new) in
      rw (longer, to_agree (length nodes) (omega arith), get_or_push nodes new (Whole 0 0) _ refl)

  -- Suppose that the appended node stores its list correctly (`StoresNode`), and that this list is in strictly
  -- ascending order. Suppose also that the second component of each pair of the list is less than 2^32 (`Fit`), and
  -- that there are fewer than 2^32 - 1 nodes (`MOST_LISTS`) before the node is appended. Then all nodes, including the
  -- appended node, store their lists correctly (`AreNodes`).
  pub AreNodes-push : length nodes < MOST_LISTS → IsStrictlySortedBy pair_cmp list → Fit list
      → StoresNode (pairs ++ more) (lists_of_nodes pairs nodes ++ list ∷ []) (length nodes) new
      → AreNodes (pairs ++ more) (nodes ++ new ∷ [])
  AreNodes-push few ascending fits each_node =
      let size = length-lists pairs nodes in
      let some = are.stored.some in
      record {
        stored = rw lists-push (AreStored-push (lists_of_nodes pairs nodes) list are.stored (omega arith) ascending fits
            (λ long. rw size (kept_long (pairs ++ more) _ _ (length nodes) new each_node long)));
        empty = get_or_append_left nodes (new ∷ []) (Whole 0 0) 0 (omega arith) ∙ are.empty;
        each_node = λ k low. rw lists-push (search (
          rules,
          cases_lt k (length nodes),
          get_or_append_left,
          get_or_push,
          length_push,
          IsHalved-grow,
          Grow-push,
          are.each_node,
          length-append pairs more,
          each_node,
        ));
      }

-- Each node stores one list. If there is a single node, and this node contains no pairs, then the empty list is the
-- only stored list.
pub lists-first : lists_of_nodes [] (Whole 0 0 ∷ []) ≡ [] ∷ []
unfolding lists_to
lists-first = refl

pub AreNodes-first : AreNodes [] (Whole 0 0 ∷ [])
AreNodes-first = search (rules, lists-first, ascending_none)

-- Each node stores one list, and the first node stores the empty list. So if all nodes except for the first are
-- removed, only the node of the empty list remains.
pub nodes-cleared : (pairs : List (ℕ × ℕ)) (nodes : List Node) → AreNodes pairs nodes → take 1 nodes ≡ Whole 0 0 ∷ []
nodes-cleared pairs [] are = absurd (let some = are.stored.some in omega (arith, length-lists pairs []))
nodes-cleared pairs (x ∷ xs) are = ap (λ n. n ∷ []) are.empty

-- `IsNext` is about a `Shape`, which describes a list by the pairs of the list or by the IDs of its two halves. Each
-- node stores one list. `IsNext` holds if the list that the shape describes is stored in the following way: the node
-- `node` is appended to the nodes, and the buffer of pairs is extended from `pairs` to `new`.
abbrev pub IsNext : List (ℕ × ℕ) → List (ℕ × ℕ) → Shape → Node → Type 0
IsNext pairs new (Pairs list) node = (new ≡ pairs ++ list.now) × (node ≡ Whole (length pairs) (length list.now))
IsNext pairs new (Cut h) node = (new ≡ pairs) × (node ≡ Halved h)

-- A `Shape` describes a list by the pairs of the list, or by the IDs of its two halves. Suppose that this list is
-- stored by appending a node (`IsNext`). Then the list of this node is the last of the stored lists, and all other
-- stored lists stay the same. Suppose also that there are fewer than 2^32 - 1 nodes (`MOST_LISTS`) before the node is
-- appended, and that the list can be appended (`Suits`). Then all lists are stored correctly (`AreNodes`).
module _ (pairs new : List (ℕ × ℕ)) (nodes : List Node) (node : Node) (are : AreNodes pairs nodes) where
  abbrev lists : List (List (ℕ × ℕ))
  lists = lists_of_nodes pairs nodes

  pub lists-next : (shape : Shape) → IsNext pairs new shape node → lists_of_nodes new (nodes ++ node ∷ [])
      ≡ lists ++ list_of_shape lists shape ∷ []
  lists-next (Pairs l) next =
      rw (next.0, next.1) (lists-push pairs l.now nodes _ are
      ∙ ap (λ l. lists ++ l ∷ []) (slice_range-last pairs l.now _ refl))
  lists-next (Cut h) next = rw (next.0, next.1) (rw (append-nil pairs) at (lists-push pairs [] nodes (Halved h) are))

  pub AreNodes-next : (shape : Shape) → IsNext pairs new shape node → length nodes < MOST_LISTS → Suits lists shape →
      AreNodes new (nodes ++ node ∷ [])
  AreNodes-next (Pairs l) next few suits =
      let whole = slice_range-last pairs l.now _ refl in
      let longer = length-append pairs l.now in
      rw (next.0, next.1) (AreNodes-push pairs l.now nodes _ are few (rw whole suits.ascending) (rw whole suits.fit)
      (omega (arith, longer), omega (arith, suits.few)))
  AreNodes-next (Cut h) next few suits =
      let fit = λ (k : ℕ) (low : k < length lists). are.stored.fit k [] low in
      let has = halves_has (list_at lists h.below) (list_at lists h.above) in
      rw (next.0, next.1) (rw (append-nil pairs) at (AreNodes-push pairs [] nodes (Halved h) are few
      (search (rules, halves_ascending, are.stored.ascending))
      (λ z d. grind (arith, has z, fit _ suits.below z, fit _ suits.above z))
      (subst (λ n. IsHalved (lists ++ (list_at lists h.below ++ list_at lists h.above) ∷ []) n h)
      (length-lists pairs nodes) (search (rules, list-old, list-new)))))

-- Suppose that `tags` contains the tag (a hash of 32 bits) of each list. Then the element of `tags` at the index k is
-- the tag of the list with the ID k.
pub tag_is : (lists : List (List (ℕ × ℕ))) {tags : List ℕ} → tags ≡ map tag_of lists → (k : ℕ) →
    tag_at tags k ≡ tag_of (list_at lists k)
tag_is lists e k = ap (λ tags. tag_at tags k) e ∙ plain.get_or-map tag_of lists k []

-- `IsReached` is about a search for `list`. The search goes through the stored lists that have the same tag (a hash of
-- 32 bits) as `list`, in descending order of their IDs. `IsReached` holds for the ID r if all three of the following
-- conditions hold. First, if any lists are stored, r is the ID of a stored list. Second, no stored list with an ID
-- greater than r is equal to `list`. Third, r is 0, or the list with the ID r has the same tag as `list`.
pub record IsReached (lists : List (List (ℕ × ℕ))) (list : List (ℕ × ℕ)) (r : ℕ) : Type 0 where
  pub below : 0 < length lists → r < length lists
  pub above : (q : ℕ) → r < q → q < length lists → list_at lists q ≡ list → ⊥
  pub tagged : 0 < r → tag_of (list_at lists r) ≡ tag_of list

-- A search for a list begins at the greatest ID of a list with the same tag (a hash of 32 bits), and goes on to the
-- smaller IDs of lists with this tag. If the search has come to the ID r, no stored list with a greater ID is equal to
-- the list (`IsReached`).
module _ (lists : List (List (ℕ × ℕ))) {tags : List ℕ} (list : List (ℕ × ℕ)) (are : tags ≡ map tag_of lists) where
  pub IsReached-last : {r : ℕ} → IsLast tags (tag_of list) (length tags) r → IsReached lists list r
  IsReached-last {r} last = grind (arith, tag_is lists are, ap length are, length-map lists tag_of)

  pub IsReached-before : {r q : ℕ} → 0 < r → (list_at lists r ≡ list → ⊥) → IsReached lists list r →
      IsLast tags (tag_at tags r) r q → IsReached lists list q
  IsReached-before {r} {q} some other is last = grind (arith, tag_is lists are)
