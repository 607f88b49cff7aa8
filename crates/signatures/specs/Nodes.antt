-- Defines how `Nodes` stores each list of pairs. A short list is stored as a range of one buffer. A long list is
-- divided into two halves, and is stored as the IDs of these halves. The halves are themselves stored lists, with
-- smaller IDs. The number at which a long list is divided is called the split point of the list. To compare a pair
-- (x, y) with the split point, the pair is represented by the number x * 2^32 + y (`pair_value`). The first half
-- contains the pairs that are less than the split point, and the second half contains the other pairs.
use Rattle.std.specs.Prelude.{◌≡◌, ℕ, zero, suc, ◌+◌, ◌<◌, ◌≤◌, List, [], ◌∷◌, ◌++◌, length}
use Rattle.std.specs.List.{All, slice_range, slice_index_or}
use Rattle.std.specs.List.Sorted.{IsStrictlySortedBy}
use Rattle.signatures.specs.Lists.{pair_cmp, list_at}
use Rattle.signatures.specs.Cuts.{Fit, IsCut, IsUnder, IsOver}
use Rattle.signatures.specs.declared.nodes.TheConstants.{MOST_WHOLE, MOST_LISTS}
use Rattle.signatures.specs.declared.nodes.Halves.{Halves}
use Rattle.signatures.specs.declared.nodes.Node.{Node}
use Rattle.signatures.specs.declared.nodes.Node.TheVariants.{Whole, Halved}
use Rattle.signatures.specs.declared.nodes.Shape.{Shape}
use Rattle.signatures.specs.declared.nodes.Shape.TheVariants.{Whole as Pairs, Halved as Cut}

-- `AreHalves` holds if `below` and `above` are the two halves of a long list that is divided at the number `cut`. To
-- compare a pair (x, y) with `cut`, the pair is represented by the number x * 2^32 + y (`pair_value`). The following
-- three conditions must hold. First, the two halves together have more than 64 pairs (`MOST_WHOLE`). Second, `cut` is
-- the number at which the whole list, which is `below` followed by `above`, has to be divided (`IsCut`). Third, all
-- pairs in `below` are less than `cut`, and all pairs in `above` are at least `cut`.
pub record AreHalves (below above : List (ℕ × ℕ)) (cut : ℕ) : Type 0 where
  pub long : MOST_WHOLE < length below + length above
  pub at_cut : IsCut (below ++ above) cut
  pub under : IsUnder below cut
  pub over : IsOver above cut

-- `IsHalved` holds if h contains the IDs of the two halves of the list with the ID k (`h.below` and `h.above`), and the
-- number at which the list is divided into these halves (`h.cut`). The IDs of both halves must be less than k.
pub record IsHalved (lists : List (List (ℕ × ℕ))) (k : ℕ) (h : Halves) : Type 0 where
  pub below : h.below < k
  pub above : h.above < k
  pub list : list_at lists k ≡ list_at lists h.below ++ list_at lists h.above
  pub halves : AreHalves (list_at lists h.below) (list_at lists h.above) h.cut

-- Returns the node in which the list with the ID k is stored. A node stores one list, either as a range of the buffer
-- of pairs or as the IDs of the two halves of the list.
abbrev pub node_at : List Node → ℕ → Node
node_at nodes k = slice_index_or nodes k (Whole 0 0)

-- Returns the list that is stored in a node. The node stores the list either as a range of the buffer `pairs` or as the
-- IDs of the two halves of the list. The halves are looked up in `lists`.
abbrev pub list_of_node : List (ℕ × ℕ) → List (List (ℕ × ℕ)) → Node → List (ℕ × ℕ)
list_of_node pairs lists (Whole start count) = slice_range pairs start (start + count)
list_of_node pairs lists (Halved h) = list_at lists h.below ++ list_at lists h.above

-- Returns the lists that are stored in the first n nodes, one list in each node. A node stores its list either as a
-- range of the buffer `pairs` or as the IDs of two earlier lists, which are the halves of the list. So each list is
-- computed from its node and from the lists of the earlier nodes.
unfoldable pub lists_to : List (ℕ × ℕ) → List Node → ℕ → List (List (ℕ × ℕ))
lists_to pairs nodes zero = []
lists_to pairs nodes (suc n) = lists_to pairs nodes n ++ list_of_node pairs (lists_to pairs nodes n) (node_at nodes n) ∷
    []

-- Returns the lists that are stored in all nodes, one list in each node. A node stores its list either as a range of
-- the buffer `pairs` or as the IDs of the two halves of the list.
abbrev pub lists_of_nodes : List (ℕ × ℕ) → List Node → List (List (ℕ × ℕ))
lists_of_nodes pairs nodes = lists_to pairs nodes (length nodes)

-- `AreStored` holds for the stored lists if all five of the following conditions hold. First, each list is in strictly
-- ascending order. Second, the second component of each pair is less than 2^32 (`Fit`). Third, for each list of more
-- than 64 pairs (`MOST_WHOLE`), the two halves of the list are also stored (`IsHalved`). Fourth, there are at most
-- 2^32 - 1 lists (`MOST_LISTS`), so that each ID fits into 32 bits. Fifth, the list with the ID 0 is empty.
pub record AreStored (lists : List (List (ℕ × ℕ))) : Type 0 where
  pub ascending : All (IsStrictlySortedBy pair_cmp) lists
  pub fit : All Fit lists
  pub halved : (k : ℕ) → k < length lists → MOST_WHOLE < length (list_at lists k) → (h : Halves) × IsHalved lists k h
  pub some : 1 ≤ length lists
  pub few : length lists ≤ MOST_LISTS
  pub first : list_at lists 0 ≡ []

-- `StoresNode` holds if the node that stores the list with the ID k is correct. If the node refers to a range of the
-- buffer `pairs`, the range must lie within this buffer, and must contain at most 64 pairs (`MOST_WHOLE`). If the node
-- contains the IDs of two halves, they must be the IDs of the two halves of the list with the ID k.
abbrev pub StoresNode : List (ℕ × ℕ) → List (List (ℕ × ℕ)) → ℕ → Node → Type 0
StoresNode pairs lists k (Whole start count) = (start + count ≤ length pairs) × (count ≤ MOST_WHOLE)
StoresNode pairs lists k (Halved h) = IsHalved lists k h

-- `AreNodes` is about nodes, each of which stores one list, either as a range of the buffer `pairs` or as the IDs of
-- the two halves of the list. `AreNodes` holds if all three of the following conditions hold. First, each node stores
-- its list correctly (`StoresNode`). Second, the stored lists satisfy the conditions of `AreStored`, for example that
-- each list is in strictly ascending order. Third, the first node stores the empty list.
pub record AreNodes (pairs : List (ℕ × ℕ)) (nodes : List Node) : Type 0 where
  pub stored : AreStored (lists_of_nodes pairs nodes)
  pub empty : node_at nodes 0 ≡ Whole 0 0
  pub each_node : (k : ℕ) → k < length nodes → StoresNode pairs (lists_of_nodes pairs nodes) k (node_at nodes k)

-- A `Shape` describes a list in one of two ways: by the pairs of the list, or by the IDs of the two halves of the list.
-- `IsShape` holds if the shape describes the list with the ID k. If the shape contains the pairs of the list, the list
-- must have at most 64 pairs (`MOST_WHOLE`).
abbrev pub IsShape : List (List (ℕ × ℕ)) → ℕ → Shape → Type 0
IsShape lists k (Pairs list) = (list.now ≡ list_at lists k) × (length list.now ≤ MOST_WHOLE)
IsShape lists k (Cut h) = IsHalved lists k h

-- A `Shape` describes a list in one of two ways: by the pairs of the list, or by the IDs of the two halves of the list.
-- `list_of_shape` returns this list. If the shape contains the IDs of the halves, the list is the first half followed
-- by the second half.
abbrev pub list_of_shape : List (List (ℕ × ℕ)) → Shape → List (ℕ × ℕ)
list_of_shape lists (Pairs list) = list.now
list_of_shape lists (Cut h) = list_at lists h.below ++ list_at lists h.above

-- `IsWholeList` holds if the list can be stored as one range of the buffer of pairs, without being divided into halves.
-- The list must have at least one and at most 64 pairs (`MOST_WHOLE`). The pairs must be in strictly ascending order.
-- The second component of each pair must be less than 2^32.
pub record IsWholeList (list : List (ℕ × ℕ)) : Type 0 where
  pub some : 0 < length list
  pub few : length list ≤ MOST_WHOLE
  pub ascending : IsStrictlySortedBy pair_cmp list
  pub fit : Fit list

-- `AreHalvesIn` holds if h contains the IDs of two lists in `lists`, and if these two lists are the two halves of a
-- list of more than 64 pairs (`MOST_WHOLE`).
pub record AreHalvesIn (lists : List (List (ℕ × ℕ))) (h : Halves) : Type 0 where
  pub below : h.below < length lists
  pub above : h.above < length lists
  pub halves : AreHalves (list_at lists h.below) (list_at lists h.above) h.cut

-- A `Shape` describes a list in one of two ways: by the pairs of the list, or by the IDs of the two halves of the list.
-- `Suits` holds if the list that the shape describes can be appended to `lists`.
abbrev pub Suits : List (List (ℕ × ℕ)) → Shape → Type 0
Suits lists (Pairs list) = IsWholeList list.now
Suits lists (Cut h) = AreHalvesIn lists h
