-- Defines the data and the invariant of the depth-first search along inert transitions. The stack of the search is
-- divided into components. A component is a set of states that can reach each other along inert transitions. The root
-- of a component is its first state on the stack. The height of a state is its index on the stack. Each component
-- collects items. An item is a pair (label ID, block) or the ID of a signature. Each frame belongs to a state on the
-- stack, and records which outgoing transitions of this state are still to be read.
use Rattle.std.specs.Prelude.{◌≡◌, ◌⊎◌, ℕ, ◌+◌, ◌-◌, ◌<◌, ◌≤◌, ◌==◌, Bool, true, false, cond, List, [], length, map}
use Rattle.std.specs.Prelude.{slice_index, slice_index_or}
use Rattle.std.specs.List.{All, AllPairs, Contains, filter, sum_by, count_by}
use Rattle.theory.specs.System.{System, Leads}
use Rattle.theory.specs.declared.relation.Relation.TheVariants.{Branching}
use Rattle.theory.specs.Blocks.{Inert, Signature}
use Rattle.lts.specs.Lts.{Grouped, Triple, source_of, target_of, place_at, system_of, IsRow}
use Rattle.lts.specs.Visited.{price_between}
use Rattle.signatures.specs.Lists.{list_at}
use Rattle.partition.specs.Blocks.{IsMember}
use Rattle.inert.specs.Signed.{HasPair, IsSignature, pair_under}
use Rattle.inert.specs.Steps.{Under, IsInert}
use Rattle.inert.specs.declared.item.TheConstants.{INTERNED}
pub use Rattle.inert.specs.declared.depth_first_search.VisitState.{VisitState}
pub use Rattle.inert.specs.declared.depth_first_search.VisitState.TheVariants.{Unvisited, OnStack, Completed}
pub use Rattle.inert.specs.declared.depth_first_search.Frame.{Frame}
pub use Rattle.inert.specs.declared.depth_first_search.Root.{Root}
pub use Rattle.inert.specs.declared.item.Item.{Item}
pub use Rattle.inert.specs.declared.item.Item.TheVariants.{Pair, Interned}

-- An item is either a pair (label ID, block) or a signature ID. Items of both kinds are stored as two numbers. Returns
-- the item that is stored as the numbers a and b. If a is the constant `INTERNED`, which is not the ID of a label, the
-- item is the signature ID b. Otherwise the item is the pair (a, b).
abbrev pub item_of : ℕ → ℕ → Item
item_of a b = cond (a == INTERNED) (Interned b) (Pair a b)

-- `Search` contains the data of a depth-first search along inert transitions. The list `stages` contains the status of
-- each state: unvisited, on the stack, or completed. Each frame belongs to a state on the stack, and records which
-- outgoing transitions of this state are still to be read. The stack is divided into components, which are sets of
-- states that can reach each other along inert transitions. For each component, the list `roots` contains the root of
-- the component, which is its first state on the stack. The list `items` contains the pairs (label ID, block) and the
-- signature IDs that the components have collected.
pub record Search : Type 0 where
  pub stages : List VisitState
  pub stack : List ℕ
  pub frames : List Frame
  pub roots : List Root
  pub items : List Item

-- Returns the data that `Search` contains while no search is in progress. The argument `stages` contains the status of
-- each state. The stack and all other lists of the result are empty.
abbrev pub nothing : List VisitState → Search
nothing stages = record { stages = stages; stack = []; frames = []; roots = []; items = [] }

-- Returns the status of the state s in the list `stages`: unvisited, on the stack, or completed. If the list contains
-- no entry for s, the result is `Unvisited`.
abbrev pub stage_at : List VisitState → ℕ → VisitState
stage_at stages s = slice_index_or stages s Unvisited

-- The status of a completed state contains the ID of its cached signature. Returns this ID, or 0 if the state is not
-- completed.
abbrev pub id_of : VisitState → ℕ
id_of Unvisited = 0
id_of (OnStack p) = 0
id_of (Completed k) = k

-- Returns the list of the cached signature IDs of all states. The entry of a state that is not completed is 0.
abbrev pub cached : List VisitState → List ℕ
cached = map id_of

-- Returns whether a state with the given status is unvisited.
abbrev pub is_unvisited : VisitState → Bool
is_unvisited Unvisited = true
is_unvisited (OnStack p) = false
is_unvisited (Completed k) = false

-- Returns the number of unvisited states.
abbrev pub unseen : List VisitState → ℕ
unseen stages = count_by is_unvisited stages

-- Returns how many of the transitions in `places` have an unvisited source.
abbrev pub unread : List Triple → List VisitState → ℕ
unread places stages = length (filter (λ e. is_unvisited (stage_at stages (source_of e))) places)

-- Each frame belongs to a state on the stack, and records which outgoing transitions of this state are still to be
-- read. Returns the number of visits (reads that the meter counts) that are needed to read these transitions for all
-- frames. A transition is read without a visit if its place, which is its index in the list of all transitions, is in
-- the list `visited`.
abbrev pub rest : List ℕ → List Frame → ℕ
rest visited frames = sum_by (λ x. price_between visited x.next x.end) frames

-- The lists `old` and `new` contain the statuses of all states at two points of the search. `KeepsVisited` holds if
-- both of the following conditions hold. First, each state that is unvisited in `new` is also unvisited in `old`.
-- Second, each state that is completed in `old` is completed in `new` with the same signature ID.
pub record KeepsVisited (old new : List VisitState) : Type 0 where
  pub unseen : (s : ℕ) → stage_at new s ≡ Unvisited → stage_at old s ≡ Unvisited
  pub finished : (s k : ℕ) → stage_at old s ≡ Completed k → stage_at new s ≡ Completed k

-- `HasVisitStates` holds if all three of the following conditions hold. First, the system has `states` states, and the
-- list `stages` contains the status of each state. Second, the number `signatures` of interned signatures is at least
-- 1. Third, the number of unvisited states plus the number `stack` of states on the stack is at most `states`.
pub record HasVisitStates (states signatures stack : ℕ) (stages : List VisitState) : Type 0 where
  pub size : length stages ≡ states
  pub some : 1 ≤ signatures
  pub sizes : unseen stages + stack ≤ states

-- `IsFinished` holds if the state s is completed, which means that its status is `Completed`.
abbrev pub IsFinished : List VisitState → ℕ → Type 0
IsFinished stages s = (k : ℕ) × (stage_at stages s ≡ Completed k)

-- `HasEnded` is about the data w of the search. It holds if no search is in progress and all states are completed.
pub record HasEnded (w : Search) : Type 0 where
  pub empty : w ≡ nothing w.stages
  pub all : (s : ℕ) → s < length w.stages → IsFinished w.stages s

-- `AreMarkedUnvisited` is about the data w of the search. It holds if all four of the following conditions hold. First,
-- no search is in progress. Second, each active state, which is a state that the round processes, is unvisited. Third,
-- every other state has the same status as in the list `old`. Fourth, w contains as many statuses as the list `old`.
pub record AreMarkedUnvisited (old : List VisitState) (active : List ℕ) (w : Search) : Type 0 where
  pub empty : w ≡ nothing w.stages
  pub size : length w.stages ≡ length old
  pub unvisited : (i : ℕ) → i < length active → stage_at w.stages (slice_index active i) ≡ Unvisited
  pub others : (s : ℕ) → IsMember active s ⊎ (stage_at w.stages s ≡ stage_at old s)

-- Each frame belongs to a state on the stack, and records which outgoing transitions of this state are still to be
-- read. Returns the frame at the index i of the list `frames`. If there is no frame at this index, all fields of the
-- result are 0.
abbrev pub frame_at : List Frame → ℕ → Frame
frame_at frames i = slice_index_or frames i (record { height = 0; next = 0; end = 0 })

-- Each frame belongs to a state on the stack, and records which outgoing transitions of this state are still to be
-- read. Returns the last frame of the list `frames`. The state to which the last frame belongs is the current state of
-- the search. If the list is empty, all fields of the result are 0.
abbrev pub top : List Frame → Frame
top frames = frame_at frames (length frames - 1)

-- The stack is divided into components, which are sets of states that can reach each other along inert transitions. The
-- root of a component is its first state on the stack. Returns the root at the index i of the list `roots`. If there is
-- no root at this index, both fields of the result are 0.
abbrev pub root_at : List Root → ℕ → Root
root_at roots i = slice_index_or roots i (record { height = 0; items = 0 })

-- An item is a pair (label ID, block) or a signature ID. Returns the item at the index j of the list `items`. If there
-- is no item at this index, the result is the pair (0, 0).
abbrev pub item_at : List Item → ℕ → Item
item_at items j = slice_index_or items j (Pair 0 0)

-- `Laws` states four laws about paths of inert steps in a system A whose states are divided into blocks. First, the
-- empty path leads from each state to itself (`here`). Second, a path followed by an inert step is again a path
-- (`after`). Third, a path followed by another path is again a path (`joined`). Fourth, if a path leads from the state
-- s to the state t, the signature of s contains each pair of the signature of t (`path`).
pub record Laws : Type 0 where
  pub here : (A : System) (blocks : ℕ → ℕ) (s : ℕ) → Leads (Inert A blocks) s s
  pub after : (A : System) (blocks : ℕ → ℕ) (s t u : ℕ) → Leads (Inert A blocks) s t → Inert A blocks t u →
      Leads (Inert A blocks) s u
  pub joined : (A : System) (blocks : ℕ → ℕ) (s t u : ℕ) → Leads (Inert A blocks) s t → Leads (Inert A blocks) t u →
      Leads (Inert A blocks) s u
  pub path : (A : System) (blocks : ℕ → ℕ) (s t : ℕ) (a : List ℕ) (b : ℕ) → Leads (Inert A blocks) s t →
      Signature Branching A blocks t a b → Signature Branching A blocks s a b

-- `LeadsInertly` holds if a path of inert steps leads from the state s to the state t.
abbrev pub LeadsInertly : Under → ℕ → ℕ → Type 0
LeadsInertly u s t = Leads (Inert (system_of u.l) (slice_index u.blocks)) s t

-- The stack is divided into components. A component is a strongly connected set of states that are next to each other
-- on the stack. Consider the component that contains the state at the index p of the stack. `IsNotBelow` holds if the
-- index q is at least the index of the first state of this component on the stack.
abbrev pub IsNotBelow : List Root → ℕ → ℕ → Type 0
IsNotBelow roots p q = All (λ r. r.height ≤ p → r.height ≤ q) roots

-- The stack is divided into components, which are strongly connected sets of states. Each component collects items:
-- pairs (label ID, block) and signature IDs. Consider the component that contains the state at the index p of the
-- stack. `BelongsTo` holds if this component has collected the item at the index j of the list of items.
abbrev pub BelongsTo : List Root → ℕ → ℕ → Type 0
BelongsTo roots j p = All (λ r. (r.height ≤ p → r.items ≤ j) × (p < r.height → j < r.items)) roots

-- An item is a pair (label ID, block) or a signature ID. `GivesPair` holds if the given item represents the pair z. An
-- item represents z if the item is the pair z itself, or if it is the ID of a signature that contains z.
abbrev pub GivesPair : List (List (ℕ × ℕ)) → Item → ℕ × ℕ → Type 0
GivesPair signatures (Pair a b) z = (a, b) ≡ z
GivesPair signatures (Interned k) z = Contains (list_at signatures k) z

-- The stack is divided into components, which are strongly connected sets of states. Each component collects items:
-- pairs (label ID, block) and signature IDs. A signature ID represents all pairs of the signature with this ID.
-- Consider the component that contains the state at the index p of the stack. `ComponentHasPair` holds if this
-- component has collected an item that represents the pair z.
abbrev pub ComponentHasPair : List (List (ℕ × ℕ)) → Search → ℕ → ℕ × ℕ → Type 0
ComponentHasPair signatures w p z = (j : ℕ) × (j < length w.items) × GivesPair signatures (item_at w.items j) z
    × BelongsTo w.roots j p

-- `AreOpen` holds if both of the following conditions hold. First, each state on the stack has the status `OnStack`
-- with the index of this state on the stack. Second, no other state has the status `OnStack`.
pub record AreOpen (stages : List VisitState) (stack : List ℕ) : Type 0 where
  pub placed : (p : ℕ) → p < length stack → stage_at stages (slice_index stack p) ≡ OnStack p
  pub only : (s p : ℕ) → stage_at stages s ≡ OnStack p → (p < length stack) × (slice_index stack p ≡ s)

-- `IsSigned` holds if the interned signature with the ID k is the branching signature of the state s.
pub record IsSigned (u : Under) (s : ℕ) (signatures : List (List (ℕ × ℕ))) (k : ℕ) : Type 0 where
  pub within : k < length signatures
  pub signature : IsSignature Branching u.l u.blocks s (list_at signatures k)

-- `IsCacheable` holds if k is the ID of an interned signature that may be cached for the state s. A signature may be
-- cached for s if it is the branching signature of s, or if all states in the block of s are completed.
pub record IsCacheable (u : Under) (s : ℕ) (signatures : List (List (ℕ × ℕ))) (stages : List VisitState) (k : ℕ) : Type
    0 where
  pub within : k < length signatures
  pub signature : (t : ℕ) → t < u.l.states → slice_index u.blocks t ≡ slice_index u.blocks s →
      IsFinished stages t ⊎ IsSignature Branching u.l u.blocks s (list_at signatures k)

-- `AreCacheable` holds if the status of each completed state s contains the ID of an interned signature, and s
-- satisfies at least one of two conditions (`IsCacheable`). The first condition is that the cached signature of s is
-- the branching signature of s. The second condition is that all states in the block of s are completed.
abbrev pub AreCacheable : Under → List (List (ℕ × ℕ)) → List VisitState → Type 0
AreCacheable u signatures stages = (s k : ℕ) → stage_at stages s ≡ Completed k → IsCacheable u s signatures stages k

-- The stack is divided into components, which are strongly connected sets of states. Each component collects items:
-- pairs (label ID, block) and signature IDs. A value of type `Root` belongs to a component. This value stores the index
-- of the first state of the component on the stack, and the index at which the items of the component begin in the list
-- of all items. `IsRoot` holds if both of the following conditions hold. First, the first state of the component has a
-- frame, which means that the search has not yet gone back from this state. Second, the index at which the items of
-- this component begin is at most the number of all items that are stored.
pub record IsRoot (frames : List Frame) (items : List Item) (r : Root) : Type 0 where
  pub framed : (i : ℕ) × (i < length frames) × ((frame_at frames i).height ≡ r.height)
  pub within : r.items ≤ length items

-- The stack is divided into components, which are strongly connected sets of states. Each component collects items:
-- pairs (label ID, block) and signature IDs. A value of type `Root` belongs to a component. This value stores the index
-- of the first state of the component on the stack, and the index at which the items of the component begin in the list
-- of all items. `AreRoots` holds if all three of the following conditions hold. First, if the stack is not empty, some
-- component begins at the index 0 of the stack. Second, the roots are in ascending order of both of their indices, and
-- no two components begin at the same state. Third, each root satisfies `IsRoot`.
pub record AreRoots (w : Search) : Type 0 where
  pub first : 0 < length w.stack → ¬ All (λ r. 0 < r.height) w.roots
  pub ascending : AllPairs (λ x y. (x.height < y.height) × (x.items ≤ y.items)) w.roots
  pub each : All (IsRoot w.frames w.items) w.roots

-- A frame belongs to a state, and records which outgoing transitions of this state are still to be read. These
-- transitions are at the places k (indices in the list of all transitions) with `next` <= k < `end`. `IsFrame` holds if
-- both of the following conditions hold. First, the state of the frame x is on the stack. Second, the transitions that
-- the frame x records are the last part, which may be empty, of all outgoing transitions of this state.
pub record IsFrame (l : Grouped) (stack : List ℕ) (x : Frame) : Type 0 where
  pub on_stack : x.height < length stack
  pub start : ℕ
  pub row : IsRow l.places (slice_index stack x.height) start x.end
  pub first : start ≤ x.next
  pub most : x.next ≤ x.end

-- Each frame belongs to a state on the stack, and records which outgoing transitions of this state are still to be
-- read. `AreFrames` holds if both of the following conditions hold. First, the frames are in ascending order of the
-- indices of their states on the stack. Second, each frame satisfies `IsFrame`. This means that the transitions that
-- the frame records are the last part of all outgoing transitions of its state.
pub record AreFrames (l : Grouped) (stack : List ℕ) (frames : List Frame) : Type 0 where
  pub ascending : AllPairs (λ x y. x.height < y.height) frames
  pub each : All (IsFrame l stack) frames

-- The stack is divided into components. A component is a strongly connected set of states that are next to each other
-- on the stack. `Connects` holds if paths of inert steps lead from each state on the stack to all states of its
-- component and to all states that are higher on the stack.
abbrev pub Connects : Under → Search → Type 0
Connects u w = (p q : ℕ) → p < length w.stack → q < length w.stack → IsNotBelow w.roots p q →
    LeadsInertly u (slice_index w.stack p) (slice_index w.stack q)

-- The stack is divided into components, which are strongly connected sets of states. Each component collects items:
-- pairs (label ID, block) and signature IDs. A signature ID represents all pairs of the signature with this ID.
-- Consider the component that has collected the item at the index j of the list of items. `IsSound` holds if the
-- signature of some state of this component contains all pairs that the item represents.
abbrev pub IsSound : Under → List (List (ℕ × ℕ)) → Search → ℕ → Type 0
IsSound u signatures w j = (p : ℕ) × (p < length w.stack) × BelongsTo w.roots j p ×
    ((z : ℕ × ℕ) → GivesPair signatures (item_at w.items j) z
    → HasPair Branching u.l u.blocks (slice_index w.stack p) z.0 z.1)

-- An item is a pair (label ID, block) or a signature ID. `IsInternedItem` holds if the item x is a pair, or is the ID
-- of one of the interned signatures.
abbrev pub IsInternedItem : List (List (ℕ × ℕ)) → Item → Type 0
IsInternedItem signatures x = (k : ℕ) → x ≡ Interned k → k < length signatures

-- An item is a pair (label ID, block) or a signature ID. `AreInternedItems` holds if each signature ID in the list of
-- items is the ID of an interned signature.
abbrev pub AreInternedItems : List (List (ℕ × ℕ)) → List Item → Type 0
AreInternedItems signatures = All (IsInternedItem signatures)

-- A place is an index in the list of all transitions. Each frame belongs to a state on the stack, and records which
-- outgoing transitions of this state are still to be read. Let the transition at the place k be an outgoing transition
-- of the state at the index p of the stack. `IsToBeRead` holds if this state has a frame, and the transition at the
-- place k is still to be read according to this frame.
abbrev pub IsToBeRead : Search → ℕ → ℕ → Type 0
IsToBeRead w p k = (i : ℕ) × (i < length w.frames) × ((frame_at w.frames i).height ≡ p)
    × ((frame_at w.frames i).next ≤ k)

-- The stack is divided into components, which are sets of states that can reach each other along inert transitions.
-- `IsInComponent` holds if the state t is on the stack, and is in the same component as the state at the index p of the
-- stack.
abbrev pub IsInComponent : Search → ℕ → ℕ → Type 0
IsInComponent w p t = (q : ℕ) × (stage_at w.stages t ≡ OnStack q) × IsNotBelow w.roots p q × IsNotBelow w.roots q p

-- The stack is divided into components, which are strongly connected sets of states. Each component collects items:
-- pairs (label ID, block) and signature IDs. A signature ID represents all pairs of the signature with this ID.
-- Consider the component that contains the state at the index p of the stack. `IsCollected` holds if the state t is
-- completed, and the items of this component represent all pairs of the cached signature of t.
abbrev pub IsCollected : List (List (ℕ × ℕ)) → Search → ℕ → ℕ → Type 0
IsCollected signatures w p t =
    (k : ℕ) × (stage_at w.stages t ≡ Completed k)
    × ((z : ℕ × ℕ) → Contains (list_at signatures k) z → ComponentHasPair signatures w p z)

-- `IsBeingSearched` holds if the search went from the state at the index p of the stack to the state t and has not yet
-- returned from t.
abbrev pub IsBeingSearched : Search → ℕ → ℕ → Type 0
IsBeingSearched w p t = (i : ℕ) × (i + 1 < length w.frames) × ((frame_at w.frames i).height ≡ p)
    × (slice_index w.stack (frame_at w.frames (i + 1)).height ≡ t)

-- The stack is divided into components, which are sets of states that can reach each other along inert transitions.
-- `IsFollowed` holds if the search has followed an inert step from the state at the index p of the stack to the state
-- t. This means that at least one of three conditions holds. The first condition is that t is on the stack, in the same
-- component as the state at the index p. The second condition is that t is completed, and that the component of the
-- state at the index p has collected all pairs of the cached signature of t. The third condition is that the search
-- went from the state at the index p to t and has not yet returned from t.
abbrev pub IsFollowed : List (List (ℕ × ℕ)) → Search → ℕ → ℕ → Type 0
IsFollowed signatures w p t = IsInComponent w p t ⊎ IsCollected signatures w p t ⊎ IsBeingSearched w p t

-- The stack is divided into components, which are sets of states that can reach each other along inert transitions.
-- `IsHandled` holds if the search has processed the transition e of the state at the index p of the stack. If e is
-- inert, this means that the search has followed e to its target (`IsFollowed`). If e is not inert, this means that the
-- component of the state at the index p has collected the pair (label ID, target block) of e.
pub record IsHandled (u : Under) (signatures : List (List (ℕ × ℕ))) (w : Search) (p : ℕ) (e : Triple) : Type 0 where
  pub shown : ¬ IsInert u (slice_index u.blocks (source_of e)) e
      → ComponentHasPair signatures w p (pair_under u.blocks e)
  pub followed : IsInert u (slice_index u.blocks (source_of e)) e → IsFollowed signatures w p (target_of e)

-- `AreHandled` holds if each transition of each state on the stack was processed (`IsHandled`) or is still to be read
-- (`IsToBeRead`).
abbrev pub AreHandled : Under → List (List (ℕ × ℕ)) → Search → Type 0
AreHandled u signatures w =
    (p k : ℕ) → p < length w.stack → k < length u.l.places → source_of (place_at u.l.places k) ≡ slice_index w.stack p →
    IsToBeRead w p k ⊎ IsHandled u signatures w p (place_at u.l.places k)

-- `SearchInvariant` is the invariant of the depth-first search. It holds before and after each move of the search. In a
-- move, the search processes a transition of a state on the stack, or goes back from a state whose outgoing transitions
-- were all read.
pub record SearchInvariant (u : Under) (signatures : List (List (ℕ × ℕ))) (w : Search) : Type 0 where
  pub sizes : HasVisitStates u.l.states (length signatures) (length w.stack) w.stages
  pub opened : AreOpen w.stages w.stack
  pub signed : AreCacheable u signatures w.stages
  pub roots : AreRoots w
  pub frames : AreFrames u.l w.stack w.frames
  pub connects : Connects u w
  pub there : AreInternedItems signatures w.items
  pub sound : (j : ℕ) → j < length w.items → IsSound u signatures w j
  pub accounted : AreHandled u signatures w
