-- Defines the moves of the depth-first search along inert transitions, and the measures of its progress. In each move,
-- the search processes a transition, or goes back from a state whose outgoing transitions were all read. Each frame
-- belongs to a state on the stack, and records which outgoing transitions of this state are still to be read. The stack
-- is divided into components, which are sets of states that can reach each other along inert transitions. The root of a
-- component is its first state on the stack.
use Rattle.std.specs.Prelude.{◌≡◌, ◌⊎◌, ◌↔◌, ℕ, ◌+◌, ◌*◌, ◌-◌, ◌<◌, ◌≤◌, List, [], ◌∷◌, ◌++◌, length, take, drop}
use Rattle.std.specs.Prelude.{slice_index, slice_set, Bool, IsTrue}
use Rattle.std.specs.List.{Contains}
use Rattle.std.specs.List.Sorted.{IsStrictlySortedBy}
use Rattle.lts.specs.{Lts.Triple, Lts.IsRow, Meter.Counts, Meter.Costs}
use Rattle.signatures.specs.Lists.{list_at, pair_cmp, Grow}
use Rattle.inert.specs.Search.{Search, nothing, stage_at, top, root_at, GivesPair, IsSigned}
use Rattle.inert.specs.Search.{SearchInvariant, VisitState}
use Rattle.inert.specs.Search.{Unvisited, OnStack, Completed, Root, Item, Pair, Interned, unseen, unread, rest}
use Rattle.inert.specs.Search.{KeepsVisited}
use Rattle.inert.specs.Steps.{Under, remaining}
use Rattle.inert.specs.declared.lens.Step.{Step}
pub use Rattle.inert.specs.declared.lens.Step.TheVariants.{Inert, Shows}

-- A component is a set of states on the stack that can reach each other along inert transitions. Returns the data of
-- the search w after the state s was pushed on the stack as a component of its own. The items of a component are pairs
-- (label ID, block) and signature IDs. The items of the new component begin at the index `items` of the list of all
-- items. The frame of s records which outgoing transitions of s are still to be read. In the list of all transitions,
-- these transitions have the indices k with `next` <= k < `end`.
abbrev pub with_pushed : ℕ → ℕ → ℕ → ℕ → Search → Search
with_pushed s next end items w = record w {
  stages = slice_set w.stages s (OnStack (length w.stack));
  stack = w.stack ++ s ∷ [];
  frames = w.frames ++ record { height = length w.stack; next = next; end = end } ∷ [];
  roots = w.roots ++ record { height = length w.stack; items = items } ∷ [];
}

-- A component is a set of states on the stack that can reach each other along inert transitions. The root of a
-- component is its first state on the stack, and the height of a root is its index on the stack. `CutsRoots` is about
-- two lists `old` and `new` of roots, and about an index q on the stack. It holds if all three of the following
-- conditions hold. First, `new` is a prefix of `old`. Second, each root of `old` that is not in this prefix has a
-- height greater than q. Third, if `new` is not empty, the last root of `new` has a height of at most q.
pub record CutsRoots (q : ℕ) (old new : List Root) : Type 0 where
  pub count : ℕ
  pub roots : new ≡ take count old
  pub within : count ≤ length old
  pub above : (i : ℕ) → count ≤ i → i < length old → q < (root_at old i).height
  pub below : 0 < count → (root_at old (count - 1)).height ≤ q

-- An item is a pair (label ID, block) or a signature ID. Returns the data of the search w after the item x was appended
-- to its list of items.
abbrev pub with_item : Item → Search → Search
with_item x w = record w { items = w.items ++ x ∷ [] }

-- `LeadsOn` holds if the transition `step` is inert and its target t is unvisited or on the stack.
abbrev pub LeadsOn : List VisitState → Step → Type 0
LeadsOn stages step =
    (t : ℕ) × (step ≡ Inert t) × ((stage_at stages t ≡ Unvisited) ⊎ ((q : ℕ) × (stage_at stages t ≡ OnStack q)))

-- A component is a set of states on the stack that can reach each other along inert transitions. `HandlesStep` holds if
-- the search has the data `old` before it processes the transition `step`, and the data `new` afterwards. If the
-- transition is not inert, the search collects the pair (label ID, target block) of the transition. If the transition
-- is inert and leads to the state t, there are three cases. If t is unvisited, the search pushes t. If t is on the
-- stack, the search merges the component of t with all components above it. If t is completed, the search collects the
-- ID of the cached signature of t. The flag `enters` is true if and only if the search pushes a state.
abbrev pub HandlesStep : List Triple → Step → Search → Search → Bool → Type 0
HandlesStep places (Shows a b) old new enters = (new ≡ with_item (Pair a b) old) × ¬ IsTrue enters
HandlesStep places (Inert t) old new enters =
    ((stage_at old.stages t ≡ Unvisited) × ((start end : ℕ) × IsRow places t start end
    × (new ≡ with_pushed t start end (length old.items) old)) × IsTrue enters)
    ⊎ ((q : ℕ) × (stage_at old.stages t ≡ OnStack q) × CutsRoots q old.roots new.roots
    × (new ≡ record old { roots = new.roots }) × ¬ IsTrue enters)
    ⊎ ((k : ℕ) × (stage_at old.stages t ≡ Completed k) × (new ≡ with_item (Interned k) old) × ¬ IsTrue enters)

-- An item is a pair (label ID, block) or a signature ID. `IsItemOf` holds if the given item is a pair of the signature
-- with the ID k, or is the signature ID k itself.
abbrev pub IsItemOf : List (List (ℕ × ℕ)) → ℕ → Item → Type 0
IsItemOf signatures k (Pair a b) = Contains (list_at signatures k) (a, b)
IsItemOf signatures k (Interned j) = j ≡ k

-- An item is a pair (label ID, block) or a signature ID. `AreCollected` holds if both of the following conditions hold.
-- First, the list `signature_ids` contains exactly the signature IDs that are in the list `items`. Second, the list
-- `pairs` contains exactly the pairs that are in the list `items`.
pub record AreCollected (items : List Item) (signature_ids : List ℕ) (pairs : List (ℕ × ℕ)) : Type 0 where
  pub named : (k : ℕ) → Contains signature_ids k ↔ Contains items (Interned k)
  pub own : (a b : ℕ) → Contains pairs (a, b) ↔ Contains items (Pair a b)

-- An item is a pair (label ID, block) or a signature ID. A signature ID represents all pairs of the signature with this
-- ID. Let `before` be the table of interned signatures at one point, and let `after` be the table at a later point.
-- `IsUnionOfItems` holds if both of the following conditions hold. First, each signature of the table `before` has the
-- same ID in the table `after`. Second, the signature with the ID k in the table `after` contains exactly the pairs
-- that the items in the list `items` represent, in strictly ascending order.
pub record IsUnionOfItems (items : List Item) (before after : List (List (ℕ × ℕ))) (k : ℕ) : Type 0 where
  pub within : k < length after
  pub grow : Grow before after
  pub exactly : (z : ℕ × ℕ) → Contains (list_at after k) z ↔ ((x : Item) × Contains items x × GivesPair before x z)
  pub ascending : IsStrictlySortedBy pair_cmp (list_at after k)

-- The lists `old` and `new` contain the statuses of all states at two points of the search. `Finishes` holds if all
-- three of the following conditions hold. First, each state on the stack whose index on the stack is at least f is
-- completed in `new` with the signature ID `id`. Second, every other state has the same status in both lists. Third,
-- both lists have the same length.
pub record Finishes (stack : List ℕ) (f id : ℕ) (old new : List VisitState) : Type 0 where
  pub size : length new ≡ length old
  pub members : (p : ℕ) → f ≤ p → p < length stack → stage_at new (slice_index stack p) ≡ Completed id
  pub others : (s : ℕ) → (stage_at new s ≡ stage_at old s) ⊎ ((p : ℕ) × (f ≤ p) × (p < length stack)
      × (slice_index stack p ≡ s))

-- A component is a set of states on the stack that can reach each other along inert transitions. The items that a
-- component collects are pairs (label ID, block) and signature IDs. `Closes` holds if the search has the data `old`
-- before it completes the component at the top of the stack, and the data `new` afterwards. The argument `root` is the
-- root of this component, which is its first state on the stack. The field `id` is the ID of a signature that contains
-- exactly the pairs that the items of the component represent (`IsUnionOfItems`). The states of the component are
-- completed with this signature ID, and are removed from the stack. The items of the component are removed from the
-- list of items, and its root is removed from the list of roots. The list of frames does not change. If the search came
-- to the component from a state of another component, that other component collects `id` as an item.
pub record Closes (root : Root) (before after : List (List (ℕ × ℕ))) (old new : Search) : Type 0 where
  pub id : ℕ
  pub listed : IsUnionOfItems (drop root.items old.items) before after id
  pub stages : Finishes old.stack root.height id old.stages new.stages
  pub stack : new.stack ≡ take root.height old.stack
  pub frames : new.frames ≡ old.frames
  pub roots : new.roots ≡ take (length old.roots - 1) old.roots
  pub led : 0 < length old.frames → new.items ≡ take root.items old.items ++ Interned id ∷ []
  pub alone : length old.frames ≡ 0 → new.items ≡ take root.items old.items

-- Each frame belongs to a state on the stack, and records which outgoing transitions of this state are still to be
-- read. A visit is a read of a transition that the meter counts. Returns the number of visits that are needed to read
-- all outgoing transitions of unvisited states and the transitions that the frames record.
abbrev pub ahead : Under → Search → ℕ
ahead u w = unread (remaining u) w.stages + rest u.visited w.frames

-- A visit is a read of a transition that the meter counts. The search has the data `old` and the meter has the counts
-- `first` at one point. At a later point, the search has the data `new` and the meter has the counts `second`. `Spends`
-- holds if both of the following conditions hold. First, the meter has counted no round between the two points, and at
-- most as many visits as the search still had to make at the first point (`ahead`). Second, the number of counted
-- visits plus the number of visits that the search still has to make is the same at both points.
pub record Spends (u : Under) (first second : Counts) (old new : Search) : Type 0 where
  pub cost : Costs first second 0 0 (ahead u old)
  pub visits : second.visits + ahead u new ≡ first.visits + ahead u old

-- A frame records which outgoing transitions of a state are still to be read. The search pushes a frame together with
-- each state, and pops the frame after all of these transitions were read. Returns an upper bound for the number of
-- states that the search still pushes plus the number of frames that it still pops. The bound decreases whenever a
-- state is pushed or a frame is popped.
abbrev pub steps : Search → ℕ
steps w = 2 * unseen w.stages + length w.frames

-- Each frame belongs to a state on the stack, and records which outgoing transitions of this state are still to be
-- read. `HasRead` holds if all outgoing transitions of the state to which the last frame belongs were read.
abbrev pub HasRead : Search → Type 0
HasRead w = (top w.frames).next ≡ (top w.frames).end

-- The lists `old` and `new` contain the statuses of all states at two points of the search. `SignsMore` holds if each
-- state that is completed in `new` satisfies at least one of two conditions. The first condition is that the state has
-- the same status in both lists. The second condition is that the status of the state in `new` contains the ID of its
-- branching signature.
abbrev pub SignsMore : Under → List (List (ℕ × ℕ)) → List VisitState → List VisitState → Type 0
SignsMore u signatures old new =
    (s k : ℕ) → stage_at new s ≡ Completed k → (stage_at old s ≡ Completed k) ⊎ IsSigned u s signatures k

-- The search has the data `old` at one point, and the data `new` at another point. The meter has the counts `first` at
-- the first point, and `second` at the second point. The list of interned signatures is `before` at the first point,
-- and `signatures` at the second point. `GoesOn` holds if all five of the following conditions hold. First, the
-- invariant of the search holds at the second point (`SearchInvariant`). Second, each signature of `before` has the
-- same ID in `signatures`. Third, each state that is unvisited in `new` is also unvisited in `old`, and each state that
-- is completed in `old` has the same status in `new` (`KeepsVisited`). Fourth, each state that is completed in `new`
-- has the same status in `old`, or its status in `new` contains the ID of its branching signature (`SignsMore`). Fifth,
-- between the two points the meter has counted no round, and exactly the visits that the search no longer has to make
-- (`Spends`). A visit is a read of a transition that the meter counts.
pub record GoesOn (u : Under) (before signatures : List (List (ℕ × ℕ))) (first second : Counts) (old new : Search) :
    Type 0 where
  pub walks : SearchInvariant u signatures new
  pub grow : Grow before signatures
  pub seen : KeepsVisited old.stages new.stages
  pub signs : SignsMore u signatures old.stages new.stages
  pub spends : Spends u first second old new

-- The search has the data `old` before a call of `read`, and the data `new` after the call. The call reads outgoing
-- transitions of the current state of the search. Each frame belongs to a state on the stack, and records which
-- outgoing transitions of this state are still to be read. The function `steps` returns an upper bound for the number
-- of states that are still to be pushed plus the number of frames that are still to be popped. If the call has pushed a
-- state (`enters`), `MakesProgress` states that this bound has decreased. If the call has not pushed a state,
-- `MakesProgress` states that there is still a frame, that all outgoing transitions of the current state were read, and
-- that the bound has not increased.
abbrev pub MakesProgress : Search → Search → Bool → Type 0
MakesProgress old new enters = (IsTrue enters → steps new < steps old)
    × (¬ IsTrue enters → HasRead new × (0 < length new.frames) × (steps new ≤ steps old))

-- `IsAtRest` is about the data w of the search. It holds if both of the following conditions hold. First, w satisfies
-- the invariant of the search (`SearchInvariant`). Second, no search is in progress, which means that the stack and all
-- other lists of w are empty.
pub record IsAtRest (u : Under) (signatures : List (List (ℕ × ℕ))) (w : Search) : Type 0 where
  pub empty : w ≡ nothing w.stages
  pub walks : SearchInvariant u signatures w

-- The search has the data `old` at one point, and the data `new` at another point. The meter has the counts `first` at
-- the first point, and `second` at the second point. The list of interned signatures is `before` at the first point,
-- and `signatures` at the second point. `ReturnsToRest` holds if both of the following conditions hold. First, the
-- search has gone on from the first point to the second point (`GoesOn`). Second, no search is in progress at the
-- second point, which means that the stack and all other lists of `new` are empty.
pub record ReturnsToRest (u : Under) (before signatures : List (List (ℕ × ℕ))) (first second : Counts)
    (old new : Search) : Type 0 where
  pub empty : new ≡ nothing new.stages
  pub on : GoesOn u before signatures first second old new
