-- Lemmas about the invariant of the search (`SearchInvariant`), which holds before and after each move of the search. A
-- move is, for example, the push of a state or the completion of a strongly connected component. The file begins with
-- definitions that return parts of the data of a search, and with lemmas about the number of visits (reads of
-- transitions that the meter counts) that a search still has to make. Consequences of the invariant follow. The last
-- lemmas are about a move that does not change the states below some index of the stack. They show that the invariant
-- still holds for these states after the move. The move may intern further signatures.
use Rattle.std.proofs.Common.{ℕ, ◌-◌, ◌<◌, ◌≤◌, List, length, take, get_or, arith, rules, ◌≡◌, ◌∙◌, ◌+◌, false, cond}
use Rattle.std.proofs.Common.{set, map, ap, refl, sym, take_all, slice_index, ◌⊎◌, ◌↔◌, inl, inr, [], ◌∷◌, ◌++◌}
use Rattle.std.specs.List.{All, AllPairs, sum}
use Rattle.std.proofs.lemmas.List.{same_lists, get_or-map, length-map, get_or_default, get_or_past, length_push}
use Rattle.std.proofs.lemmas.List.Sums.{sum-map, sum_by_more, sum_by-set}
use Rattle.std.proofs.lemmas.{List.get_or_push, List.get_or_append_left, List.Elements.All-from_get_or}
use Rattle.std.proofs.lemmas.{List.Elements.filter_agree, Grind.elements, Grind.common_steps, Bool.Decides.nat_tests}
use Rattle.inert.specs.Search.{Search, Frame, Root, top, root_at, stage_at, frame_at, VisitState, Unvisited}
use Rattle.inert.specs.Search.{is_unvisited, unseen, unread, rest, Laws, LeadsInertly, IsSigned, SearchInvariant}
use Rattle.inert.specs.Search.{Completed, AreOpen, item_at, GivesPair, IsNotBelow, BelongsTo, ComponentHasPair}
use Rattle.inert.specs.Search.{IsToBeRead, IsBeingSearched, IsFollowed, IsHandled, IsSound, IsInternedItem, IsRoot}
use Rattle.inert.specs.Search.{AreRoots, OnStack, Item, Pair, Interned, IsCacheable}
use Rattle.inert.specs.SearchMoves.{HasRead, GoesOn, Spends}
use Rattle.inert.specs.{Steps.Under, Signed.HasPair, Signed.pair_under}
use Rattle.lts.specs.Lts.{Triple, source_of, row_of, system_of, place_at}
use Rattle.lts.specs.{Visited.price, Visited.price_between, Meter.Counts}
use Rattle.lts.proofs.CallerLemmas.{length-filter-sum, price_none, price_first}
use Rattle.theory.specs.declared.relation.Relation.TheVariants.{Branching}
use Rattle.signatures.specs.Lists.{Grow}
use Rattle.signatures.proofs.CallerLemmas.{Grow-same, Grow-twice}

-- A component is a strongly connected set of states on the stack. Each frame belongs to a state on the stack, and
-- records which outgoing transitions of this state are still to be read. A root is the first state of a component on
-- the stack. The following two values are the defaults for frames and roots. A default is returned for an index outside
-- a list of frames or roots. All fields of these values are 0.
abbrev pub no_frame : Frame
no_frame = record { height = 0; next = 0; end = 0 }

abbrev pub no_root : Root
no_root = record { height = 0; items = 0 }

-- The current state of the search is the state whose outgoing transitions are being read. Returns the height of the
-- current state, which is the index of this state on the stack.
abbrev pub here : Search → ℕ
here w = (top w.frames).height

-- A component is a strongly connected set of states on the stack. Returns the last root, which is the first state of
-- the component at the top of the stack.
abbrev pub last : List Root → Root
last roots = root_at roots (length roots - 1)

-- A component is a strongly connected set of states on the stack. The root of a component is its first state on the
-- stack. The component collects items, which are pairs (label ID, block) and signature IDs. For each component, the
-- search stores the index at which the items of the component begin in the list of all items. `IsBefore` holds if both
-- of the following conditions hold. First, the root x is below the root y on the stack. Second, the index that is
-- stored for the component of x is not greater than the index that is stored for the component of y.
abbrev pub IsBefore : Root → Root → Type 0
IsBefore x y = (x.height < y.height) × (x.items ≤ y.items)

-- If an element x is appended to a list, the list gets longer by 1, its last element is x, and the other elements stay
-- the same.
pub pushed : {X : Type 0} (xs : List X) (x d : X) → (length (xs ++ x ∷ []) ≡ length xs + 1)
    × (get_or (xs ++ x ∷ []) (length xs) d ≡ x)
    × ((i : ℕ) → i < length xs → get_or (xs ++ x ∷ []) i d ≡ get_or xs i d)
pushed xs x d = (length_push xs x, get_or_push xs x d (length xs) refl, λ i h. get_or_append_left xs (x ∷ []) d i h)

-- Suppose that each element of a list is in a given relation to all elements after it (`AllPairs`). Then, in the list
-- of the first n elements, each element is in this relation to all elements after it.
pub AllPairs-take : {X : Type 0} (R : X → X → Type 0) (n : ℕ) (xs : List X) → AllPairs R xs → AllPairs R (take n xs)
AllPairs-take R n xs old i j d h low = grind (arith, elements, old i j d)

-- Suppose that a property P holds for each of the first n elements of a list and for each element after them. Then P
-- holds for all elements of the list.
pub All-from_take : {X : Type 0} (P : X → Type 0) (n : ℕ) (xs : List X) (d : X) → All P (take n xs) →
    ((i : ℕ) → n ≤ i → i < length xs → P (get_or xs i d)) → All P xs
All-from_take P n xs d first rest = All-from_get_or P xs d (λ i h. grind (arith, elements, rest i, first i d))

-- Suppose that the unvisited state t gets another status m. Then the number of unvisited states decreases by 1, and the
-- number of transitions with an unvisited source decreases by the number of transitions of t.
module _ (stages : List VisitState) (t : ℕ) (m : VisitState) (met : is_unvisited m ≡ false) (below : t < length stages)
    (was : stage_at stages t ≡ Unvisited) where
  pub unseen-set : unseen (set stages t m) + 1 ≡ unseen stages
  unseen-set = grind (arith, sum_by-set (λ x. cond (is_unvisited x) 1 0) stages t m Unvisited below, met, was)

  pub unread-set : (places : List Triple) → unread places (set stages t m) + length (row_of t places)
      ≡ unread places stages
  unread-set places =
      sym (length-filter-sum _ _ _ (λ e. grind (arith, common_steps, nat_tests, met, was, below)) places)

-- Suppose that the same states are unvisited according to the statuses `old` and according to the statuses `new`. Then
-- `old` and `new` have the same number of unvisited states, and the same number of transitions with an unvisited
-- source.
module _ (old new : List VisitState) (same : (s : ℕ) → is_unvisited (stage_at new s) ≡ is_unvisited (stage_at old s))
  where
    pub unseen-same : length new ≡ length old → unseen new ≡ unseen old
    unseen-same size = let f : VisitState → ℕ = λ m. cond (is_unvisited m) 1 0 in
        let maps = same_lists (map f new) (map f old) (search (rules, length-map, size))
        (λ k d h. grind (arith, get_or-map, length-map, size, same k)) in
        sym (sum-map f new) ∙ ap sum maps ∙ sum-map f old

    pub unread-same : (places : List Triple) → unread places new ≡ unread places old
    unread-same places = ap length (filter_agree _ _ (λ e. same (source_of e)) places)

-- A visit is a read of a transition that the meter counts. Each frame belongs to a state on the stack, and records
-- which outgoing transitions of this state are still to be read. Suppose that the next transition of the frame at the
-- index i is read. If this transition was visited before, the number of visits that are needed for the transitions of
-- all frames stays the same. If it was not visited before, this number decreases by 1.
pub rest-next : (visited : List ℕ) (frames : List Frame) (i : ℕ) (x : Frame) → i < length frames →
    x.end ≡ (frame_at frames i).end → x.next ≡ (frame_at frames i).next + 1 →
    (frame_at frames i).next < (frame_at frames i).end →
    rest visited (set frames i x) + price visited (frame_at frames i).next ≡ rest visited frames
rest-next visited frames i x below end next more =
    let one = price_first visited (frame_at frames i).next (frame_at frames i).end more in
    grind (arith, sum_by-set (λ y. price_between visited y.next y.end) frames i x no_frame below, end, next, one)

-- A visit is a read of a transition that the meter counts. Each frame belongs to a state on the stack, and records
-- which outgoing transitions of this state are still to be read. Suppose that no transition of the last frame is still
-- to be read. Then removing the last frame does not change the number of visits that are needed for the transitions of
-- all frames.
pub rest-cut : (visited : List ℕ) (frames : List Frame) → 0 < length frames → (top frames).next ≡ (top frames).end →
    rest visited (take (length frames - 1) frames) ≡ rest visited frames
rest-cut visited frames some read =
    let none = ap (price_between visited (top frames).next) (sym read) ∙ price_none visited (top frames).next in
    grind (arith, common_steps, take_all, sum_by_more, none)

-- Suppose that a path of inert steps leads from the state s to the state t. Then the signature of s contains each pair
-- of the signature of t.
pub pair_before : (laws : Laws) (u : Under) (s t : ℕ) (z : ℕ × ℕ) → LeadsInertly u s t
    → HasPair Branching u.l u.blocks t z.0 z.1 → HasPair Branching u.l u.blocks s z.0 z.1
pair_before laws u s t z tie has = (has.0, laws.path (system_of u.l) (slice_index u.blocks) s t _ z.1 tie has.1)

-- The list `stages` contains the status of each state: unvisited, on the stack, or completed. If the status of each
-- state on the stack is `OnStack` with its index on the stack, then each state on the stack has an entry in this list.
pub open_inside : (stages : List VisitState) (stack : List ℕ) → AreOpen stages stack
    → All (λ s. s < length stages) stack
open_inside stages stack opened =
    All-from_get_or (λ s. s < length stages) stack 0
    (λ p h. grind (arith, get_or_past stages (slice_index stack p) Unvisited, opened.placed p h))

module _ {u : Under} {signatures : List (List (ℕ × ℕ))} {w : Search} (walks : SearchInvariant u signatures w) where
  pub frames_some : 0 < length w.stack → 0 < length w.frames
  frames_some some = grind (arith, walks.roots.first some, walks.roots.each 0 no_root)

  pub on_stack : 0 < length w.frames → here w < length w.stack
  on_stack some = (walks.frames.each (length w.frames - 1) no_frame (omega (arith, some))).on_stack

  pub last_low : 0 < length w.frames → length w.roots - 1 < length w.roots
  last_low some = grind (arith, on_stack some, walks.roots.first)

  -- Each frame belongs to a state on the stack, and records which outgoing transitions of this state are still to be
  -- read. No frame belongs to a state that is higher on the stack than the state of the last frame.
  pub frames_up : (i : ℕ) → i < length w.frames → (frame_at w.frames i).height ≤ here w
  frames_up i low = grind (arith, walks.frames.ascending i (length w.frames - 1) no_frame, low)

  pub not_last : (i : ℕ) → i < length w.frames → (frame_at w.frames i).height < here w → i < length w.frames - 1
  not_last i low before = grind (arith, low, before)

  pub last_frame : (i : ℕ) → i < length w.frames → here w ≤ (frame_at w.frames i).height → i ≡ length w.frames - 1
  last_frame i low high = grind (arith, walks.frames.ascending i (length w.frames - 1) no_frame, low, high)

  -- Each frame belongs to a state on the stack, and records which outgoing transitions of this state are still to be
  -- read. If all outgoing transitions of the state to which the last frame belongs were read, then none of these
  -- transitions is still to be read according to the last frame.
  pub none_ahead : HasRead w → (p k i : ℕ) → k < length u.l.places
      → source_of (place_at u.l.places k) ≡ slice_index w.stack p → i < length w.frames
      → i ≡ length w.frames - 1 → (frame_at w.frames i).height ≡ p → ¬ ((frame_at w.frames i).next ≤ k)
  none_ahead read p k i lk source low e is ahead = search rules

  -- A component is a strongly connected set of states on the stack. The root of a component is its first state on the
  -- stack. No root is higher on the stack than the current state, which is the state whose outgoing transitions are
  -- being read.
  pub reached : All (λ r. r.height ≤ here w) w.roots
  reached i d h = let (j, low, is) = (walks.roots.each i d h).framed in omega (arith, frames_up j low, is)

  pub root_low : All (λ r. r.height < length w.stack) w.roots
  root_low i d h = search rules

  -- A component is a strongly connected set of states on the stack. The root of a component is its first state on the
  -- stack, and the last component is at the top of the stack. Each component collects items, which are pairs (label ID,
  -- block) and signature IDs. No root is higher on the stack than the root of the last component. In the list of all
  -- items, the items of no component begin at a greater index than the items of the last component.
  pub last_most : All (λ r. (r.height ≤ (last w.roots).height) × (r.items ≤ (last w.roots).items)) w.roots
  last_most i d h = grind (arith, walks.roots.ascending i (length w.roots - 1) d, get_or_default)

  -- The current state is the state whose outgoing transitions are being read. Paths of inert steps lead from each state
  -- on the stack to the current state.
  pub ties : (p : ℕ) → p < length w.stack → LeadsInertly u (slice_index w.stack p) (slice_index w.stack (here w))
  ties p low = walks.connects p (here w) low (on_stack (frames_some (omega (arith, low)))) (λ i d h _. reached i d h)

-- The status of a completed state contains a signature ID. Suppose that the state t is completed, and that its status
-- contains the signature ID k. If t shares a block with some state on the stack, then k is the ID of the signature of
-- t.
pub list_signed : {u : Under} {signatures : List (List (ℕ × ℕ))} {w : Search} → SearchInvariant u signatures w
    → (p t k : ℕ) → p < length w.stack → slice_index w.stack p < u.l.states
    → slice_index u.blocks t ≡ slice_index u.blocks (slice_index w.stack p) → stage_at w.stages t ≡ Completed k
    → IsSigned u t signatures k
list_signed {w = w} walks p t k low inside same is =
    let cached = walks.signed t k is in
    grind (arith, cached.within, cached.signature (slice_index w.stack p) inside (sym same), walks.opened.placed p low)

-- The stack is divided into components, which are strongly connected sets of states. Each component collects items:
-- pairs (label ID, block) and signature IDs. A signature ID represents all pairs of the signature with this ID.
-- `AreSound` holds if each item satisfies the following condition (`IsSound`). The signature of some state of the
-- component that has collected the item contains all pairs that the item represents.
abbrev pub AreSound : Under → List (List (ℕ × ℕ)) → Search → Type 0
AreSound u signatures w = (j : ℕ) → j < length w.items → IsSound u signatures w j

-- The stack is divided into components, which are strongly connected sets of states. Each component collects items:
-- pairs (label ID, block) and signature IDs. The root of a component is its first state on the stack. The search has
-- the data w before a move, and the data `new` after the move. `KeepsStack` holds if all five of the following
-- conditions hold. First, the move changes neither the states below the index n of the stack nor their statuses.
-- Second, if a component of w contains a state below the index n, all states of this component are below the index n.
-- Third, the move does not change the items that the components below the index n have collected. Fourth, each root of
-- `new` is a root of w, or its index on the stack is at least n and the items of its component come after all items of
-- w. Fifth, each state that is completed in w is completed in `new` with the same signature ID. The number n must be at
-- most the number of states on the stack of w.
pub record KeepsStack (w new : Search) (n : ℕ) : Type 0 where
  pub within : n ≤ length w.stack
  pub states : (p : ℕ) → p < n → slice_index new.stack p ≡ slice_index w.stack p
  pub below : (p q : ℕ) → p < n → q < length w.stack → IsNotBelow w.roots q p → q < n
  pub roots : (i : ℕ) (d : Root) → i < length new.roots → ((i < length w.roots) × (get_or new.roots i d
      ≡ get_or w.roots i d)) ⊎ ((n ≤ (get_or new.roots i d).height) × (length w.items ≤ (get_or new.roots i d).items))
  pub items : (j p : ℕ) → j < length w.items → p < n → BelongsTo w.roots j p →
      (j < length new.items) × (item_at new.items j ≡ item_at w.items j)
  pub opened : (s p : ℕ) → p < n → stage_at w.stages s ≡ OnStack p → stage_at new.stages s ≡ OnStack p
  pub finished : (s k : ℕ) → stage_at w.stages s ≡ Completed k → stage_at new.stages s ≡ Completed k

-- A component is a strongly connected set of states on the stack, and its root is its first state on the stack.
-- `AreRoots` states that the roots of all components are in order. Suppose that a move changes the frames and the items
-- of the search, but not the roots. A frame records which outgoing transitions of a state on the stack are still to be
-- read, and an item is a pair (label ID, block) or a signature ID. If each root still satisfies `IsRoot` after the
-- move, then `AreRoots` still holds.
pub roots_kept : {w : Search} → AreRoots w → (frames : List Frame) (items : List Item) →
    All (IsRoot frames items) w.roots → AreRoots (record w { frames = frames; items = items })
roots_kept roots frames items each = record { first = roots.first; ascending = roots.ascending; each = each }

-- An item is a pair (label ID, block) or a signature ID, and a signature ID represents all pairs of its signature.
-- Suppose that more signatures are interned. Then each item represents the same pairs as before.
GivesPair-grow : {signatures lists' : List (List (ℕ × ℕ))} → Grow signatures lists' → (x : Item)
    → IsInternedItem signatures x → (z : ℕ × ℕ) → GivesPair signatures x z ↔ GivesPair lists' x z
GivesPair-grow grow (Pair a b) there z = (λ g. g, λ g. g)
GivesPair-grow grow (Interned k) there z = search (rules, grow.same)

-- These lemmas assume that a move of the search does not change the states below the index n of the stack
-- (`KeepsStack`), and that the table of interned signatures grows from `signatures` to `lists'`.
module _ {u : Under} {signatures lists' : List (List (ℕ × ℕ))} (grow : Grow signatures lists') {w : Search}
    (walks : SearchInvariant u signatures w) {new : Search} {n : ℕ} (keeps : KeepsStack w new n) where
  up_still : (p q : ℕ) → p < n → IsNotBelow w.roots p q → IsNotBelow new.roots p q
  up_still p q h up i d low = grind (arith, keeps.roots i d low, up i d)

  of_still : (j p : ℕ) → j < length w.items → p < n → BelongsTo w.roots j p → BelongsTo new.roots j p
  of_still j p low h of i d low' = grind (arith, keeps.roots i d low', of i d)

  holds_still : (p : ℕ) (z : ℕ × ℕ) → p < n → ComponentHasPair signatures w p z → ComponentHasPair lists' new p z
  holds_still p z h (j, low, g, of) = let (low', same) = keeps.items j p low h of in
      let g' = (GivesPair-grow grow (item_at w.items j) (walks.there j (Pair 0 0) low) z).0 g in
      (j, low', rw same g', of_still j p low h of)

  followed_still : (p t : ℕ) → p < n → (IsBeingSearched w p t → IsFollowed lists' new p t)
      → IsFollowed signatures w p t → IsFollowed lists' new p t
  followed_still p t h with_pushed (inl (q, is, up, down)) =
      let low = keeps.below p q h (walks.opened.only t q is).0 down in
      inl (q, keeps.opened t q low is, up_still p q h up, up_still q p low down)
  followed_still p t h with_pushed (inr (inl (k, is, all))) = let same = grow.same k (walks.signed t k is).within in
      inr (inl (k, keeps.finished t k is, λ z c. holds_still p z h (all z (rw same at c))))
  followed_still p t h with_pushed (inr (inr e)) = with_pushed e

  pub done_still : (p : ℕ) (e : Triple) → p < n → ((t : ℕ) → IsBeingSearched w p t → IsFollowed lists' new p t)
      → IsHandled u signatures w p e → IsHandled u lists' new p e
  done_still p e h with_pushed done = record {
    shown = λ other. holds_still p (pair_under u.blocks e) h (done.shown other);
    followed = λ inert. followed_still p e.2 h (with_pushed e.2) (done.followed inert);
  }

  -- Suppose that a move of the search does not change the states below the index n of the stack. Let s be one of these
  -- states, and let e be a transition of s. Suppose that two conditions hold. First, if e was still to be read before
  -- the move, then after the move e is still to be read or has been processed. Second, if before the move the search
  -- had gone from s to a state and had not yet returned from this state, then after the move the search has followed an
  -- inert step from s to this state (`IsFollowed`). Then e is still to be read or has been processed after the move.
  pub accounted_still : (p k : ℕ) → p < n → k < length u.l.places
      → source_of (place_at u.l.places k) ≡ slice_index new.stack p
      → (IsToBeRead w p k → IsToBeRead new p k ⊎ IsHandled u lists' new p (place_at u.l.places k))
      → ((t : ℕ) → IsBeingSearched w p t → IsFollowed lists' new p t)
      → IsToBeRead new p k ⊎ IsHandled u lists' new p (place_at u.l.places k)
  accounted_still p k h low source ahead with_pushed =
      search (rules, keeps.within, walks.accounted, keeps.states, done_still, u.l.places)

  -- The stack is divided into components, which are strongly connected sets of states. Each component collects items:
  -- pairs (label ID, block) and signature IDs. Suppose that a move of the search does not change the states below the
  -- index n of the stack. Consider an item, and suppose that all states of the component that has collected this item
  -- are below the index n. Then, after the move, the signature of some state of this component still contains all pairs
  -- that the item represents (`IsSound`).
  pub sound_still : (j : ℕ) → j < length w.items → n ≤ length new.stack →
      ((p : ℕ) → p < length w.stack → BelongsTo w.roots j p → p < n) → IsSound u lists' new j
  sound_still j low room below = let (p, lp, of, all) = walks.sound j low in let h = below p lp of in
      let same = (keeps.items j p low h of).1 in
      let give = (GivesPair-grow grow (item_at w.items j) (walks.there j (Pair 0 0) low)) in (
        p,
        omega (arith, h, room),
        of_still j p low h of,
        λ z g. rw (keeps.states p h) (all z ((give z).1 (rw same at g))),
      )

-- Suppose that each state that is completed at one point of the search is also completed at a later point, with the
-- same signature ID. The search may intern more signatures between the two points. If the signature with the ID k may
-- be cached for the state s at the first point (`IsCacheable`), it may also be cached for s at the later point.
pub kept_still : {signatures lists' : List (List (ℕ × ℕ))} → Grow signatures lists' → (u : Under)
    (old new : List VisitState) → ((s k : ℕ) → stage_at old s ≡ Completed k → stage_at new s ≡ Completed k)
    → (s k : ℕ) → IsCacheable u s signatures old k → IsCacheable u s lists' new k
kept_still grow u old new still s k was =
    grind (arith, was, was.signature, still, grow.longer, grow.same k was.within)

-- Let `old` and `new` be the data of the search at two points. Suppose that the invariant of the search holds for
-- `new`, and that no state has changed its status (unvisited, on the stack, or completed) since `old`. Suppose also
-- that the meter has counted no round, and exactly the visits that the search no longer has to make (`Spends`). Then
-- the search has gone on from `old` to `new` (`GoesOn`).
pub stays_on : {u : Under} {signatures : List (List (ℕ × ℕ))} {first second : Counts} {old new : Search}
    → SearchInvariant u signatures new → new.stages ≡ old.stages → Spends u first second old new
    → GoesOn u signatures signatures first second old new
stays_on {signatures = signatures} walks same spends = grind (arith, walks, same, Grow-same signatures, spends)

-- `GoesOn` is transitive. If the search goes on from the point `old` to the point `mid`, and from `mid` to the point
-- `new`, then it goes on from `old` to `new`.
pub goes_on : {u : Under} {earliest before signatures : List (List (ℕ × ℕ))} {first second third : Counts}
    {old mid new : Search} → GoesOn u earliest before first second old mid
    → GoesOn u before signatures second third mid new → GoesOn u earliest signatures first third old new
goes_on were are = record {
  walks = are.walks;
  grow = Grow-twice were.grow are.grow;
  seen = grind (arith, were.seen, are.seen);
  signs = λ s k is. grind (arith, are.signs s k is, were.signs s k, are.grow.longer, are.grow.same);
  spends = omega (arith, were.spends, are.spends);
}
