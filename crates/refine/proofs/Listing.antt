-- Lemmas about lists that are stored as ranges (spans) of one buffer. The lemmas show what happens when another list is
-- appended to the buffer.
use Rattle.std.proofs.Common.{rules, ◌≡◌, ℕ, List, [], ◌∷◌, ◌++◌, length, refl, arith, length-append, All, slice_range}
use Rattle.std.proofs.lemmas.{List.map-append, List.Elements.All-head, List.Elements.All-tail, List.Elements.All-append}
use Rattle.refine.specs.{declared.buffer.Span.Span, Spans.signatures_in, Spans.IsSpan}
use Rattle.signatures.proofs.CallerLemmas.{All-only, slice_range-append, slice_range-last}

-- `Stores` holds if both of the following conditions hold. First, each element of `spans` is a range of indices of the
-- buffer `pairs` (`IsSpan`). Second, the lists that are stored in these ranges are the elements of `lists`, in the same
-- order.
pub record Stores (pairs : List (ℕ × ℕ)) (spans : List Span) (lists : List (List (ℕ × ℕ))) : Type 0 where
  pub ranges : All (IsSpan pairs) spans
  pub are : signatures_in pairs spans ≡ lists

-- Suppose that more pairs are appended to the buffer. Then each range of the buffer that stores a list still stores the
-- same list.
signatures_in-more : (pairs more : List (ℕ × ℕ)) (spans : List Span) → All (IsSpan pairs) spans →
    signatures_in (pairs ++ more) spans ≡ signatures_in pairs spans
signatures_in-more pairs more [] are = refl
signatures_in-more pairs more (x ∷ xs) are =
    let its = All-head (IsSpan pairs) x xs are in
    rw (
      slice_range-append pairs more x.start x.end its.forward its.within,
      signatures_in-more pairs more xs (All-tail (IsSpan pairs) x xs are),
    )

-- Suppose that the pairs of a list are appended to the buffer, and that the span of this list is appended to the list
-- of spans. Then the new list is the last stored list, and the stored lists before it are the same as before.
pub Stores-push : {pairs : List (ℕ × ℕ)} {spans : List Span} {lists : List (List (ℕ × ℕ))} {new : Span}
    (list : List (ℕ × ℕ)) → Stores pairs spans lists → new.start ≡ length pairs → new.end ≡ length (pairs ++ list) →
    Stores (pairs ++ list) (spans ++ new ∷ []) (lists ++ list ∷ [])
Stores-push {pairs} {spans} {new = new} list stored start end =
    let long = length-append pairs list in
    let last : slice_range (pairs ++ list) new.start new.end ≡ list =
    rw start (slice_range-last pairs list new.end (omega (arith, end, long))) in
    let kept : (x : Span) → IsSpan pairs x → IsSpan (pairs ++ list) x = λ x is. search (rules, is, long) in
    let own : IsSpan (pairs ++ list) new = search (rules, start, end, long) in
    record {
      ranges = search (rules, All-append, All-only, kept, stored.ranges, own);
      are = search (rules, map-append, signatures_in-more, last, stored);
    }
