-- Tests whether given data form a system: whether all labels are valid, and all states are within range.
use Rattle.std.proofs.Common.{◌≡◌, ℕ, ◌≤◌, Bool, true, ltb, leb, ltb-true, leb-true, List, length, All, Contains}
use Rattle.std.proofs.Common.{get_or}
use Rattle.std.proofs.lemmas.List.Elements.{Contains-get_or}
use Rattle.theory.specs.System.{System, Transition, IsSystem, IsAmong, IsLabel}
use Rattle.tests_theory.proofs.Testing.{and_then, and_then_parts, every, every_passes}

-- If the property P holds for each element that a list contains, then P holds for the element at each index of the
-- list.
pub all_from_contains : {X : Type 0} (P : X → Type 0) (xs : List X) → ((x : X) → Contains xs x → P x) → All P xs
all_from_contains P xs h k d l = h (get_or xs k d) (Contains-get_or xs k d l)

-- `is_printable` returns true if the byte b is a printable ASCII character.
abbrev pub is_printable : ℕ → Bool
is_printable b = and_then (leb 0x20 b) (λ _. leb b 0x7E)

abbrev pub is_label : List ℕ → Bool
is_label x = and_then (leb 1 (length x)) (λ _. and_then (leb (length x) 8000) (λ _. every x is_printable))

pub label_passes : (x : List ℕ) → is_label x ≡ true → IsLabel x
label_passes x h =
    let first = and_then_parts (leb 1 (length x)) (λ _. and_then (leb (length x) 8000) (λ _. every x is_printable)) h in
    let second = and_then_parts (leb (length x) 8000) (λ _. every x is_printable) first.1 in
    record {
      not_empty = leb-true 1 (length x) first.0;
      short = leb-true (length x) 8000 second.0;
      printable = all_from_contains (λ b. (0x20 ≤ b) × (b ≤ 0x7E)) x (λ b c.
          let parts = and_then_parts (leb 0x20 b) (λ _. leb b 0x7E) (every_passes x is_printable second.1 b c) in
          (leb-true 0x20 b parts.0, leb-true b 0x7E parts.1));
    }

-- `is_among` returns true if the source and the target of the transition e are less than the number n, and the label of
-- e is valid.
abbrev pub is_among : ℕ → Transition → Bool
is_among n e = and_then (ltb e.source n) (λ _. and_then (is_label e.label) (λ _. ltb e.target n))

abbrev pub is_system : System → Bool
is_system A = and_then (ltb A.first A.states) (λ _. every A.transitions (λ e. is_among A.states e))

pub system_passes : (A : System) → is_system A ≡ true → IsSystem A
system_passes A h =
    let parts = and_then_parts (ltb A.first A.states) (λ _. every A.transitions (λ e. is_among A.states e)) h in
    record {
      first = ltb-true A.first A.states parts.0;
      transitions = all_from_contains (IsAmong A.states) A.transitions (λ e c. let first =
          and_then_parts (ltb e.source A.states) (λ _. and_then (is_label e.label) (λ _. ltb e.target A.states))
          (every_passes A.transitions (λ e. is_among A.states e) parts.1 e c) in
          let second = and_then_parts (is_label e.label) (λ _. ltb e.target A.states) first.1 in
          record {
            source = ltb-true e.source A.states first.0;
            label = label_passes e.label second.0;
            target = ltb-true e.target A.states second.1;
          });
    }
