-- The leader of a class of bisimilar reachable states is the state of the system that represents this class. In the
-- quotient, each class becomes one state, and the class number of the class is the number of this quotient state. If
-- two systems have the same steps (`SameSteps`), they have the same leaders, class numbers and quotients. If the
-- transitions of a quotient of A are reordered, the result is also a quotient of A.
use Rattle.std.proofs.Common.{◌≡◌, ◌≢◌, ◌↔◌, ℕ, ◌<◌, sym, ◌∙◌, subst, inl, inr}
use Rattle.std.specs.List.Sorted.{IsPermutation}
use Rattle.std.proofs.lemmas.List.Sorted.{IsPermutation-sym, Contains-permutation}
use Rattle.theory.specs.System.{System, Transition}
use Rattle.theory.specs.Bisimulation.{Bisimilar}
use Rattle.theory.specs.declared.relation.Relation.{Relation}
use Rattle.theory.specs.Quotient.{HowMany, Least, Fellow, Leader, IsLeader, Number, IsQuotientStep, Quotient}
use Rattle.theory.specs.Alike.{SameSteps}
use Rattle.theory.proofs.Tally.{how_many_like}
use Rattle.theory.proofs.AlikeSystems.{same_steps_sym, reachable_alike, bisimilar_alike}
use Rattle.theory.proofs.Reordering.{all_pairs_permutation}

-- Suppose that two properties hold for the same numbers. Then the least number with the first property is also the
-- least number with the second property.
least_like : (P Q : ℕ → Type 0) (n : ℕ) → ((k : ℕ) → P k ↔ Q k) → Least P n → Least Q n
least_like P Q n like (held, least) = ((like n).0 held, λ k q. least k ((like k).1 q))

first_alike : (rel : Relation) (A B : System) → SameSteps A B → (s : ℕ) → Bisimilar rel A s A A.first →
    Bisimilar rel B s B B.first
first_alike rel A B same s b =
    subst (λ x. Bisimilar rel B s B x) same.first (bisimilar_alike rel A B A B s A.first same same b)

fellow_alike : (rel : Relation) (A B : System) → SameSteps A B → (s t : ℕ) → Fellow rel A s t → Fellow rel B s t
fellow_alike rel A B same s t (path, b) = (reachable_alike A B same t path, bisimilar_alike rel A B A B s t same same b)

leader_alike : (rel : Relation) (A B : System) → SameSteps A B → (s l : ℕ) → Leader rel A s l → Leader rel B s l
leader_alike rel A B same s l (inl (b, is)) = inl (first_alike rel A B same s b, is ∙ same.first)
leader_alike rel A B same s l (inr (apart, least)) =
    let back : SameSteps B A = same_steps_sym A B same in
    inr (
      λ b. apart (first_alike rel B A back s b),
      least_like (Fellow rel A s) (Fellow rel B s) l
          (λ t. (fellow_alike rel A B same s t, fellow_alike rel B A back s t)) least,
    )

is_leader_alike : (rel : Relation) (A B : System) → SameSteps A B → (l : ℕ) → IsLeader rel A l → IsLeader rel B l
is_leader_alike rel A B same l (s, path, leader) =
    (s, reachable_alike A B same s path, leader_alike rel A B same s l leader)

-- States are numbers. `Earlier` holds if the state m is a leader (the state that represents its class), is less than
-- the number l, and is not the first state.
abbrev Earlier : Relation → System → ℕ → ℕ → Type 0
Earlier rel A l m = IsLeader rel A m × (m < l) × (m ≢ A.first)

earlier_alike : (rel : Relation) (A B : System) → SameSteps A B → (l m : ℕ) → Earlier rel A l m → Earlier rel B l m
earlier_alike rel A B same l m (leads, low, other) =
    (is_leader_alike rel A B same m leads, low, λ e. other (e ∙ sym same.first))

number_alike : (rel : Relation) (A B : System) → SameSteps A B → (s n : ℕ) → Number rel A s n → Number rel B s n
number_alike rel A B same s n (l, leader, inl p) =
    (l, leader_alike rel A B same s l leader, inl (p.0 ∙ same.first, p.1))
number_alike rel A B same s n (l, leader, inr (other, k, many, is)) =
    let back : SameSteps B A = same_steps_sym A B same in (
      l,
      leader_alike rel A B same s l leader,
      inr (
        λ e. other (e ∙ sym same.first),
        k,
        how_many_like (Earlier rel A l) (Earlier rel B l) k
            (λ m. (earlier_alike rel A B same l m, earlier_alike rel B A back l m)) many,
        is,
      ),
    )

stands_alike : (rel : Relation) (A B : System) → SameSteps A B → (e : Transition) → IsQuotientStep rel A e
    → IsQuotientStep rel B e
stands_alike rel A B same e (s, t, path, step, source, target) = (
  s,
  t,
  reachable_alike A B same s path,
  (same.steps s e.label t).0 step,
  number_alike rel A B same s e.source source,
  number_alike rel A B same t e.target target,
)

pub quotient_alike : (rel : Relation) (A B Q : System) → SameSteps A B → Quotient rel A Q → Quotient rel B Q
quotient_alike rel A B Q same quotient =
    let back : SameSteps B A = same_steps_sym A B same in
    record {
      states = how_many_like (IsLeader rel A) (IsLeader rel B) Q.states
          (λ l. (is_leader_alike rel A B same l, is_leader_alike rel B A back l)) quotient.states;
      first = quotient.first;
      transitions = λ e. (
        λ c. let h = (quotient.transitions e).0 c in (stands_alike rel A B same e h.0, h.1),
        λ h. (quotient.transitions e).1 (stands_alike rel B A back e h.0, h.1),
      );
      once = quotient.once;
    }

-- If the transitions of a quotient of A are reordered, the result is also a quotient of A.
pub quotient_reordered : (rel : Relation) (A Q R : System) → R.first ≡ Q.first → R.states ≡ Q.states
    → IsPermutation R.transitions Q.transitions → Quotient rel A Q → Quotient rel A R
quotient_reordered rel A Q R first states moved quotient =
    let turned = IsPermutation-sym R.transitions Q.transitions moved in
    record {
      states = subst (HowMany (IsLeader rel A)) (sym states) quotient.states;
      first = first ∙ quotient.first;
      transitions = λ e. (
        λ c. (quotient.transitions e).0 (Contains-permutation R.transitions Q.transitions e moved c),
        λ h. Contains-permutation Q.transitions R.transitions e turned ((quotient.transitions e).1 h),
      );
      once = all_pairs_permutation (λ e f. e ≢ f) (λ e f differ same. differ (sym same)) Q.transitions R.transitions
          turned quotient.once;
    }
