use Rattle.std.proofs.Common.{rules, ◌≡◌, ◌↔◌, ℕ, ◌<◌, true, List, Contains, Option, None, Some, length, MatchOption}
use Rattle.std.proofs.Common.{[], arith}
use Rattle.std.proofs.lemmas.{Bool.eq-eqb, Bool.cases_lt, List.get_or_default, List.get_or_past}
use Rattle.theory.specs.{System.internal, declared.relation.Relation.TheVariants.Branching, Quotient.IsDropped}
use Rattle.lts.specs.{Labels.text_of, Labels.IsTable, Labels.IsLabelId, Lts.Triple, Lts.transition_of}
use Rattle.quotient_core.specs.Triples.{is_left_out}
use Rattle.quotient_core.proofs.numbering.dropped.Goals as goal

-- If the label with the ID k is the internal label, then the label table contains a label with this ID.
is_label : (labels : List (List ℕ)) (k : ℕ) → text_of labels k ≡ internal → k < length labels
is_label labels k is = grind (arith, cases_lt k (length labels), get_or_past labels k [], is)

-- Let `dropped` be the ID of the internal label, or `None` if the label table does not contain the internal label. Then
-- the program leaves out a triple (source, label ID, target) if and only if the triple denotes an internal transition
-- from a state to itself.
left_out_is : (labels : List (List ℕ)) (dropped : Option ℕ) → IsTable labels →
    MatchOption dropped (¬ Contains labels internal) (λ k. IsLabelId labels k internal) → (x : Triple) →
    (is_left_out dropped x ≡ true) ↔ IsDropped Branching (transition_of labels x)
left_out_is labels None table without x = search (rules, get_or_default, is_label)
left_out_is labels (Some k) table number x = search (rules, eq-eqb, table.different, number.below, is_label)

pub returns-in-Branching : goal.returns-in-Branching
returns-in-Branching c = rw (c.in-Branching.is)
    (left_out_is c.args.labels.now c.internal.result c.invariants.ensures c.internal.ensures)
