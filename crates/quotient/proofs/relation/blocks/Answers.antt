use Rattle.std.proofs.lemmas.Result.{IfOk-weaker, on_ok_weaker}
use Rattle.quotient.proofs.Visible.{branching_classes, branching_turns}
use Rattle.quotient.proofs.relation.blocks.Goals as goal
use Rattle.quotient.proofs.relation.blocks.Goals.{in_default-via-in-Branching+in_default, in_default-via-in_default}

pub returns-in_default-clause-classes : goal.returns-in_default-clause-classes
returns-in_default-clause-classes g c = elim c.in_default.branch [
  | in_default-via-in-Branching+in_default w ↦ rw (w.in_default.is-0)
      (IfOk-weaker c.refine_blocks-in_default.result _ _ (λ b. branching_classes c.invariants.ensures
      c.labels.ensures w.in_default.ensures b.block_ids)
      c.refine_blocks-in_default.ensures.bisimilar)
  | in_default-via-in_default w ↦ rw (w.in_default.is-0) c.refine_blocks-in_default.ensures.bisimilar
]

pub returns-in_default-clause-turns : goal.returns-in_default-clause-turns
returns-in_default-clause-turns g c = elim c.in_default.branch [
  | in_default-via-in-Branching+in_default w ↦ rw (w.in_default.is-0)
      (on_ok_weaker c.refine_blocks-in_default.result (branching_turns c.invariants.ensures
      c.labels.ensures w.in_default.ensures) c.refine_blocks-in_default.ensures.turns)
  | in_default-via-in_default w ↦ rw (w.in_default.is-0) c.refine_blocks-in_default.ensures.turns
]
