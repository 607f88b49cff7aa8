use Rattle.std.proofs.Common.{rules, ◌≡◌, ◌∙◌, sym, ◌+◌, length, map, ap, IfOk, arith}
use Rattle.std.proofs.lemmas.Result.{IfOk-weaker}
use Rattle.theory.specs.Union.{union_of}
use Rattle.lts.specs.{Lts.transition_of, Lts.system_of, Lts.IsBuilt, Union.IsJoined}
use Rattle.lts.proofs.Table.{AddsShifted-both, AddsShifted-length, IsUnion, union-made}
use Rattle.lts.proofs.disjoint.union.Given.{Over}
use Rattle.lts.proofs.disjoint.union.Goals as goal

made : (g : Over) (c : goal.After-drop-guesses-2 g) → IfOk c.build.result (IsUnion c.args.a.now c.args.b.now)
made g c = let a = c.args.a.now in let b = c.args.b.now in let labels = c.append-2.new.self.labels in
    let es = c.append-2.new.self.triples.items in
    let states : c.states.result + c.states-2.result ≡ a.states + b.states =
    omega (arith, c.states.ensures.value, c.states-2.ensures.value) in
    let both : map (transition_of labels) es ≡ (union_of (system_of a) (system_of b)).transitions =
    search (rules, AddsShifted-both) in
    let joined : IsJoined labels (a.states + b.states) es = search rules in
    IfOk-weaker c.build.result (IsBuilt a.first (a.states + b.states) labels es) (IsUnion a b)
    (union-made a b labels es c.edges.ensures.lts c.edges-2.ensures.lts joined both) (search rules)

pub returns : goal.returns
returns g c = record {
  system = IfOk-weaker c.build.result _ _ (λ u is. is.0) (made g c);
  labels = IfOk-weaker c.build.result _ _ (λ u is. is.1) (made g c);
  visits = grind (arith, c.in_ok-append.ensures.visits, c.in_ok-append-2.ensures.visits);
}

pub append-requires-2-clause-fits : goal.append-requires-2-clause-fits
append-requires-2-clause-fits g c =
    let size = AddsShifted-length _ _ c.args.a.now.places _ _ _ _ c.in_ok-append.ensures.added in
    record {
      states = omega (arith, c.states-shift.ensures.value, c.requires.fit.states);
      transitions = omega (arith, size, ap length c.in_ok-with_capacity.ensures.items, c.requires.fit.transitions);
    }

pub build-requires : goal.build-requires
build-requires g c = let joined = c.in_ok-append-2.ensures.joined in
    let size = AddsShifted-length _ _ c.args.a.now.places _ _ _ _ c.in_ok-append.ensures.added in
    let more = AddsShifted-length _ _ c.args.b.now.places _ _ _ _ c.in_ok-append-2.ensures.added in
    let none = ap length c.in_ok-with_capacity.ensures.items in
    let shift : c.states-shift.result ≡ c.states.result = c.states-shift.ensures.value ∙ sym c.states.ensures.value in
    record {
      first_below = omega (arith, c.first.ensures, c.states.ensures.value, c.states.ensures.lts.in_range.first_below);
      few_states = omega (arith, c.states.ensures.value, c.states-2.ensures.value, c.requires.fit.states);
      few_transitions = omega (arith, size, more, none, c.requires.fit.transitions);
      each = rw (← shift, c.states-2.ensures.value) joined.each;
    }
