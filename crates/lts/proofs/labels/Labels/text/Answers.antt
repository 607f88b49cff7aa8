use Rattle.std.proofs.Common.{rules, ◌≡◌, ◌<◌, [], length, map, get_or, subst, sym}
use Rattle.std.proofs.lemmas.{List.length-map, List.get_or-map, List.Elements.All-get_or}
use Rattle.indexmap.specs.IndexMap.{keys}
use Rattle.theory.specs.System.{IsLabel}
use Rattle.lts.proofs.labels.Labels.text.Goals as goal

pub returns-clause-label : goal.returns-clause-label
returns-clause-label c = let texts = keys c.self.inside.texts in let k = c.args.k in
    let text = c.index-as_slice-k.result in
    let below : k < length (map (λ v. v.items) texts) = subst (λ t. k < length t) (sym c.self.view_is) c.requires in
    let same : get_or (map (λ v. v.items) texts) k [] ≡ text.items = search (rules, get_or-map, length-map) in
    rw c.deref.ensures.value (subst IsLabel same (All-get_or IsLabel _ k [] below c.self.invariant.each_label))
