use Rattle.std.proofs.Common.{rules, ◌≡◌, ◌∙◌, ◌<◌, length, Contains, [], ◌∷◌, ◌++◌, map, false, sym, ap, if◌then◌else◌}
use Rattle.std.proofs.lemmas.List.{length_push, get_or_push, get_or_append_left, map_push}
use Rattle.std.proofs.lemmas.Map.Made.{is_some-lookup}
use Rattle.std.specs.{List.list_any, Str.bytes_eq}
use Rattle.memory.specs.declared.limits.TheConstants.{MOST_LABELS}
use Rattle.lts.proofs.Table.{absent, IsLabelId-position, IsTable-push}
use Rattle.indexmap.proofs.SetLemmas.{keys_insert_entry}
use Rattle.indexmap.specs.IndexMap.{keys}
use Rattle.lts.proofs.labels.Labels.intern.Goals as goal

pub returns-in-Some-clause-number : goal.returns-in-Some-clause-number
returns-in-Some-clause-number c =
    rw (← c.self.view_is) (IsLabelId-position _ _ _ _ (sym c.get_index_of.ensures.index ∙ c.in-Some.is))

pub returns-in-Some-clause-table : goal.returns-in-Some-clause-table
returns-in-Some-clause-table c = search (rules, returns-in-Some-clause-number)

none : (c : goal.In_ok-insert) → list_any (λ v. bytes_eq c.args.b.now v.items) (keys c.self.inside.texts) ≡ false
none c = search (rules, is_some-lookup)

grown : (c : goal.In_ok-insert) → map (λ v. v.items) (keys c.insert.new.self)
    ≡ map (λ v. v.items) (keys c.self.inside.texts) ++ c.args.b.now ∷ []
grown c =
    ap (λ es. map (λ v. v.items) (map (λ e. e.0) es)) c.in_ok-insert.ensures.entries
    ∙ ap (map (λ v. v.items)) (keys_insert_entry _ c.self.inside.texts.entries c.in_ok-text.text tt
    ∙ ap (λ b. if b then keys c.self.inside.texts else keys c.self.inside.texts ++ c.in_ok-text.text ∷ [])
    (ap (λ b. list_any (λ v. bytes_eq b v.items) (keys c.self.inside.texts)) c.in_ok-text.ensures.items ∙ none c))
    ∙ map_push (λ v. v.items) (keys c.self.inside.texts) c.in_ok-text.text
    ∙ ap (λ t. map (λ v. v.items) (keys c.self.inside.texts) ++ t ∷ []) c.in_ok-text.ensures.items

new : (c : goal.In_ok-insert) → ¬ Contains (map (λ v. v.items) (keys c.self.inside.texts)) c.args.b.now
new c = absent _ _ _ (none c)

pub invariant_of-self-2 : goal.invariant_of-self-2
invariant_of-self-2 c =
    let room : length (map (λ v. v.items) (keys c.self.inside.texts)) < MOST_LABELS = search rules in
    rw (grown c) (IsTable-push _ c.args.b.now c.self.invariant (new c) c.requires.label room)

pub returns : goal.returns
returns c = let more = grown c in let absent' = new c in let table = invariant_of-self-2 c in
    search (rules, more, absent', table, length_push, get_or_push, get_or_append_left)
