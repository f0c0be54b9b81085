use Rattle.std.proofs.Common.{◌≡◌, [], ◌∷◌, ◌++◌, length, map, Some, ap, sym, ◌∙◌, refl}
use Rattle.std.specs.Ordering.{nat_cmp}
use Rattle.std.specs.BTreeMap.{get_by}
use Rattle.std.proofs.lemmas.List.{length-map}
use Rattle.c_form_exprs.proofs.TableLemmas.{spelled, number_joined, entries_joined, other_numbers}
use Rattle.c_form_exprs.proofs.tables.NameTable.join.Goals as goal

pub invariant_of-self-2 : goal.invariant_of-self-2
invariant_of-self-2 g c =
    let names = c.self.inside.unit.now.names in
    let joined : c.push.new.self.items ≡ c.self.inside.entries.items ++ (c.args.name, c.args.value) ∷ [] = c.in-Ok.ensures.items ∙ ap (λ entries. entries ++ (c.args.name, c.args.value) ∷ []) c.reserve.ensures.items in
    let number : c.len-place.result ≡ length (map (spelled names) c.self.inside.entries.items) = c.len-place.ensures ∙ c.self.inside.entries.ok.0 ∙ sym (length-map c.self.inside.entries.items (spelled names)) in
    number_joined (λ n. get_by (nat_cmp n) c.self.inside.places) (λ n. get_by (nat_cmp n) c.insert.new.self) names
    (map (spelled names) c.self.inside.entries.items) _ c.args.name.0 c.args.value
    c.names-known.ensures.unique (rw (← c.self.view_is) at c.requires.name) c.self.invariant (rw (← c.self.view_is) at c.requires.free)
    (c.in_ok-insert.ensures.updates.1 ∙ ap Some number)
    (other_numbers c.self.inside.places c.insert.new.self c.args.name.0 c.args.name.0 _ refl c.in_ok-insert.ensures.updates)
    (entries_joined (spelled names) c.self.inside.entries.items c.push.new.self.items (c.args.name, c.args.value) joined)
