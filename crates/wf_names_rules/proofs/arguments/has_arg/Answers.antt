use Rattle.std.proofs.Common.{◌≡◌, None, Some, length, slice_get, nat_eq, refl, sym, ap, ◌∙◌}
use Rattle.std.proofs.lemmas.Option.{slice_get_past, slice_get_read}
use Rattle.std.specs.List.{list_any}
use Rattle.wf_names_rules.specs.Tables.{arg_names_in}
use Rattle.wf_names_rules.proofs.InsertLemmas.{known_names}
use Rattle.wf_names_rules.proofs.arguments.has_arg.Goals as goal

pub returns-in-Some : goal.returns-in-Some
returns-in-Some c =
    let known = c.in-Some.known.now in
    let seen = c.in-Some.ensures.lookup in
    let methods = c.deref.result.now in
    let there : slice_get c.args.tables.now.variables.items c.args.m ≡ Some known = ap (λ ms. slice_get ms c.args.m) (sym c.deref.ensures.value) ∙ slice_get_read methods (length methods) c.args.m known refl seen.3.0 seen.1 in
    c.contains_key.ensures ∙ sym (known_names (nat_eq c.args.text.0) known.args.entries.entries) ∙ ap (λ found. list_any (nat_eq c.args.text.0) (arg_names_in found)) (sym there)

pub returns-in-None : goal.returns-in-None
returns-in-None c =
    let none : slice_get c.args.tables.now.variables.items c.args.m ≡ None = ap (λ ms. slice_get ms c.args.m) (sym c.deref.ensures.value) ∙ slice_get_past c.deref.result.now c.args.m c.in-None.ensures.lookup.3 in
    ap (λ found. list_any (nat_eq c.args.text.0) (arg_names_in found)) (sym none)
