use Rattle.std.proofs.Common.{◌∙◌, ◌++◌, ◌∷◌, List, [], ap, refl, sym, subst, map, codes}
use Rattle.std.specs.List.{list_all}
use Rattle.wf_ast.specs.declared.declarations.Var.{Var}
use Rattle.wf_ast.specs.TypedPackage.{package_of, variable_of}
use Rattle.wf_ast.specs.WellTyped.{may_be_field}
use Rattle.c_text.specs.declared.kinds.CUint.TheVariants.{U8, U32}
use Rattle.c_text.specs.declared.nodes.CField.{CField}
use Rattle.c_text.specs.CTree.{uint}
use Rattle.wf_exprs.proofs.Growing.{grows_on}
use Rattle.wf_exprs.specs.Scopes.{are_named}
use Rattle.wf_lower.specs.Made.{HasFieldTrees}
use Rattle.wf_lower.specs.Unit.{field, methods_fields, source_fields}
use Rattle.wf_lower.proofs.Kept.{fields_as}
use Rattle.wf_lower.proofs.Known.{fields_are, fields_held, fields_named}
use Rattle.wf_lower.proofs.structs.struct_fields.Goals as goal

pub add_all_source-requires-clause-named : goal.add_all_source-requires-clause-named
add_all_source-requires-clause-named c = ap (are_named c.args.p.now.t.now) c.as_slice.ensures ∙ fields_named c.args.p.now.t.now c.requires.ready.spelt.words c.args.s.0 c.structure.result.now c.structure.ensures

pub add_all_source-requires-clause-held : goal.add_all_source-requires-clause-held
add_all_source-requires-clause-held c = ap (list_all (λ (x : Var). may_be_field (package_of c.args.p.now.t.now) x.ty)) c.as_slice.ensures ∙ fields_held c.args.p.now.t.now c.requires.ready.typed c.args.s.0 c.structure.result.now c.structure.ensures

pub returns-in_err-add_coroutines-clause-grows : goal.returns-in_err-add_coroutines-clause-grows
returns-in_err-add_coroutines-clause-grows c = grows_on (grows_on c.add_life.ensures.grows c.add_all_source.ensures.grows) c.add_coroutines.ensures.grows

pub returns-clause-grows : goal.returns-clause-grows
returns-clause-grows c = grows_on (grows_on c.add_life.ensures.grows c.add_all_source.ensures.grows) c.add_coroutines.ensures.grows

pub returns-clause-made : goal.returns-clause-made
returns-clause-made c =
    let nodes = c.args.p.now.t.now in
    let p = package_of nodes in
    let P : List CField → Type 0 = λ fs. HasFieldTrees c.args.u.now fs [] in
    let none : HasFieldTrees c.args.u.now c.new-fields.result [] = subst P (sym c.new-fields.ensures) (record { there = tt; are = refl }) in
    let all = c.in_ok-add_coroutines.ensures.made _ (c.in_ok-add_all_source.ensures.made _ (c.in_ok-add_life.ensures.made [] none)) in
    fields_as (ap (λ xs. field (uint U8) (codes "life") ∷ field (uint U32) (codes "active") ∷ source_fields p xs ++ methods_fields c.args.s.0 p.methods) (ap (map (variable_of nodes)) c.as_slice.ensures ∙ sym (fields_are nodes c.args.s.0 c.structure.result.now c.structure.ensures))) all
