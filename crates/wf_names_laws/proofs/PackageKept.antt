-- Well formed declarations are resolved to a package as the grammar gives.
use Rattle.std.proofs.Common.{◌≡◌, Bool, true, ◌&&◌, List, [], ◌∷◌, refl}
use Rattle.std.specs.List.{list_all}
use Rattle.wf_ast.specs.ParsedTree as parsed
use Rattle.wf_ast.specs.ParsedTree.{DeclTree}
use Rattle.wf_ast.specs.WellFormed.{formed_block, formed_fields, formed_result, well_formed}
use Rattle.wf_ast.proofs.BoolLemmas.{both, and-true}
use Rattle.wf_named.specs.NamedTree.{NamedMethodTree}
use Rattle.wf_named.specs.Grammar.{block_by_grammar}
use Rattle.wf_names_rules.specs.Declarations.{Declared, Method, variables, locals_of}
use Rattle.wf_names_rules.specs.Uses.{method_scope}
use Rattle.wf_names_resolve.specs.Standing.{standing_at}
use Rattle.wf_names_resolve.specs.Resolved.{resolved_block}
use Rattle.wf_names_resolve.specs.Package.{resolved_methods}
use Rattle.wf_names_laws.specs.ResolvedForms.{ResolvingKeepsForm}
use Rattle.wf_names_laws.proofs.StmtsKept.{block-kept}

-- The body of a method is as the grammar gives.
abbrev method_by_grammar : NamedMethodTree → Bool
method_by_grammar m = block_by_grammar m.body

methods-kept : (d : Declared) (decls : List DeclTree) → list_all well_formed decls ≡ true → list_all method_by_grammar (resolved_methods d decls) ≡ true
methods-kept d [] h = refl
methods-kept d (parsed.status public text at ∷ decls) h = methods-kept d decls h
methods-kept d (parsed.constant public name of value at ∷ decls) h =
    let parts = both (well_formed (parsed.constant public name of value at)) (list_all well_formed decls) h in
    methods-kept d decls parts.1
methods-kept d (parsed.structure public name mark fields at ∷ decls) h =
    let parts = both (formed_fields fields) (list_all well_formed decls) h in
    methods-kept d decls parts.1
methods-kept d (parsed.method public owner name mark args result body at ∷ decls) h =
    let m : Method = record { public = public; owner = owner; name = name; args = variables args; result = result; locals = locals_of body; body = body } in
    let parts = both (well_formed (parsed.method public owner name mark args result body at)) (list_all well_formed decls) h in
    let inner = both (formed_fields args) (formed_result result && formed_block body) parts.0 in
    let behind = both (formed_result result) (formed_block body) inner.1 in
    and-true (block_by_grammar (resolved_block (standing_at d (method_scope d m)) [] body)) (list_all method_by_grammar (resolved_methods d decls))
    (block-kept (standing_at d (method_scope d m)) [] body behind.1) (methods-kept d decls parts.1)

pub resolving_keeps_form : ResolvingKeepsForm
resolving_keeps_form d name decls order struct_order h = methods-kept d decls h
