use Rattle.std.proofs.Common.{◌∙◌, ap}
use Rattle.std.specs.List.{list_all}
use Rattle.wf_ast.specs.declared.declarations.Var.{Var}
use Rattle.wf_ast.specs.TypedPackage.{package_of}
use Rattle.wf_ast.specs.WellTyped.{may_be_field}
use Rattle.wf_exprs.proofs.Growing.{grows_on}
use Rattle.wf_exprs.specs.Scopes.{is_named}
use Rattle.wf_lower_stmts.proofs.HereLaws.{retell_code}
use Rattle.wf_lower.proofs.InitLaws.{init_same}
use Rattle.wf_lower.proofs.Known.{fields_held, fields_named}
use Rattle.wf_lower.proofs.initializing.initialize_code.Goals as goal

pub initialize_parts-requires-clause-named : goal.initialize_parts-requires-clause-named
initialize_parts-requires-clause-named c = ap (list_all (is_named c.args.t.now)) c.as_slice.ensures ∙ fields_named c.args.t.now c.requires.words c.args.s.0 _ c.structure.ensures

pub initialize_parts-requires-clause-held : goal.initialize_parts-requires-clause-held
initialize_parts-requires-clause-held c = ap (list_all (λ (x : Var). may_be_field (package_of c.args.t.now) x.ty)) c.as_slice.ensures ∙ fields_held c.args.t.now c.requires.typed c.args.s.0 _ c.structure.ensures

pub returns-clause-grows : goal.returns-clause-grows
returns-clause-grows c = grows_on (grows_on c.answer_ok.ensures.grows c.initialize_parts.ensures.grows) c.ready.ensures.grows

pub returns-clause-made : goal.returns-clause-made
returns-clause-made c =
    retell_code _ _ _ c.ready.result (init_same c.args.t.now c.args.s.0 _ _ _ _ c.structure.ensures c.as_slice.ensures c.in_ok-rest-2.ensures.made.is c.in_ok-rest.ensures.made.is) c.ready.ensures.made
