use Rattle.std.proofs.Common.{◌≡◌, ◌-◌, ℕ, arith, drop, map, refl, subst}
use Rattle.wf_ast.specs.declared.declarations.Var.{Var}
use Rattle.wf_ast.specs.TypedPackage.{package_of, variable_of}
use Rattle.wf_ast.specs.WellTyped.{may_be_field}
use Rattle.c_text.specs.CNodes.{code_of}
use Rattle.wf_exprs.specs.Grown.{HasCode}
use Rattle.wf_exprs.specs.Scopes.{is_named}
use Rattle.wf_exprs.proofs.Growing.{grows_on, unchanged}
use Rattle.wf_lower.specs.Unit.{initialize_parts}
use Rattle.wf_lower.proofs.InitLaws.{parts_made, parts_start}
use Rattle.wf_lower.proofs.Walks.{all_here}
use Rattle.wf_lower.proofs.initializing.initialize_parts.Goals as goal

pub loop-left-init : goal.loop-left-init
loop-left-init c = record {
  within = omega arith;
  grows = unchanged _ _ refl;
  made = parts_start c.args.u.now c.args.t.now (package_of c.args.t.now) c.args.fields.now c.args.rest.0 c.requires.rest;
}

pub initialize_field-requires-clause-named : goal.initialize_field-requires-clause-named
initialize_field-requires-clause-named c = all_here (is_named c.args.t.now) c.args.fields.now (c.loop-left.left - 1) _ (omega (arith, c.loop-left-test.true, c.loop-left.invariant.within)) c.requires.named

pub initialize_field-requires-clause-held : goal.initialize_field-requires-clause-held
initialize_field-requires-clause-held c = all_here (λ (x : Var). may_be_field (package_of c.args.t.now) x.ty) c.args.fields.now (c.loop-left.left - 1) _ (omega (arith, c.loop-left-test.true, c.loop-left.invariant.within)) c.requires.held

pub loop-left-preserved : goal.loop-left-preserved
loop-left-preserved c = record {
  within = omega (arith, c.loop-left.invariant.within);
  grows = grows_on c.loop-left.invariant.grows c.initialize_field.ensures.grows;
  made = parts_made c.args.t.now (package_of c.args.t.now) (code_of c.args.u.now c.args.rest.0) c.args.fields.now c.loop-left.left (c.loop-left.left - 1) _ _ _ (omega (arith, c.loop-left-test.true)) (omega (arith, c.loop-left-test.true, c.loop-left.invariant.within)) c.loop-left.invariant.made c.in_ok-code.ensures.made;
}

pub returns-clause-made : goal.returns-clause-made
returns-clause-made c =
    let none : c.loop-left.left ≡ 0 = omega (arith, c.loop-left-test.false) in
    let P : ℕ → Type 0 = λ n. HasCode c.loop-left.u c.loop-left.code.0 (initialize_parts (package_of c.args.t.now) (drop n (map (variable_of c.args.t.now) c.args.fields.now)) (code_of c.args.u.now c.args.rest.0)) in
    subst P none c.loop-left.invariant.made
