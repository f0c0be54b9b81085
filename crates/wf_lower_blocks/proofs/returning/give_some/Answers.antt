use Rattle.std.proofs.Common.{ap, refl, sym}
use Rattle.c_text.specs.CNodes.{code_of}
use Rattle.wf_ast.specs.TypedInvariant.{is_logical, is_numeric, is_state}
use Rattle.wf_exprs_nodes.proofs.ValueLaws.{seen_type}
use Rattle.wf_lower_stmts.specs.BodyNodes.{form_in}
use Rattle.wf_lower_stmts.proofs.HereLaws.{code_here, retell_code}
use Rattle.wf_lower_blocks.proofs.ReturnLaws.{flag_given, nothing_given, number_given, status_given}
use Rattle.wf_lower_blocks.proofs.returning.give_some.Goals as goal

pub returns-in-Num-clause-made : goal.returns-in-Num-clause-made
returns-in-Num-clause-made c =
    let is = ap is_numeric (seen_type _ c.args.b.now.nodes c.args.e.0 _ _ c.typed.ensures.same c.type_of.ensures c.in-Num.is) in
    retell_code _ _ _ c.give_single.result (number_given c.args.b.now.nodes c.typed.ensures.kept c.args.e c.requires.node (form_in c.args.b.now) (code_of c.args.u.now c.args.rest.0) is) c.give_single.ensures.made

pub returns-in-Flag-clause-made : goal.returns-in-Flag-clause-made
returns-in-Flag-clause-made c =
    let is = ap is_logical (seen_type _ c.args.b.now.nodes c.args.e.0 _ _ c.typed.ensures.same c.type_of.ensures c.in-Flag.is) in
    retell_code _ _ _ c.give_single-in-Flag.result (flag_given c.args.b.now.nodes c.typed.ensures.kept c.args.e c.requires.node (form_in c.args.b.now) (code_of c.args.u.now c.args.rest.0) is) c.give_single-in-Flag.ensures.made

pub returns-in-Status-clause-made : goal.returns-in-Status-clause-made
returns-in-Status-clause-made c =
    let is = ap is_state (seen_type _ c.args.b.now.nodes c.args.e.0 _ _ c.typed.ensures.same c.type_of.ensures c.in-Status.is) in
    retell_code _ _ _ c.give_status.result (status_given c.args.b.now.nodes c.typed.ensures.kept c.args.e c.requires.node (form_in c.args.b.now) (code_of c.args.u.now c.args.rest.0) is) c.give_status.ensures.made

pub returns-in-Slice-clause-made : goal.returns-in-Slice-clause-made
returns-in-Slice-clause-made c =
    code_here _ _ c.args.rest.0 c.requires.rest
    (sym (nothing_given c.args.b.now.nodes c.typed.ensures.kept c.args.e c.requires.node (form_in c.args.b.now) (code_of c.args.u.now c.args.rest.0) _ (sym (seen_type _ c.args.b.now.nodes c.args.e.0 _ _ c.typed.ensures.same c.type_of.ensures c.in-Slice.is)) refl refl refl))

pub returns-in-Array-clause-made : goal.returns-in-Array-clause-made
returns-in-Array-clause-made c =
    code_here _ _ c.args.rest.0 c.requires.rest
    (sym (nothing_given c.args.b.now.nodes c.typed.ensures.kept c.args.e c.requires.node (form_in c.args.b.now) (code_of c.args.u.now c.args.rest.0) _ (sym (seen_type _ c.args.b.now.nodes c.args.e.0 _ _ c.typed.ensures.same c.type_of.ensures c.in-Array.is)) refl refl refl))

pub returns-in-Reader-clause-made : goal.returns-in-Reader-clause-made
returns-in-Reader-clause-made c =
    code_here _ _ c.args.rest.0 c.requires.rest
    (sym (nothing_given c.args.b.now.nodes c.typed.ensures.kept c.args.e c.requires.node (form_in c.args.b.now) (code_of c.args.u.now c.args.rest.0) _ (sym (seen_type _ c.args.b.now.nodes c.args.e.0 _ _ c.typed.ensures.same c.type_of.ensures c.in-Reader.is)) refl refl refl))

pub returns-in-Writer-clause-made : goal.returns-in-Writer-clause-made
returns-in-Writer-clause-made c =
    code_here _ _ c.args.rest.0 c.requires.rest
    (sym (nothing_given c.args.b.now.nodes c.typed.ensures.kept c.args.e c.requires.node (form_in c.args.b.now) (code_of c.args.u.now c.args.rest.0) _ (sym (seen_type _ c.args.b.now.nodes c.args.e.0 _ _ c.typed.ensures.same c.type_of.ensures c.in-Writer.is)) refl refl refl))

pub returns-in-Part-clause-made : goal.returns-in-Part-clause-made
returns-in-Part-clause-made c =
    code_here _ _ c.args.rest.0 c.requires.rest
    (sym (nothing_given c.args.b.now.nodes c.typed.ensures.kept c.args.e c.requires.node (form_in c.args.b.now) (code_of c.args.u.now c.args.rest.0) _ (sym (seen_type _ c.args.b.now.nodes c.args.e.0 _ _ c.typed.ensures.same c.type_of.ensures c.in-Part.is)) refl refl refl))
