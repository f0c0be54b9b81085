use Rattle.std.proofs.Common.{◌≡◌, ◌∙◌, List, Option, ap, sym}
use Rattle.wf_text.specs.declared.rules.Refusal.{Refusal}
use Rattle.wf_ast.specs.declared.parsed.Name.{Name}
use Rattle.wf_ast.specs.ParsedTrees.{expr_trees, stmt_trees, block_at, fields_at}
use Rattle.wf_names_rules.specs.Declarations.{variables, locals_of}
use Rattle.wf_names_rules.specs.NameRules.{variable_names}
use Rattle.wf_names_decls.specs.Gathering.{field_names}
use Rattle.wf_names_decls.specs.ConstantNames.{constant_by}
use Rattle.wf_names_decls.specs.DeclarationPass.{args_judged, locals_judged}
use Rattle.wf_names_decls.proofs.DeclSteps.{fields-same, ok_same}
use Rattle.wf_names_decls.proofs.declarations.judge_method.Goals as goal

pub returns-in-Method : goal.returns-in-Method
returns-in-Method c =
    let es = expr_trees c.args.parsed.now.exprs in
    let texts = c.args.parsed.now.texts in
    let locals = variable_names (locals_of (block_at (stmt_trees c.args.parsed.now.exprs c.args.parsed.now.stmts) c.in-Method.body)) in
    let judged : List Name → Option Refusal = λ args. locals_judged (constant_by c.args.constants.now.names.now c.args.constants.now.places.now) texts (args_judged texts c.args.found.now args) locals in
    let same : judged (field_names c.as_slice.result.now) ≡ judged (variable_names (variables (fields_at es c.in-Method.args))) =
    ap (λ fs. judged (field_names fs)) c.as_slice.ensures ∙ ap judged (sym (fields-same es c.in-Method.args)) in
    λ public at. rw c.in-Method.is
    (ok_same c.judge_variables.result c.judge_variables.new.found (judged (field_names c.as_slice.result.now)) (judged (variable_names (variables (fields_at es c.in-Method.args)))) same c.judge_variables.ensures)
