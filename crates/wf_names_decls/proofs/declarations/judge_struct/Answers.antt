use Rattle.std.proofs.Common.{◌≡◌, ◌∙◌, ap, sym}
use Rattle.wf_ast.specs.ParsedTrees.{expr_trees, fields_at}
use Rattle.wf_names_rules.specs.Declarations.{variables}
use Rattle.wf_names_rules.specs.NameRules.{variable_names}
use Rattle.wf_names_decls.specs.Gathering.{field_names}
use Rattle.wf_names_decls.specs.DeclarationPass.{names_judged}
use Rattle.wf_names_decls.proofs.DeclSteps.{fields-same, ok_same}
use Rattle.wf_names_decls.proofs.declarations.judge_struct.Goals as goal

pub returns-in-Struct : goal.returns-in-Struct
returns-in-Struct c =
    let es = expr_trees c.args.parsed.now.exprs in
    let texts = c.args.parsed.now.texts in
    let judged = names_judged texts c.args.found.now in
    let same : judged (field_names c.as_slice.result.now) ≡ judged (variable_names (variables (fields_at es c.in-Struct.fields))) =
    ap (λ fs. judged (field_names fs)) c.as_slice.ensures ∙ ap judged (sym (fields-same es c.in-Struct.fields)) in
    λ public at. rw c.in-Struct.is
    (ok_same c.judge_fields.result c.judge_fields.new.found (judged (field_names c.as_slice.result.now)) (judged (variable_names (variables (fields_at es c.in-Struct.fields)))) same c.judge_fields.ensures)
