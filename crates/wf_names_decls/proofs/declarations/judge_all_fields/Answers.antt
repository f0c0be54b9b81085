use Rattle.std.proofs.Common.{◌≡◌, ◌≤◌, ◌∙◌, length, ap, sym, fold, arith}
use Rattle.wf_ast.specs.ParsedTrees.{expr_trees, stmt_trees, decls_made}
use Rattle.wf_names_rules.specs.Declarations.{structs_of}
use Rattle.wf_names_decls.specs.DeclarationPass.{struct_judged}
use Rattle.wf_names_decls.proofs.DeclSteps.{trees-made, struct_step, structs-end}
use Rattle.wf_names_decls.proofs.declarations.judge_all_fields.Goals as goal

pub loop-number-preserved : goal.loop-number-preserved
loop-number-preserved c =
    let ts = stmt_trees c.args.parsed.now.exprs c.args.parsed.now.stmts in
    struct_step (expr_trees c.args.parsed.now.exprs) ts c.args.parsed.now.decls c.loop-number.number c.decl.result.now c.loop-number.found _ (struct_judged c.args.parsed.now.texts) c.decl.ensures.node
    (c.in_ok-judge_struct.ensures c.decl.result.now.public c.decl.result.now.at)
    ∙ c.loop-number.invariant

pub returns : goal.returns
returns c =
    let es = expr_trees c.args.parsed.now.exprs in
    let ts = stmt_trees c.args.parsed.now.exprs c.args.parsed.now.stmts in
    let decls = c.args.parsed.now.decls in
    let f = struct_judged c.args.parsed.now.texts in
    let same : length c.decls-number-end.result.now ≡ length decls = ap length c.decls-number-end.ensures in
    let over : length decls ≤ c.loop-number.number = omega (arith, c.loop-number-test.false, same) in
    structs-end es ts decls c.loop-number.number over c.loop-number.found (fold f c.args.found.now (structs_of (decls_made es ts decls))) f c.loop-number.invariant
    ∙ ap (λ ds. fold f c.args.found.now (structs_of ds)) (sym (trees-made c.args.parsed.now.exprs c.args.parsed.now.stmts decls))
