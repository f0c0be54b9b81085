use Rattle.std.proofs.Common.{◌≡◌, ◌≤◌, ◌∙◌, length, ap, sym, fold, arith}
use Rattle.wf_ast.specs.ParsedTrees.{expr_trees, stmt_trees, decls_made}
use Rattle.wf_names_rules.specs.Declarations.{methods_of}
use Rattle.wf_names_decls.specs.ConstantNames.{constant_by}
use Rattle.wf_names_decls.specs.DeclarationPass.{method_judged}
use Rattle.wf_names_decls.proofs.DeclSteps.{trees-made, method_step, methods-end}
use Rattle.wf_names_decls.proofs.declarations.judge_all_variables.Goals as goal

pub loop-number-preserved : goal.loop-number-preserved
loop-number-preserved c =
    let ts = stmt_trees c.args.parsed.now.exprs c.args.parsed.now.stmts in
    method_step (expr_trees c.args.parsed.now.exprs) ts c.args.parsed.now.decls c.loop-number.number c.decl.result.now c.loop-number.found _ (method_judged (constant_by c.args.constants.now.names.now c.args.constants.now.places.now) c.args.parsed.now.texts) c.decl.ensures.node
    (c.in_ok-judge_method.ensures c.decl.result.now.public c.decl.result.now.at)
    ∙ c.loop-number.invariant

pub returns : goal.returns
returns c =
    let es = expr_trees c.args.parsed.now.exprs in
    let ts = stmt_trees c.args.parsed.now.exprs c.args.parsed.now.stmts in
    let decls = c.args.parsed.now.decls in
    let f = method_judged (constant_by c.args.constants.now.names.now c.args.constants.now.places.now) c.args.parsed.now.texts in
    let same : length c.decls-number-end.result.now ≡ length decls = ap length c.decls-number-end.ensures in
    let over : length decls ≤ c.loop-number.number = omega (arith, c.loop-number-test.false, same) in
    methods-end es ts decls c.loop-number.number over c.loop-number.found (fold f c.args.found.now (methods_of (decls_made es ts decls))) f c.loop-number.invariant
    ∙ ap (λ ds. fold f c.args.found.now (methods_of ds)) (sym (trees-made c.args.parsed.now.exprs c.args.parsed.now.stmts decls))
