use Rattle.std.proofs.Common.{refl}
use Rattle.wf_named.specs.NamedParts.{named_package}
use Rattle.wf_named.specs.NamedTrees.{expr_trees, stmt_trees, method_made}
use Rattle.wf_types_rules.specs.declared.settings.Role.TheVariants as roles
use Rattle.wf_types_rules.specs.Parts.{variables_parts, result_parts}
use Rattle.wf_types_decls.proofs.HeadLemmas.{head_judged, head_known}
use Rattle.wf_types_decls.proofs.heads.judge_head.Goals as goal

pub returns-clause-found : goal.returns-clause-found
returns-clause-found c =
    let n = c.args.here.now.nodes.now in
    let m = method_made n.texts (expr_trees n.exprs) (stmt_trees n.texts n.exprs n.stmts) c.args.method.now in
    head_judged c.args.here.now.around.now c.args.found.now c.judge_variables.new.found c.judge_variables-2.new.found c.judge_result.new.found (variables_parts roles.Arg m.args) (variables_parts roles.Local m.locals) (result_parts m.mark m.gives)
    (rw c.as_slice.ensures at c.in_ok-args.ensures.found) (rw c.as_slice-2.ensures at c.in_ok-locals.ensures.found) c.in_ok-gives.ensures.found

pub returns-clause-of : goal.returns-clause-of
returns-clause-of c =
    let n = c.args.here.now.nodes.now in
    let m = method_made n.texts (expr_trees n.exprs) (stmt_trees n.texts n.exprs n.stmts) c.args.method.now in
    head_known (named_package n) c.args.here.now.around.now c.requires.types m c.in_ok-args.args c.in_ok-locals.locals c.in_ok-gives.gives _ refl
    (rw c.as_slice.ensures at c.in_ok-args.ensures.of) (rw c.as_slice-2.ensures at c.in_ok-locals.ensures.of) c.in_ok-gives.ensures.of
