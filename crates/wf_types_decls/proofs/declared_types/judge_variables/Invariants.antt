use Rattle.std.proofs.Common.{◌≡◌, ◌++◌, drop, map}
use Rattle.wf_named.specs.NamedTree.{VarTree}
use Rattle.wf_named.specs.NamedTrees.{expr_trees, var_made}
use Rattle.wf_types_rules.specs.DeclaredTypes.{declared}
use Rattle.wf_types_rules.specs.Parts.{variables_parts}
use Rattle.wf_types_exprs.specs.Judged.{judged}
use Rattle.wf_types_decls.proofs.declared_types.judge_variables.Given as goal

abbrev pub invariant-loop-variable : goal.invariant-loop-variable
invariant-loop-variable l =
    (judged l.here.around.now l.found (variables_parts l.role (map (var_made l.here.nodes.now.texts (expr_trees l.here.nodes.now.exprs)) (drop l.variable-index l.variables)))
    ≡ judged l.here.around.now l.fn.found (variables_parts l.role (map (var_made l.here.nodes.now.texts (expr_trees l.here.nodes.now.exprs)) l.variables)))
    × ((l.all ++ map (λ (x : VarTree). declared l.here.around.now l.role x.of) (map (var_made l.here.nodes.now.texts (expr_trees l.here.nodes.now.exprs)) (drop l.variable-index l.variables)))
    ≡ map (λ (x : VarTree). declared l.here.around.now l.role x.of) (map (var_made l.here.nodes.now.texts (expr_trees l.here.nodes.now.exprs)) l.variables))
