use Rattle.wf_ast.specs.TypedTrees.{operator_kind, type_of_node}
use Rattle.wf_exprs_nodes.proofs.ConditionLaws.{compared_kinds}
use Rattle.wf_exprs_nodes.proofs.conditions.comparison.Goals as goal

pub comparison_of-requires-clause-kinds : goal.comparison_of-requires-clause-kinds
comparison_of-requires-clause-kinds c =
    let nodes = c.args.scope.now.nodes in
    compared_kinds nodes (type_of_node nodes c.args.e.0) (operator_kind c.args.op) c.args.parts.now (record { 0 = 0 }) c.requires.ordering c.requires.fits
