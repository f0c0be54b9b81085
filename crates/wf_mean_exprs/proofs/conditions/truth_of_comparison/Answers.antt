use Rattle.wf_ast.specs.TypedTrees.{operator_kind, type_of_node}
use Rattle.wf_mean_exprs.proofs.Junctions.{compared_kinds}
use Rattle.wf_mean_exprs.proofs.conditions.truth_of_comparison.Goals as goal

pub truth_of_two-requires-clause-kinds : goal.truth_of_two-requires-clause-kinds
truth_of_two-requires-clause-kinds c =
    let nodes = c.args.scene.now.package.now in
    compared_kinds nodes (type_of_node nodes c.args.e.0) (operator_kind c.args.op) c.args.parts.now (record { 0 = 0 }) c.requires.ordering c.requires.fits
