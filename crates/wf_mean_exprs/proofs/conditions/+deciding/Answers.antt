use Rattle.std.proofs.Common.{◌∙◌, sym, ap, map, drop, arith, rules}
use Rattle.wf_ast.specs.TypedTree.{ValueTree}
use Rattle.wf_ast.specs.TypedTrees.{cond_in, operator_kind, type_of_node, place_of_node, signs_of_node}
use Rattle.wf_ast.specs.TypedInvariant.{is_expr, is_logical}
use Rattle.wf_ast.specs.Value.{truth_of}
use Rattle.wf_ast.specs.NodeKinds.{node_cond}
use Rattle.wf_ast.proofs.Arena.{both_true}
use Rattle.wf_mean_exprs.specs.MachineState.{seen_from}
use Rattle.wf_mean_exprs.specs.Conditions.{chain_truth, joins_both}
use Rattle.wf_ast.proofs.ChainKinds.{all_there}
use Rattle.wf_mean_exprs.proofs.Junctions.{of_conditions, of_comparison, condition_below, junction_begins}
use Rattle.wf_mean_exprs.proofs.conditions.+deciding.Goals as goal

pub truth_of_chain-truth_of_junction-requires : goal.truth_of_chain-truth_of_junction-requires
truth_of_chain-truth_of_junction-requires t c =
    let nodes = c.args.scene.now.package.now in
    let e = c.args.e in
    let j = sym c.joins.ensures ∙ c.if-joins.true in
    let a = of_conditions nodes e.0 (type_of_node nodes e.0) (operator_kind c.args.op) c.args.parts.now (condition_below nodes e c.requires.node) j c.requires.fits c.requires.below in
    (search rules, (c.requires.tree, (j, (c.requires.below, (a.conditions, a.some)))))

pub truth_of_chain-truth_of_comparison-requires : goal.truth_of_chain-truth_of_comparison-requires
truth_of_chain-truth_of_comparison-requires t c =
    let nodes = c.args.scene.now.package.now in
    let e = c.args.e in
    let j = sym c.joins.ensures ∙ c.if-joins.false in
    let o = of_comparison nodes (type_of_node nodes e.0) (operator_kind c.args.op) c.args.parts.now (both_true (is_expr nodes e) (is_logical (type_of_node nodes e.0)) c.requires.node).1 j c.requires.fits in
    record { tree = c.requires.tree; ordering = o; fits = c.requires.fits; there = all_there nodes e.0 c.args.parts.now (condition_below nodes e c.requires.node) c.requires.below; trees = c.requires.trees }

pub truth_of_junction-loop-i-init : goal.truth_of_junction-loop-i-init
truth_of_junction-loop-i-init t c =
    let nodes = c.args.scene.now.package.now in
    let s = seen_from c.args.scene.now in
    let e = c.args.e in
    let op = operator_kind c.args.op in
    record {
      from = omega arith;
      left = ap (λ o. chain_truth s (joins_both op) o (map (node_cond nodes) (drop 1 c.args.parts.now))) c.truth-so_far.ensures
          ∙ junction_begins s nodes (place_of_node nodes e.0) (signs_of_node nodes e.0) (type_of_node nodes e.0) op c.args.parts.now (record { 0 = 0 }) c.requires.joining c.requires.some
          ∙ ap (λ (x : ValueTree). truth_of s (cond_in x)) (sym c.requires.tree);
    }
