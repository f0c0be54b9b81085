use Rattle.std.proofs.Common.{◌≡◌, ◌&&◌, true, rules}
use Rattle.wf_base.specs.declared.marks.Mark.TheVariants.{Pure}
use Rattle.wf_base.specs.BaseTable.{row_of}
use Rattle.wf_ast.specs.WellTyped.{same_mark}
use Rattle.wf_ast.specs.TypedTrees.{operator_kind, type_of_node}
use Rattle.wf_ast.specs.TypedInvariant.{chain_fits, has_kind, is_expr, is_given, is_state}
use Rattle.wf_ast.proofs.Arena.{both_true}
use Rattle.wf_ast.proofs.ChainKinds.{no_status_chain}
use Rattle.wf_exprs_nodes.proofs.KindLaws.{state_given}
use Rattle.wf_exprs_nodes.proofs.statuses.status.Goals as goal

pub unreachable-requires-in-Chain : goal.unreachable-requires-in-Chain
unreachable-requires-in-Chain c =
    let nodes = c.args.scope.now.nodes in
    let ty = type_of_node nodes c.args.e.0 in
    let f : chain_fits nodes (operator_kind c.in-Chain.op) c.in-Chain.parts ty ≡ true = search rules in
    no_status_chain nodes ty (operator_kind c.in-Chain.op) c.in-Chain.parts (both_true (is_expr nodes c.args.e) (is_state ty) c.requires).1 f

pub unreachable-requires-in-Base : goal.unreachable-requires-in-Base
unreachable-requires-in-Base c =
    let nodes = c.args.scope.now.nodes in
    let ty = type_of_node nodes c.args.e.0 in
    let k : (same_mark (row_of c.in-Base.sig).mark Pure && (has_kind (row_of c.in-Base.sig).on (type_of_node nodes c.in-Base.on.0) && is_given (row_of c.in-Base.sig).gives ty)) ≡ true = search rules in
    let g = (both_true (has_kind (row_of c.in-Base.sig).on (type_of_node nodes c.in-Base.on.0)) (is_given (row_of c.in-Base.sig).gives ty) (both_true (same_mark (row_of c.in-Base.sig).mark Pure) _ k).1).1 in
    state_given (row_of c.in-Base.sig).gives ty (both_true (is_expr nodes c.args.e) (is_state ty) c.requires).1 g
