-- The tree of a single node, by its kind, and whether a node is there and of a kind.
use Rattle.std.specs.Prelude.{Bool, true, false, ◌&&◌, nat_lt, Option, None, Some}
use Rattle.wf_base.specs.declared.base_methods.BaseSig.{BaseSig}
use Rattle.wf_base.specs.declared.base_methods.Gives.{Gives}
use Rattle.wf_base.specs.declared.base_methods.Gives.TheVariants as gives
use Rattle.wf_base.specs.declared.marks.Mark.TheVariants.{Pure}
use Rattle.wf_base.specs.BaseTable.{row_of}
use Rattle.wf_ast.specs.declared.numbers.ExprId.{ExprId}
use Rattle.wf_ast.specs.declared.typed_nodes.TypedNodes.{TypedNodes}
use Rattle.wf_ast.specs.TypedTree.{NumTree, SliceTree, StatusTree, CondTree}
use Rattle.wf_ast.specs.TypedTrees.{num_in, slice_in, cond_in, status_in, tree_of, type_of_node}
use Rattle.wf_ast.specs.TypedInvariant.{is_expr, is_numeric, is_logical, is_state, is_list}
use Rattle.wf_ast.specs.WellTyped.{same_mark}

-- The tree of a node that has a number, a truth value, a status or elements.
abbrev pub node_number : TypedNodes → ExprId → NumTree
node_number nodes e = num_in (tree_of nodes e)

abbrev pub node_cond : TypedNodes → ExprId → CondTree
node_cond nodes e = cond_in (tree_of nodes e)

abbrev pub node_status : TypedNodes → ExprId → StatusTree
node_status nodes e = status_in (tree_of nodes e)

abbrev pub node_slice : TypedNodes → ExprId → SliceTree
node_slice nodes e = slice_in (tree_of nodes e)

-- The node is there, and has a number, a truth value, a status or elements.
abbrev pub is_number_at : TypedNodes → ExprId → Bool
is_number_at nodes e = is_expr nodes e && is_numeric (type_of_node nodes e.0)

abbrev pub is_condition_at : TypedNodes → ExprId → Bool
is_condition_at nodes e = is_expr nodes e && is_logical (type_of_node nodes e.0)

abbrev pub is_status_at : TypedNodes → ExprId → Bool
is_status_at nodes e = is_expr nodes e && is_state (type_of_node nodes e.0)

abbrev pub is_slice_at : TypedNodes → ExprId → Bool
is_slice_at nodes e = is_expr nodes e && is_list (type_of_node nodes e.0)

-- The end of a part stands before it, and is a number.
abbrev pub end_fits : TypedNodes → (e : ExprId) → Option ExprId → Bool
end_fits nodes e None = true
end_fits nodes e (Some i) = nat_lt i.0 e.0 && is_number_at nodes i

-- The base method answers a number.
abbrev pub is_num : Gives → Bool
is_num (gives.Num width) = true
is_num answer = false

abbrev pub gives_number : BaseSig → Bool
gives_number sig = is_num (row_of sig).gives && same_mark (row_of sig).mark Pure
