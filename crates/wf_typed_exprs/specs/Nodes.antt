-- Which nodes stand for which expressions.
use Rattle.std.specs.Prelude.{◌≡◌, ◌<◌, ℕ, ⊤, true, Option, None, Some, length, option_and_then}
use Rattle.wf_text.specs.declared.place.Place.{Place}
use Rattle.wf_ast.specs.declared.numbers.ExprId.{ExprId}
use Rattle.wf_ast.specs.declared.typed_nodes.TypedNodes.{TypedNodes}
use Rattle.wf_ast.specs.TypedTree.{ValueTree}
use Rattle.wf_ast.specs.TypedTrees.{tree_of, made_or_number, type_of_node, constant_of_node}
use Rattle.wf_ast.specs.TypedInvariant.{parts_below, node_fits}
use Rattle.wf_named.specs.declared.nodes.NamedPath.{NamedPath}
use Rattle.wf_named.specs.NamedTree.{NamedExprTree, NamedPartTree, absent, present}
use Rattle.wf_types_rules.specs.declared.meanings.Meaning.{Meaning}
use Rattle.wf_types_rules.specs.declared.settings.Setting.{Setting}
use Rattle.wf_types_rules.specs.Meanings.{constant_number, variable, place_of}
use Rattle.wf_types_rules.specs.ExprTypes.{meaning}
use Rattle.wf_typed_tree.specs.ElaboratedExprs.{type_meant, path_tree, expr_tree}
use Rattle.wf_types_rules.specs.Judgements.{value_of}
use Rattle.wf_typed_exprs.specs.declared.elaborated.Elaborated.{Elaborated}
use Rattle.wf_typed_exprs.specs.declared.elaborated.MadeNode.{MadeNode}

abbrev pub number_meant : Option Meaning → Option ℕ
number_meant of = option_and_then constant_number of

-- The node with this number has this tree, the type of this meaning, and its number where it is constant.
pub record Stands (tree : ValueTree) (of : Option Meaning) (nodes : TypedNodes) (e : ExprId) : Type 0 where
  pub there : e.0 < length nodes.exprs
  pub tree_is : tree_of nodes e ≡ tree
  pub typed : type_of_node nodes e.0 ≡ type_meant of
  pub counted : constant_of_node nodes e.0 ≡ number_meant of

-- It stands for an expression of the resolved tree, for a path, or for an end of a slice that may be absent.
abbrev pub StandsForExpr : Setting → NamedExprTree → TypedNodes → ExprId → Type 0
StandsForExpr s t nodes e = Stands (expr_tree s t) (meaning s t) nodes e

abbrev pub StandsForPath : Setting → NamedPath → TypedNodes → ExprId → Type 0
StandsForPath s p nodes e = Stands (path_tree s p) (variable s p.of) nodes e

abbrev pub StandsForEnd : Setting → NamedPartTree → TypedNodes → Option Elaborated → Type 0
StandsForEnd s absent nodes None = ⊤
StandsForEnd s (present t) nodes (Some e) = StandsForExpr s t nodes e.node × (e.value ≡ value_of s t)
StandsForEnd s t nodes e = ⊥

-- A node that may be added at this place and makes this tree.
pub record Makes (at : Place) (tree : ValueTree) (of : Option Meaning) (nodes : TypedNodes) (n : MadeNode) : Type 0 where
  pub placed : n.node.at ≡ at
  pub means : n.of ≡ of
  pub below : parts_below (length nodes.exprs) n.node.expr ≡ true
  pub fits : node_fits nodes (type_meant of) (number_meant of) n.node.expr ≡ true
  pub tree_is : made_or_number (tree_of nodes) n.node.at n.node.signs (type_meant of) (number_meant of) n.node.expr ≡ tree

abbrev pub MakesExpr : Setting → NamedExprTree → TypedNodes → MadeNode → Type 0
MakesExpr s t nodes n = Makes (place_of t) (expr_tree s t) (meaning s t) nodes n
