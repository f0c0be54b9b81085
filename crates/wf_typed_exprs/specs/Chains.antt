-- The nodes of a chain's operands, as they are added one by one.
use Rattle.std.specs.Prelude.{◌≡◌, ⊤, List, [], ◌∷◌, ◌++◌}
use Rattle.wf_ast.specs.declared.numbers.ExprId.{ExprId}
use Rattle.wf_ast.specs.declared.typed_nodes.TypedNodes.{TypedNodes}
use Rattle.wf_named.specs.NamedTree.{NamedExprTree, NamedLinkTrees, no_link, link}
use Rattle.wf_types_rules.specs.declared.settings.Setting.{Setting}
use Rattle.wf_types_rules.specs.ExprTypes.{operands_behind, operands}
use Rattle.wf_types_rules.specs.Judgements.{value_of}
use Rattle.wf_types_exprs.specs.Judged.{operand_behind, operands_joined}
use Rattle.wf_typed_tree.specs.ElaboratedExprs.{signs_in}
use Rattle.wf_typed_exprs.specs.declared.operands.MadeOperands.{MadeOperands}
use Rattle.wf_typed_exprs.specs.Nodes.{StandsForExpr}

-- These nodes stand for the operands after a chain's first, in order.
abbrev pub StandForLinks : Setting → NamedLinkTrees → TypedNodes → List ExprId → Type 0
StandForLinks s no_link nodes [] = ⊤
StandForLinks s (link sign t others) nodes (e ∷ es) = StandsForExpr s t nodes e × StandForLinks s others nodes es
StandForLinks s links nodes es = ⊥

-- One operand more.
pub record AddsOperand (s : Setting) (t : NamedExprTree) (nodes : TypedNodes) (before all : MadeOperands) : Type 0 where
  pub node : ExprId
  pub stands : StandsForExpr s t nodes node
  pub parts : all.parts ≡ before.parts ++ node ∷ []
  pub signs : all.signs ≡ before.signs
  pub means : all.of ≡ operand_behind before.of (value_of s t)

-- The operands after the first, each with its sign.
pub record AddsLinks (s : Setting) (links : NamedLinkTrees) (nodes : TypedNodes) (before all : MadeOperands) : Type 0 where
  pub others : List ExprId
  pub stand : StandForLinks s links nodes others
  pub parts : all.parts ≡ before.parts ++ others
  pub signs : all.signs ≡ before.signs ++ signs_in links
  pub means : all.of ≡ operands_joined before.of (operands_behind s links)

-- All operands of a chain.
pub record AreOperands (s : Setting) (first : NamedExprTree) (links : NamedLinkTrees) (nodes : TypedNodes) (all : MadeOperands) : Type 0 where
  pub head : ExprId
  pub others : List ExprId
  pub stands : StandsForExpr s first nodes head
  pub stand : StandForLinks s links nodes others
  pub parts : all.parts ≡ head ∷ others
  pub signs : all.signs ≡ signs_in links
  pub means : all.of ≡ operands s first links
