-- Which nodes stand for the arms of an `if`, and when a statement has no blocks.
use Rattle.std.specs.Prelude.{◌≡◌, ◌+◌, ◌&&◌, ℕ, Bool, true, false, List, [], ◌∷◌, length, Option, None, Some}
use Rattle.std.specs.List.{list_all}
use Rattle.wf_ast.specs.declared.numbers.ExprId.{ExprId}
use Rattle.wf_ast.specs.declared.numbers.StmtId.{StmtId}
use Rattle.wf_ast.specs.declared.parsed.Arm as parsed
use Rattle.wf_ast.specs.declared.typed_code.Arm.{Arm}
use Rattle.wf_ast.specs.declared.typed_code.Block as typed_code
use Rattle.wf_ast.specs.declared.typed_nodes.TypedNodes.{TypedNodes}
use Rattle.wf_ast.specs.TypedTree.{ValueTree, Site, Block, end, choose}
use Rattle.wf_ast.specs.TypedTrees.{cond_in, tree_of, block_made, stmt_makers, onto}
use Rattle.wf_ast.specs.TypedInvariant.{is_expr, block_below, optional_block_below}
use Rattle.wf_named.specs.declared.nodes.NamedStmt.{NamedStmt}
use Rattle.wf_named.specs.declared.nodes.NamedStmt.TheVariants as stmts
use Rattle.wf_named.specs.NamedTree.{NamedExprTree, NamedStmtTree, NamedBlockTree, NamedArmTrees}
use Rattle.wf_named.specs.NamedTrees.{arms_at}
use Rattle.wf_types_rules.specs.declared.settings.Setting.{Setting}
use Rattle.wf_typed_tree.specs.ElaboratedExprs.{expr_tree}
use Rattle.wf_typed_tree.specs.ElaboratedStmts.{count_block, count_arms, block_tree, arms_tree}

-- A statement with no block in it.
abbrev pub is_simple : NamedStmt → Bool
is_simple (stmts.If arms otherwise) = false
is_simple (stmts.While condition clauses body) = false
is_simple st = true

-- What arms make before what stands after them: `behind` tells this by whether an arm stands before it, and by
-- what follows it.
abbrev pub arms_onto : (ExprId → ValueTree) → (StmtId → Block → Block) → Site → (chained : Bool) → List Arm → (behind : Bool → Block → Block) → (rest : Block) → Block
arms_onto look inner of chained [] behind rest = behind chained rest
arms_onto look inner of chained (a ∷ arms) behind rest = choose of chained (cond_in (look a.cond)) (block_made inner a.body.items) (arms_onto look inner of true arms behind end) rest

abbrev pub arm_exists : TypedNodes → Arm → Bool
arm_exists nodes a = is_expr nodes a.cond && block_below (length nodes.stmts) a.body

-- An arm; `n` is the number of the first statement in it.
pub record StandsForArm (s : Setting) (loops : List ℕ) (n : ℕ) (e : NamedExprTree) (body : NamedBlockTree) (nodes : TypedNodes) (a : Arm) : Type 0 where
  pub below : arm_exists nodes a ≡ true
  pub count : length nodes.stmts ≡ n + count_block body
  pub cond : tree_of nodes a.cond ≡ expr_tree s e
  pub block : block_made (onto (stmt_makers nodes)) a.body.items ≡ block_tree s loops n body

-- Arms before whatever stands after them.
pub record StandForArms (s : Setting) (loops : List ℕ) (n : ℕ) (es : List NamedExprTree) (ts : List NamedStmtTree) (arms : List parsed.Arm) (nodes : TypedNodes) (made : List Arm) : Type 0 where
  pub below : list_all (arm_exists nodes) made ≡ true
  pub count : (last : NamedArmTrees) → length nodes.stmts + count_arms last ≡ n + count_arms (arms_at es ts arms last)
  pub makes : (of : Site) (chained : Bool) (last : NamedArmTrees) (rest : Block)
      → arms_onto (tree_of nodes) (onto (stmt_makers nodes)) of chained made (λ behind more. arms_tree s loops (length nodes.stmts) of behind last more) rest
      ≡ arms_tree s loops n of chained (arms_at es ts arms last) rest
  pub some : length arms ≡ length made

-- What stands after the last `else`.
abbrev pub else_made : (StmtId → Block → Block) → Option typed_code.Block → Block
else_made inner None = end
else_made inner (Some block) = block_made inner block.items

pub record StandsForElse (s : Setting) (loops : List ℕ) (n : ℕ) (last : NamedArmTrees) (nodes : TypedNodes) (b : Option typed_code.Block) : Type 0 where
  pub below : optional_block_below (length nodes.stmts) b ≡ true
  pub count : length nodes.stmts ≡ n + count_arms last
  pub makes : (of : Site) (chained : Bool) (rest : Block) → else_made (onto (stmt_makers nodes)) b ≡ arms_tree s loops n of chained last rest
