-- How the nodes of a typed package grow while statements are added, with the expressions in them.
use Rattle.std.specs.Prelude.{◌≡◌, ◌<◌, ◌≤◌, ◌^◌, ◌+◌, ℕ, Bool, true, List, [], length, map, nat_lt}
use Rattle.std.specs.List.{list_all}
use Rattle.wf_ast.specs.declared.numbers.StmtId.{StmtId}
use Rattle.wf_ast.specs.declared.typed_code.Block as typed_code
use Rattle.wf_ast.specs.declared.typed_code.Stmt.{Stmt}
use Rattle.wf_ast.specs.declared.typed_code.Stmt.TheVariants as stmts
use Rattle.wf_ast.specs.declared.typed_code.StmtNode.{StmtNode}
use Rattle.wf_ast.specs.declared.typed_nodes.TypedNodes.{TypedNodes}
use Rattle.wf_ast.specs.TypedTree.{Block}
use Rattle.wf_ast.specs.TypedTrees.{expr_trees, tree_of, stmt_made, stmt_makers, onto, block_of}
use Rattle.wf_ast.specs.TypedInvariant.{each_numbered, stmt_below, block_below}
use Rattle.wf_named.specs.NamedTree.{NamedStmtTree, NamedBlockTree}
use Rattle.wf_named.specs.NamedParts.{NamedParts, named_package}
use Rattle.wf_types_rules.specs.declared.settings.Setting.{Setting}
use Rattle.wf_typed_tree.specs.ElaboratedStmts.{count_stmt, count_block, stmt_tree, block_tree}
use Rattle.wf_typed_exprs.specs.Growth.{Keeps, Grows}

-- A package with the expressions of one and these statements.
abbrev pub with_stmts : TypedNodes → List StmtNode → TypedNodes
with_stmts nodes items = record nodes { stmts = items }

-- The parts of a statement are there. A jump may tell the number of a loop that is still to come.
abbrev pub stmt_there : TypedNodes → ℕ → Stmt → Bool
stmt_there nodes s (stmts.Break w) = true
stmt_there nodes s (stmts.Continue w) = true
stmt_there nodes s st = stmt_below nodes s st

-- What holds of statements at any time while a package is built.
pub record AreStmtsBuilt (nodes : TypedNodes) : Type 0 where
  pub ordered : each_numbered (λ s node. stmt_there nodes s node.stmt) 0 nodes.stmts ≡ true
  pub few : length nodes.stmts < 2 ^ 32

-- A jump tells a number below this one.
abbrev pub jump_below : (limit : ℕ) → Stmt → Bool
jump_below limit (stmts.Break w) = nat_lt w.0 limit
jump_below limit (stmts.Continue w) = nat_lt w.0 limit
jump_below limit st = true

abbrev pub jumps_below : (limit : ℕ) → List StmtNode → Bool
jumps_below limit nodes = list_all (λ node. jump_below limit node.stmt) nodes

-- Numbers of loops lie below this one.
abbrev pub loops_below : (limit : ℕ) → List ℕ → Bool
loops_below limit loops = list_all (λ w. nat_lt w limit) loops

abbrev pub without_nodes : TypedNodes → TypedNodes
without_nodes nodes = record nodes { exprs = []; types = []; constants = []; stmts = [] }

-- Expressions and statements may be added: those that were there keep their numbers and what they make. All else stays.
pub record GrowsStmts (old new : TypedNodes) : Type 0 where
  pub exprs : length old.exprs ≤ length new.exprs
  pub stmts : length old.stmts ≤ length new.stmts
  pub same_trees : Keeps (length old.exprs) (expr_trees old) (expr_trees new)
  pub same_types : Keeps (length old.exprs) old.types new.types
  pub same_constants : Keeps (length old.exprs) old.constants new.constants
  pub same_makers : Keeps (length old.stmts) (stmt_makers old) (stmt_makers new)
  pub rest : without_nodes new ≡ without_nodes old

-- Expressions alone are added, and each statement makes what it made.
pub record GrowsExprs (old new : TypedNodes) : Type 0 where
  pub exprs : Grows old new
  pub makers : stmt_makers new ≡ stmt_makers old

-- Statements are added with these loops round them: where the loops and all jumps that were there lie below a number, and
-- no statement lies above it, the new jumps do too.
pub record Adds (loops : List ℕ) (old new : TypedNodes) : Type 0 where
  pub grows : GrowsStmts old new
  pub jumps : (limit : ℕ) → loops_below limit loops ≡ true → length new.stmts ≤ limit → jumps_below limit old.stmts ≡ true → jumps_below limit new.stmts ≡ true

-- The parts of a statement that is still to come are added likewise.
pub record AddsParts (loops : List ℕ) (old new : TypedNodes) : Type 0 where
  pub grows : GrowsStmts old new
  pub jumps : (limit : ℕ) → loops_below limit loops ≡ true → length new.stmts < limit → jumps_below limit old.stmts ≡ true → jumps_below limit new.stmts ≡ true

-- A package in the making has the declarations of the resolved one: its texts, as many statuses, and the marks of its
-- methods. Its statements are built.
pub record IsBegun (named : NamedParts) (nodes : TypedNodes) : Type 0 where
  pub texts : nodes.texts ≡ named.texts
  pub statuses : length nodes.statuses ≡ 10 + length (named_package named).statuses
  pub marks : map (λ m. m.mark) nodes.methods ≡ map (λ m. m.mark) (named_package named).methods
  pub stmts : AreStmtsBuilt nodes

-- A statement that may be added and makes the one that is meant. `loops` are the numbers of the loops round it, the
-- innermost first, and `n` is the number of the first statement that was added with it.
pub record MakesStmt (s : Setting) (loops : List ℕ) (n : ℕ) (t : NamedStmtTree) (nodes : TypedNodes) (node : StmtNode) : Type 0 where
  pub below : stmt_there nodes (length nodes.stmts) node.stmt ≡ true
  pub jumps : (limit : ℕ) → loops_below limit loops ≡ true → jump_below limit node.stmt ≡ true
  pub count : length nodes.stmts + 1 ≡ n + count_stmt t
  pub makes : (rest : Block) → stmt_made nodes (tree_of nodes) (onto (stmt_makers nodes)) (length nodes.stmts) node rest ≡ stmt_tree s loops n t rest

-- The statement with this number is the one that is meant, and so is a block.
pub record StandsForStmt (s : Setting) (loops : List ℕ) (n : ℕ) (t : NamedStmtTree) (nodes : TypedNodes) (id : StmtId) : Type 0 where
  pub there : id.0 < length nodes.stmts
  pub count : length nodes.stmts ≡ n + count_stmt t
  pub makes : (rest : Block) → onto (stmt_makers nodes) id rest ≡ stmt_tree s loops n t rest

pub record StandsForBlock (s : Setting) (loops : List ℕ) (n : ℕ) (t : NamedBlockTree) (nodes : TypedNodes) (b : typed_code.Block) : Type 0 where
  pub below : block_below (length nodes.stmts) b ≡ true
  pub count : length nodes.stmts ≡ n + count_block t
  pub makes : block_of nodes b ≡ block_tree s loops n t
