-- The graph of the methods, by the nodes of a package.
use Rattle.std.proofs.Common.{ℕ, suc, ◌<◌, ◌≤◌, List, [], ◌∷◌, length, arith}
use Rattle.wf_ast.specs.declared.parsed.DeclNode.{DeclNode}
use Rattle.wf_ast.specs.declared.parsed.ExprNode.{ExprNode}
use Rattle.wf_ast.specs.declared.parsed.StmtNode.{StmtNode}
use Rattle.wf_ast.specs.ParsedTree as tree
use Rattle.wf_ast.specs.ParsedTree.{ExprTree, StmtTree, DeclTree}
use Rattle.wf_ast.specs.ParsedTrees.{expr_trees, stmt_trees, decl_made, decls_made, decl_trees}
use Rattle.wf_names_rules.specs.Declarations.{declared, methods_of}
use Rattle.wf_names_scopes.specs.CallRows.{AreRows}

-- How many there are.
methods-few : (es : List ExprTree) (ts : List StmtTree) (nodes : List DeclNode) → length (methods_of (decls_made es ts nodes)) ≤ length nodes
methods-few es ts [] = omega arith
methods-few es ts (n ∷ ns) = one_more (decl_made es ts n.public n.decl n.at) (methods-few es ts ns)
  where
    one_more : (d : DeclTree) → length (methods_of (decls_made es ts ns)) ≤ length ns → length (methods_of (d ∷ decls_made es ts ns)) ≤ suc (length ns)
    one_more (tree.status public text at) h = omega (arith, h)
    one_more (tree.constant public name of value at) h = omega (arith, h)
    one_more (tree.structure public name mark fields at) h = omega (arith, h)
    one_more (tree.method public owner name mark args result body at) h = omega (arith, h)

module _ (texts : List (List ℕ)) (exprs : List ExprNode) (stmts : List StmtNode) (nodes : List DeclNode) (rows : List (List ℕ))
    (made : AreRows (declared texts (decl_trees exprs stmts nodes)) rows (length (methods_of (decl_trees exprs stmts nodes)))) where
  pub graph-few : (n : ℕ) → length nodes < n → length rows < n
  unfolding decl_trees
  graph-few n h = omega (arith, h, made.len, methods-few (expr_trees exprs) (stmt_trees exprs stmts) nodes)
