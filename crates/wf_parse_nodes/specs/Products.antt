-- What an action makes: a value, or a node of the tree.
use Rattle.wf_ast.specs.declared.parsed.DeclNode.{DeclNode}
use Rattle.wf_ast.specs.declared.parsed.ExprNode.{ExprNode}
use Rattle.wf_ast.specs.declared.parsed.StmtNode.{StmtNode}
use Rattle.wf_parse_nodes.specs.declared.values.SemanticValue as values

pub data Product : Type 0 where
  Value : (value : values.SemanticValue) → Product
  Expr : (node : ExprNode) → Product
  Stmt : (node : StmtNode) → Product
  Decl : (node : DeclNode) → Product
