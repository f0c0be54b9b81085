-- Blocks of a package by their statements, and what stands after the block of an `if`.
use Rattle.std.specs.Prelude.{◌≡◌, ℕ, List, Option, None, Some, option_map, slice_get, unwrap_or}
use Rattle.wf_ast.specs.declared.numbers.StmtId.{StmtId}
use Rattle.wf_ast.specs.declared.typed_code.Arm.{Arm}
use Rattle.wf_ast.specs.declared.typed_code.Block as typed_code
use Rattle.wf_ast.specs.declared.typed_code.StmtNode.{StmtNode}
use Rattle.wf_ast.specs.declared.typed_nodes.TypedNodes.{TypedNodes}
use Rattle.wf_ast.specs.TypedTree.{Site, Block, end}
use Rattle.wf_ast.specs.TypedTrees.{no_place, tree_of, onto, stmt_makers, block_of, otherwise_made, if_made}
use Rattle.c_text.specs.declared.kinds.Otherwise.{Otherwise}
use Rattle.c_text.specs.CGrammar.{FitsElse}
use Rattle.c_text.specs.CNodes.{Nodes}
use Rattle.c_text.specs.CTree.{Code}
use Rattle.wf_exprs.specs.Grown.{HasCode}
use Rattle.wf_lower_stmts.specs.Lower.{other_kind}

-- Where a statement stands.
abbrev pub site_at : TypedNodes → StmtId → Site
site_at nodes s = record { number = s.0; at = unwrap_or (option_map (λ (node : StmtNode). node.at) (slice_get nodes.stmts s.0)) no_place }

-- The block of an `else`, what the further arms of an `if` make, and a whole `if` before what follows it.
abbrev pub else_in : TypedNodes → Option typed_code.Block → Block
else_in nodes None = end
else_in nodes (Some block) = block_of nodes block

abbrev pub others_in : TypedNodes → StmtId → List Arm → Option typed_code.Block → Block
others_in nodes s arms other = otherwise_made (tree_of nodes) (onto (stmt_makers nodes)) (site_at nodes s) arms other

abbrev pub if_in : TypedNodes → StmtId → List Arm → Option typed_code.Block → (rest : Block) → Block
if_in nodes s arms other rest = if_made (tree_of nodes) (onto (stmt_makers nodes)) (site_at nodes s) arms other rest

-- The unit has this code after the block of an `if`, of this kind.
pub record HasOther (nodes : Nodes) (kind : Otherwise) (s : ℕ) (block : Block) (code : Code) : Type 0 where
  pub same : kind ≡ other_kind block
  pub made : HasCode nodes s code
  pub fits : FitsElse kind code
