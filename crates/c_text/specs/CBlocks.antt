-- The blocks in a statement, and the rest of the block in which it stands (ISO/IEC 9899:1999, 6.8).
use Rattle.std.specs.Prelude.{◌≡◌, ◌<◌, length, Option, Some, None, ⊤}
use Rattle.c_text.specs.declared.ids.CStmtId.{CStmtId}
use Rattle.c_text.specs.declared.blocks.Blocks.{Blocks}
use Rattle.c_text.specs.declared.blocks.Blocks.TheVariants as blocks
use Rattle.c_text.specs.CTree.{Code, finish, nested, empty, assign, call, jump, branch, repeat, select, leave, case_label, default_label, name_label}
use Rattle.c_text.specs.CNodes.{Nodes, code_of}

-- None; one in braces or of a `while`; that of a `switch`; that of an `if`, and the statements of its `else`.
pub data BlockTrees : Type 0 where
  no_block : BlockTrees
  one_block : (inner : Code) → BlockTrees
  switch_block : (body : Code) → BlockTrees
  two_blocks : (body other : Code) → BlockTrees

abbrev pub blocks_of : Code → BlockTrees
blocks_of (nested inner rest) = one_block inner
blocks_of (branch test body otherwise other rest) = two_blocks body other
blocks_of (repeat test body rest) = one_block body
blocks_of (select on body rest) = switch_block body
blocks_of _ = no_block

-- None at the end of a block.
abbrev pub rest_of : Code → Option Code
rest_of finish = None
rest_of (nested inner rest) = Some rest
rest_of (empty rest) = Some rest
rest_of (assign target value rest) = Some rest
rest_of (call target function given rest) = Some rest
rest_of (jump label rest) = Some rest
rest_of (branch test body otherwise other rest) = Some rest
rest_of (repeat test body rest) = Some rest
rest_of (select on body rest) = Some rest
rest_of (leave value rest) = Some rest
rest_of (case_label n rest) = Some rest
rest_of (default_label rest) = Some rest
rest_of (name_label name rest) = Some rest

-- Blocks of a unit.
abbrev pub blocks_in : Nodes → Blocks → BlockTrees
blocks_in nodes blocks.None = no_block
blocks_in nodes (blocks.One b) = one_block (code_of nodes b.0)
blocks_in nodes (blocks.Switch b) = switch_block (code_of nodes b.0)
blocks_in nodes (blocks.Branch b o) = two_blocks (code_of nodes b.0) (code_of nodes o.0)

abbrev pub HasBlocks : Nodes → Blocks → Type 0
HasBlocks nodes blocks.None = ⊤
HasBlocks nodes (blocks.One b) = b.0 < length nodes.stmts
HasBlocks nodes (blocks.Switch b) = b.0 < length nodes.stmts
HasBlocks nodes (blocks.Branch b o) = (b.0 < length nodes.stmts) × (o.0 < length nodes.stmts)

-- A statement in its parts: the blocks in it, and the rest of its block.
pub record IsApart (nodes : Nodes) (code : Code) (blocks : Blocks) (rest : CStmtId) : Type 0 where
  pub blocks_are : blocks_of code ≡ blocks_in nodes blocks
  pub rest_is : rest_of code ≡ Some (code_of nodes rest.0)
  pub has_blocks : HasBlocks nodes blocks
  pub has_rest : rest.0 < length nodes.stmts
