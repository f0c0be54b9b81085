-- The statements of a method as the fact rules take them: each is told apart from its blocks, which stand beside it. An `if`
-- with all its `else if`s is one statement: it has a block for each condition and, as the last, what stands after `else`,
-- which is empty where nothing is written. A loop has one block, and every other statement none.
use Rattle.std.specs.Prelude.{Bool, true, false, List, [], ◌∷◌}
use Rattle.wf_ast.specs.TypedTree.{CondTree, Simple, Site, Head, Block, end, plain, choose, loop}

-- A statement without its blocks.
pub data Form : Type 0 where
  single : Simple → Form
  branches : (conditions : List CondTree) → Form
  repeated : Head → Form

mutual
  -- A statement before those that follow it in its block.
  pub data Body : Type 0 where
    nothing_more : Body
    statement : Site → Form → Blocks → (rest : Body) → Body

  pub data Blocks : Type 0 where
    no_block : Blocks
    block : Body → Blocks → Blocks

-- What a block says where it stands after an `else`: further conditions with their blocks where it is an `else if`, and
-- else itself, as the last block.
pub record Reading : Type 0 where
  pub body : Body
  pub conditions : List CondTree
  pub blocks : Blocks

abbrev pub by_itself : Body → Reading
by_itself body = record { body = body; conditions = []; blocks = block body no_block }

abbrev pub branch : (chained : Bool) → Site → List CondTree → Blocks → (rest : Body) → Reading
branch true site conditions blocks rest = record { body = statement site (branches conditions) blocks rest; conditions = conditions; blocks = blocks }
branch false site conditions blocks rest = by_itself (statement site (branches conditions) blocks rest)

abbrev pub branch_of : (chained : Bool) → Site → CondTree → (inner otherwise rest : Reading) → Reading
branch_of chained site c inner otherwise rest = branch chained site (c ∷ otherwise.conditions) (block inner.body otherwise.blocks) rest.body

abbrev pub reading : Block → Reading
reading end = by_itself nothing_more
reading (plain site s rest) = by_itself (statement site (single s) no_block (reading rest).body)
reading (choose site chained c a b rest) = branch_of chained site c (reading a) (reading b) (reading rest)
reading (loop site head body rest) = by_itself (statement site (repeated head) (block (reading body).body no_block) (reading rest).body)

-- The statements of a block.
abbrev pub body_of : Block → Body
body_of b = (reading b).body
