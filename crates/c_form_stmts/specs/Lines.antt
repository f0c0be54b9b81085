-- The statements of a block and of the blocks in it, in the order of the text (ISO/IEC 9899:1999, 6.8).
use Rattle.std.specs.Prelude.{◌+◌, ◌*◌, ◌<◌, ℕ, Bool, true, if◌then◌else◌, List, [], ◌∷◌, ◌++◌, length, ⊤}
use Rattle.c_text.specs.CTree.{Code, finish, nested, empty, assign, call, jump, branch, repeat, select, leave, case_label, default_label, name_label}
use Rattle.c_text.specs.CNodes.{Nodes, code_of}
use Rattle.c_text.specs.CBlocks.{BlockTrees, no_block, one_block, switch_block, two_blocks}
use Rattle.c_meaning.specs.CStep.{code_weight}
use Rattle.c_form_stmts.specs.declared.lines.Line.{Line}

-- A statement with what follows it in its block, and whether a `switch` stands round it.
pub record LineTree : Type 0 where
  pub code : Code
  pub switched : Bool

abbrev pub line : Bool → Code → LineTree
line s code = record { code = code; switched = s }

-- `e` tells whether those in the blocks of a `switch` are among them.
abbrev pub lines_of : (e s : Bool) → Code → List LineTree
lines_of e s finish = []
lines_of e s (nested body rest) = line s (nested body rest) ∷ lines_of e s body ++ lines_of e s rest
lines_of e s (empty rest) = line s (empty rest) ∷ lines_of e s rest
lines_of e s (assign target value rest) = line s (assign target value rest) ∷ lines_of e s rest
lines_of e s (call target function given rest) = line s (call target function given rest) ∷ lines_of e s rest
lines_of e s (jump label rest) = line s (jump label rest) ∷ lines_of e s rest
lines_of e s (branch test body otherwise other rest) = line s (branch test body otherwise other rest) ∷ lines_of e s body ++ (lines_of e s other ++ lines_of e s rest)
lines_of e s (repeat test body rest) = line s (repeat test body rest) ∷ lines_of e s body ++ lines_of e s rest
lines_of e s (select on body rest) = line s (select on body rest) ∷ (if e then lines_of e true body else []) ++ lines_of e s rest
lines_of e s (leave value rest) = line s (leave value rest) ∷ lines_of e s rest
lines_of e s (case_label n rest) = line s (case_label n rest) ∷ lines_of e s rest
lines_of e s (default_label rest) = line s (default_label rest) ∷ lines_of e s rest
lines_of e s (name_label name rest) = line s (name_label name rest) ∷ lines_of e s rest

-- A statement of the unit.
abbrev pub line_in : Nodes → Line → LineTree
line_in nodes l = line l.switched (code_of nodes l.stmt.0)

abbrev pub HasLine : Nodes → Line → Type 0
HasLine nodes l = l.stmt.0 < length nodes.stmts

abbrev pub HasLines : Nodes → List Line → Type 0
HasLines nodes [] = ⊤
HasLines nodes (l ∷ ls) = HasLine nodes l × HasLines nodes ls

-- The statements that are left to be listed: those from each line of a stack on, the stack's end first.
abbrev pub left_of : Nodes → (e : Bool) → List Line → List LineTree
left_of nodes e [] = []
left_of nodes e (l ∷ ls) = left_of nodes e ls ++ lines_of e l.switched (code_of nodes l.stmt.0)

-- More than the number of steps that they take.
abbrev pub line_size : Nodes → Line → ℕ
line_size nodes l = 2 * code_weight (code_of nodes l.stmt.0) + 1

abbrev pub size_of : Nodes → List Line → ℕ
size_of nodes [] = 0
size_of nodes (l ∷ ls) = line_size nodes l + size_of nodes ls

-- The statements in blocks, before those that stand after them.
abbrev pub inner_lines : (e s : Bool) → BlockTrees → (after : List LineTree) → List LineTree
inner_lines e s no_block after = after
inner_lines e s (one_block b) after = lines_of e s b ++ after
inner_lines e s (switch_block b) after = (if e then lines_of e true b else []) ++ after
inner_lines e s (two_blocks b o) after = lines_of e s b ++ (lines_of e s o ++ after)

abbrev pub inner_size : BlockTrees → ℕ
inner_size no_block = 0
inner_size (one_block b) = 2 * code_weight b + 1
inner_size (switch_block b) = 2 * code_weight b + 1
inner_size (two_blocks b o) = (2 * code_weight b + 1) + (2 * code_weight o + 1)
