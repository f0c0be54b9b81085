-- The statements of code with their numbers, in the order of the text.
use Rattle.std.specs.Prelude.{◌+◌, ◌*◌, ◌<◌, ℕ, Bool, if◌then◌else◌, List, [], ◌∷◌, ◌++◌, length, ⊤}
use Rattle.c_text.specs.CTree.{Code, finish, nested, empty, assign, call, jump, branch, repeat, select, leave, case_label, default_label, name_label}
use Rattle.c_text.specs.CNodes.{Nodes, code_of}
use Rattle.c_text.specs.CBlocks.{BlockTrees, no_block, one_block, switch_block, two_blocks}
use Rattle.c_meaning.specs.CStep.{code_weight}
use Rattle.c_step_places.specs.declared.listing.Place.{Place}

-- Numbers in a statement with a number: of what follows its block, or its two blocks, and of its second block.
abbrev pub past : ℕ → Code → ℕ
past i body = i + code_weight body + 2

abbrev pub past_both : ℕ → Code → Code → ℕ
past_both i body other = i + code_weight body + code_weight other + 2

abbrev pub second : ℕ → Code → ℕ
second i body = i + code_weight body + 1

-- A statement with what follows it in its block, and its number.
pub record PlaceTree : Type 0 where
  pub code : Code
  pub number : ℕ

abbrev pub placed : ℕ → Code → PlaceTree
placed i code = record { code = code; number = i }

-- `e` tells whether those in the blocks of a `switch` are among them.
abbrev pub places_of : (e : Bool) → (number : ℕ) → Code → List PlaceTree
places_of e i finish = []
places_of e i (nested body rest) = placed i (nested body rest) ∷ places_of e (i + 1) body ++ places_of e (past i body) rest
places_of e i (empty rest) = placed i (empty rest) ∷ places_of e (i + 1) rest
places_of e i (assign target value rest) = placed i (assign target value rest) ∷ places_of e (i + 1) rest
places_of e i (call target function given rest) = placed i (call target function given rest) ∷ places_of e (i + 1) rest
places_of e i (jump label rest) = placed i (jump label rest) ∷ places_of e (i + 1) rest
places_of e i (branch test body otherwise other rest) = placed i (branch test body otherwise other rest) ∷ places_of e (i + 1) body ++ (places_of e (second i body) other ++ places_of e (past_both i body other) rest)
places_of e i (repeat test body rest) = placed i (repeat test body rest) ∷ places_of e (i + 1) body ++ places_of e (past i body) rest
places_of e i (select on body rest) = placed i (select on body rest) ∷ (if e then places_of e (i + 1) body else []) ++ places_of e (past i body) rest
places_of e i (leave value rest) = placed i (leave value rest) ∷ places_of e (i + 1) rest
places_of e i (case_label n rest) = placed i (case_label n rest) ∷ places_of e (i + 1) rest
places_of e i (default_label rest) = placed i (default_label rest) ∷ places_of e (i + 1) rest
places_of e i (name_label name rest) = placed i (name_label name rest) ∷ places_of e (i + 1) rest

-- A statement of the unit.
abbrev pub place_in : Nodes → Place → PlaceTree
place_in nodes p = placed p.number (code_of nodes p.stmt.0)

abbrev pub HasPlace : Nodes → Place → Type 0
HasPlace nodes p = p.stmt.0 < length nodes.stmts

abbrev pub HasPlaces : Nodes → List Place → Type 0
HasPlaces nodes [] = ⊤
HasPlaces nodes (p ∷ ps) = HasPlace nodes p × HasPlaces nodes ps

-- The statements that are left to be listed: those from each place of a stack on, the stack's end first.
abbrev pub left_of : Nodes → (e : Bool) → List Place → List PlaceTree
left_of nodes e [] = []
left_of nodes e (p ∷ ps) = left_of nodes e ps ++ places_of e p.number (code_of nodes p.stmt.0)

-- More than the number of steps that they take.
abbrev pub place_size : Nodes → Place → ℕ
place_size nodes p = 2 * code_weight (code_of nodes p.stmt.0) + 1

abbrev pub size_of : Nodes → List Place → ℕ
size_of nodes [] = 0
size_of nodes (p ∷ ps) = place_size nodes p + size_of nodes ps

-- The statements in the blocks of a statement with a number, before those that stand after them.
abbrev pub inner_places : (e : Bool) → (number : ℕ) → BlockTrees → (after : List PlaceTree) → List PlaceTree
inner_places e i no_block after = after
inner_places e i (one_block b) after = places_of e (i + 1) b ++ after
inner_places e i (switch_block b) after = (if e then places_of e (i + 1) b else []) ++ after
inner_places e i (two_blocks b o) after = places_of e (i + 1) b ++ (places_of e (second i b) o ++ after)

-- The number of the rest of its block.
abbrev pub rest_number : (number : ℕ) → BlockTrees → ℕ
rest_number i no_block = i + 1
rest_number i (one_block b) = past i b
rest_number i (switch_block b) = past i b
rest_number i (two_blocks b o) = past_both i b o

-- More than the number of steps that the blocks take.
abbrev pub inner_size : BlockTrees → ℕ
inner_size no_block = 0
inner_size (one_block b) = 2 * code_weight b + 1
inner_size (switch_block b) = 2 * code_weight b + 1
inner_size (two_blocks b o) = (2 * code_weight b + 1) + (2 * code_weight o + 1)
