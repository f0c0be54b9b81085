-- How many brackets the text of a method opens inside one another, those that its parsed tree can't do without.
use Rattle.std.specs.Prelude.{◌-◌, ℕ, Bool, true, false, ◌&&◌, nat_le}
use Rattle.wf_ast.specs.ParsedTree.{ExprTree, index, slice, answer, chain, convert, negation, PartTree, absent, present, LinkTrees, no_link, link, GivenTrees, no_given, more_given, CallTree, call}
use Rattle.wf_ast.specs.ParsedTree.{TargetTree, to_path, to_element, StmtTree, assign, keep, do_call, branch, loop, back, BlockTree, close, more_stmts, ArmTrees, no_else, otherwise, arm, DeclTree, method}

-- Where an expression stands: by itself, beside the sign of an operator or before `as`, or after `not`.
pub data Spot : Type 0 where
  alone : Spot
  beside_sign : Spot
  behind_not : Spot

-- Whether an operator there, or a `not`, has brackets of its own.
abbrev pub boxes_sign : Spot → Bool
boxes_sign alone = false
boxes_sign spot = true

abbrev pub boxes_not : Spot → Bool
boxes_not behind_not = true
boxes_not spot = false

-- Where r brackets may still be opened inside one another, one more may be where it has to, and so many are left inside it.
abbrev pub may_open : (boxed : Bool) → (r : ℕ) → Bool
may_open true r = nat_le 1 r
may_open false r = true

abbrev pub room_in : (boxed : Bool) → (r : ℕ) → ℕ
room_in true r = r - 1
room_in false r = r

-- At most r brackets are opened inside one another. An index, the ends of a slice and arguments stand in brackets. Types don't count:
-- a text of C has none of their expressions.
abbrev mutual
  pub expr_opens : Spot → (r : ℕ) → ExprTree → Bool
  expr_opens spot r (index base place at) = nat_le 1 r && expr_opens alone (r - 1) place
  expr_opens spot r (slice base from to at) = nat_le 1 r && (part_opens (r - 1) from && part_opens (r - 1) to)
  expr_opens spot r (answer (call on name mark given)) = nat_le 1 r && given_opens (r - 1) given
  expr_opens spot r (chain op first links at) =
      may_open (boxes_sign spot) r && (expr_opens beside_sign (room_in (boxes_sign spot) r) first && links_open (room_in (boxes_sign spot) r) links)
  expr_opens spot r (convert of to at) = may_open (boxes_sign spot) r && expr_opens beside_sign (room_in (boxes_sign spot) r) of
  expr_opens spot r (negation of at) = may_open (boxes_not spot) r && expr_opens behind_not (room_in (boxes_not spot) r) of
  expr_opens spot r e = true

  pub part_opens : (r : ℕ) → PartTree → Bool
  part_opens r absent = true
  part_opens r (present part) = expr_opens alone r part

  pub links_open : (r : ℕ) → LinkTrees → Bool
  links_open r no_link = true
  links_open r (link sign operand others) = expr_opens beside_sign r operand && links_open r others

  pub given_opens : (r : ℕ) → GivenTrees → Bool
  given_opens r no_given = true
  given_opens r (more_given name value others) = expr_opens alone r value && given_opens r others

abbrev pub call_opens : (r : ℕ) → CallTree → Bool
call_opens r (call on name mark given) = nat_le 1 r && given_opens (r - 1) given

abbrev pub target_opens : (r : ℕ) → TargetTree → Bool
target_opens r (to_path path) = true
target_opens r (to_element base place at) = nat_le 1 r && expr_opens alone (r - 1) place

-- Statements, each block inside them in braces of its own. What a loop promises and what is asserted doesn't count either.
abbrev mutual
  pub stmt_opens : (r : ℕ) → StmtTree → Bool
  stmt_opens r (assign target op sign value at) = target_opens r target && expr_opens alone r value
  stmt_opens r (keep target c at) = target_opens r target && call_opens r c
  stmt_opens r (do_call c at) = call_opens r c
  stmt_opens r (branch arms at) = arms_open r arms
  stmt_opens r (loop label condition clauses body at) = expr_opens alone r condition && (nat_le 1 r && block_opens (r - 1) body)
  stmt_opens r (back value at) = part_opens r value
  stmt_opens r s = true

  pub block_opens : (r : ℕ) → BlockTree → Bool
  block_opens r (close at) = true
  block_opens r (more_stmts first others) = stmt_opens r first && block_opens r others

  pub arms_open : (r : ℕ) → ArmTrees → Bool
  arms_open r no_else = true
  arms_open r (otherwise body) = nat_le 1 r && block_opens (r - 1) body
  arms_open r (arm condition body others) = expr_opens alone r condition && ((nat_le 1 r && block_opens (r - 1) body) && arms_open r others)

-- Of the 48 brackets that may be open at once, one is that of a method's body.
abbrev pub decl_opens : DeclTree → Bool
decl_opens (method public owner name mark args result body at) = block_opens 47 body
decl_opens decl = true
