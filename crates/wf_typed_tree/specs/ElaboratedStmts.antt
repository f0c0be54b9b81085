-- The typed trees of statements: an `else if` is an `if` that is chained to the one before its `else`, a call stands by
-- its kind, and a jump tells the number of its loop.
use Rattle.std.specs.Prelude.{ℕ, suc, ◌+◌, Bool, true, false, List, [], ◌∷◌, Option, None, Some, if◌then◌else◌, slice_get, unwrap_or}
use Rattle.wf_text.specs.declared.place.Place.{Place}
use Rattle.wf_base.specs.BaseTable.{row_of}
use Rattle.wf_ast.specs.declared.operators.Op.{Op}
use Rattle.wf_ast.specs.declared.parsed.Clause.{Clause}
use Rattle.wf_ast.specs.declared.types.Ty.{Ty}
use Rattle.wf_ast.specs.declared.types.Ty.TheVariants as types
use Rattle.wf_ast.specs.TypedTree.{NumTree, CondTree, ValueTree, Target, to_nothing, Axiom, Simple, invoke, own, sub, break_from, continue_in, give_back, yield, Site, Head, Block, end, plain, choose}
use Rattle.wf_ast.specs.TypedTree as typed
use Rattle.wf_ast.specs.TypedTrees.{operator_kind, num_in, cond_in, chain_of, answer_of, target_of, arithmetic_of, base_call, no_statement}
use Rattle.wf_ast.specs.WellTyped.{is_pure}
use Rattle.wf_named.specs.declared.nodes.NamedCallee.TheVariants as callees
use Rattle.wf_named.specs.NamedTree.{NamedExprTree, status, index, answer, NamedPartTree, absent, present, NamedCallTree, call, NamedTargetTree, to_path, to_element, NamedClauseTrees, no_clause, more_clauses, LetterTrees, no_letter, more_letters, NamedViaTree, by_itself, via, NamedStmtTree, assign, keep, do_call, branch, loop, leave, again, back, suspend, claim, NamedBlockTree, close, more_stmts, NamedArmTrees, no_else, otherwise, arm}
use Rattle.wf_types_rules.specs.declared.settings.Setting.{Setting}
use Rattle.wf_types_rules.specs.Meanings.{all_of}
use Rattle.wf_types_rules.specs.Judgements.{target_meaning, block_leaves, closing_brace}
use Rattle.wf_typed_tree.specs.ElaboratedExprs.{path_tree, type_meant, expr_tree, arg_trees}

-- What is written to, as an expression and as a target.
abbrev pub written_to : Setting → NamedTargetTree → ValueTree
written_to s (to_path p) = path_tree s p
written_to s (to_element p i at) = expr_tree s (index p i at)

abbrev pub target_tree : Setting → NamedTargetTree → Target
target_tree s t = target_of (written_to s t)

-- All numbers of a type's width.
abbrev pub unrefined : Ty → Ty
unrefined (types.Num width lo hi) = all_of width
unrefined ty = ty

-- The type of what an operator before an `=` gives: that of the operator between the target and the value.
abbrev pub type_of_update : Setting → NamedTargetTree → Ty
type_of_update s t = unrefined (type_meant (target_meaning s t))

-- It stands between the target and the value.
abbrev pub update_tree : Setting → NamedTargetTree → Op → (sign : Place) → NamedExprTree → ValueTree
update_tree s t op sign e = chain_of sign (sign ∷ []) (type_of_update s t) (operator_kind op) (written_to s t ∷ expr_tree s e ∷ [])

-- A call that is a whole statement, or a whole right side.
abbrev pub call_tree : Setting → Target → (kept : Bool) → NamedCallTree → Simple
call_tree s target kept (call (callees.Own m) at mark args) = invoke at target kept mark (own m.0) (arg_trees s args)
call_tree s target kept (call (callees.Sub x m) at mark args) = invoke at target kept mark (sub x.0 m.0) (arg_trees s args)
call_tree s target kept (call (callees.Base on sig) at mark args) = base_call at target (path_tree s on) sig (arg_trees s args)

-- What a pure base method answers is a value like any other.
abbrev pub assigned_call : Setting → Target → NamedCallTree → Simple
assigned_call s target (call (callees.Base on sig) at mark args) =
    if is_pure (row_of sig).mark then typed.assign target None (answer_of at sig (path_tree s on)) else call_tree s target false (call (callees.Base on sig) at mark args)
assigned_call s target c = call_tree s target false c

abbrev pub assign_tree : Setting → NamedTargetTree → Option Op → (sign : Place) → NamedExprTree → Simple
assign_tree s t (Some op) sign e = typed.assign (target_tree s t) (arithmetic_of (operator_kind op)) (update_tree s t op sign e)
assign_tree s t None sign (answer c) = assigned_call s (target_tree s t) c
assign_tree s t None sign e = typed.assign (target_tree s t) None (expr_tree s e)

abbrev pub returned_tree : Setting → NamedPartTree → Option ValueTree
returned_tree s absent = None
returned_tree s (present e) = Some (expr_tree s e)

abbrev pub status_in : NamedExprTree → ℕ
status_in (status n at) = n
status_in e = 0

-- What is given for the letters of an axiom.
abbrev pub letter_trees : Setting → LetterTrees → List (List ℕ × NumTree)
letter_trees s no_letter = []
letter_trees s (more_letters letter e others) = (letter.text, num_in (expr_tree s e)) ∷ letter_trees s others

abbrev pub axiom_tree : Setting → NamedViaTree → Option Axiom
axiom_tree s by_itself = None
axiom_tree s (via name given) = Some (record { at = name.at; text = name.text; given = letter_trees s given })

-- A jump means the loop that stands so many loops outwards; `loops` are the numbers of those round it, the innermost first.
abbrev pub loop_meant : (loops : List ℕ) → (outwards : ℕ) → ℕ
loop_meant loops outwards = unwrap_or (slice_get loops outwards) 0

-- A statement without blocks of its own.
abbrev pub simple_tree : Setting → (loops : List ℕ) → NamedStmtTree → Simple
simple_tree s loops (assign t op sign e at) = assign_tree s t op sign e
simple_tree s loops (keep t c at) = call_tree s (target_tree s t) true c
simple_tree s loops (do_call c at) = call_tree s to_nothing false c
simple_tree s loops (leave outwards at) = break_from (loop_meant loops outwards)
simple_tree s loops (again outwards at) = continue_in (loop_meant loops outwards)
simple_tree s loops (back e at) = give_back (returned_tree s e)
simple_tree s loops (suspend e at) = yield (status_in e)
simple_tree s loops (claim e by at) = typed.claim (cond_in (expr_tree s e)) (axiom_tree s by)
simple_tree s loops st = no_statement

abbrev pub stmt_place : NamedStmtTree → Place
stmt_place (assign t op sign e at) = at
stmt_place (keep t c at) = at
stmt_place (do_call c at) = at
stmt_place (branch arms at) = at
stmt_place (loop e clauses body at) = at
stmt_place (leave outwards at) = at
stmt_place (again outwards at) = at
stmt_place (back e at) = at
stmt_place (suspend e at) = at
stmt_place (claim e by at) = at

-- The statements of a package are numbered in written order, each after those inside it. So many statements are there,
-- with those inside them.
abbrev mutual
  pub count_stmt : NamedStmtTree → ℕ
  count_stmt (branch arms at) = suc (count_arms arms)
  count_stmt (loop e clauses body at) = suc (count_block body)
  count_stmt st = 1

  pub count_block : NamedBlockTree → ℕ
  count_block (close at) = 0
  count_block (more_stmts first others) = count_stmt first + count_block others

  pub count_arms : NamedArmTrees → ℕ
  count_arms no_else = 0
  count_arms (otherwise body) = count_block body
  count_arms (arm e body others) = count_block body + count_arms others

abbrev pub site : (number : ℕ) → Place → Site
site number at = record { number = number; at = at }

abbrev pub clause_trees : Setting → NamedClauseTrees → List (Clause × CondTree)
clause_trees s no_clause = []
clause_trees s (more_clauses kind e at others) = (kind, cond_in (expr_tree s e)) ∷ clause_trees s others

-- What stands before a loop's body.
abbrev pub head_tree : Setting → NamedExprTree → NamedClauseTrees → NamedBlockTree → Head
head_tree s e clauses body =
    record { cond = cond_in (expr_tree s e); clauses = clause_trees s clauses; is_left = block_leaves 0 body; close = closing_brace body }

-- Statements with those that follow them. `n` is the number of the first statement that is inside one or is one itself.
abbrev mutual
  pub stmt_tree : Setting → (loops : List ℕ) → (n : ℕ) → NamedStmtTree → (rest : Block) → Block
  stmt_tree s loops n (branch arms at) rest = arms_tree s loops n (site (n + count_arms arms) at) false arms rest
  stmt_tree s loops n (loop e clauses body at) rest =
      typed.loop (site (n + count_block body) at) (head_tree s e clauses body) (block_tree s ((n + count_block body) ∷ loops) n body) rest
  stmt_tree s loops n st rest = plain (site n (stmt_place st)) (simple_tree s loops st) rest

  pub block_tree : Setting → (loops : List ℕ) → (n : ℕ) → NamedBlockTree → Block
  block_tree s loops n (close at) = end
  block_tree s loops n (more_stmts first others) = stmt_tree s loops n first (block_tree s loops (n + count_stmt first) others)

  -- The arms of an `if`, which are chained but for the first; `rest` follows the `if`.
  pub arms_tree : Setting → (loops : List ℕ) → (n : ℕ) → Site → (chained : Bool) → NamedArmTrees → (rest : Block) → Block
  arms_tree s loops n of chained no_else rest = end
  arms_tree s loops n of chained (otherwise body) rest = block_tree s loops n body
  arms_tree s loops n of chained (arm e body others) rest =
      choose of chained (cond_in (expr_tree s e)) (block_tree s loops n body) (arms_tree s loops (n + count_block body) of true others end) rest
