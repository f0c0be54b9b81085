-- Statements that break no rule, by what each asks of its parts.
use Rattle.std.specs.Prelude.{◌≡◌, ℕ, ◌+◌, suc, ⊤, Bool, true, false, List, length, map, Option, None, Some, nat_lt, slice_get}
use Rattle.wf_base.specs.declared.marks.Mark.{Mark}
use Rattle.wf_base.specs.BaseTable.{row_of}
use Rattle.wf_ast.specs.declared.operators.Op.{Op}
use Rattle.wf_ast.specs.TypedTrees.{operator_kind}
use Rattle.wf_ast.specs.TypedInvariant.{is_numeric, has_kind}
use Rattle.wf_ast.specs.WellTyped.{is_pure}
use Rattle.wf_ast.specs.OperatorForms.{is_arithmetic}
use Rattle.wf_named.specs.declared.nodes.NamedCallee.{NamedCallee}
use Rattle.wf_named.specs.declared.nodes.NamedCallee.TheVariants as callees
use Rattle.wf_named.specs.NamedTree.{NamedExprTree, path, index, answer, NamedArgTrees, no_arg, more_args, NamedCallTree, call, NamedTargetTree, to_path, to_element, NamedClauseTrees, no_clause, more_clauses, LetterTrees, no_letter, more_letters, NamedViaTree, by_itself, via, NamedStmtTree, assign, keep, do_call, branch, loop, leave, again, back, suspend, claim, NamedBlockTree, close, more_stmts, NamedArmTrees, no_else, otherwise, arm, NamedPackageTree}
use Rattle.wf_named.specs.Grammar.{has_condition}
use Rattle.wf_types_rules.specs.declared.settings.Setting.{Setting}
use Rattle.wf_types_rules.specs.Meanings.{variable}
use Rattle.wf_types_rules.specs.Judgements.{target_meaning}
use Rattle.wf_typed_tree.specs.ElaboratedExprs.{type_meant, type_of}
use Rattle.wf_typed_tree.specs.ElaboratedStmts.{type_of_update, status_in}
use Rattle.wf_typed_exprs.specs.Right.{IsRight, IsRightPath, IsRightEnd}

-- What stands round the statements of a method's body: the number of all statuses, and the mark of each method.
pub record Known : Type 0 where
  pub statuses : ℕ
  pub marks : List Mark

abbrev pub known_in : NamedPackageTree → Known
known_in p = record { statuses = 10 + length p.statuses; marks = map (λ m. m.mark) p.methods }

-- An argument means something, and a reader or writer is handed on by its path.
abbrev pub IsRightArg : Setting → Known → NamedExprTree → Type 0
IsRightArg s k (path p) = IsRightPath s k.statuses p
IsRightArg s k e = IsRight s k.statuses e

abbrev pub AreRightArgs : Setting → Known → NamedArgTrees → Type 0
AreRightArgs s k no_arg = ⊤
AreRightArgs s k (more_args e others) = IsRightArg s k e × AreRightArgs s k others

-- What is called has the mark that is written.
abbrev pub IsRightCallee : Setting → Known → NamedCallee → Mark → Type 0
IsRightCallee s k (callees.Own m) mark = slice_get k.marks m.0 ≡ Some mark
IsRightCallee s k (callees.Sub x m) mark = slice_get k.marks m.0 ≡ Some mark
IsRightCallee s k (callees.Base on sig) mark = IsRightPath s k.statuses on × (has_kind (row_of sig).on (type_meant (variable s on.of)) ≡ true)

-- A call that is a whole statement, or a whole right side.
abbrev pub IsRightCall : Setting → Known → NamedCallTree → Type 0
IsRightCall s k (call callee at mark args) = IsRightCallee s k callee mark × AreRightArgs s k args

-- What a pure base method answers is a value like any other.
abbrev pub is_answer : NamedCallee → Bool
is_answer (callees.Base on sig) = is_pure (row_of sig).mark
is_answer callee = false

abbrev pub IsRightBy : (answers : Bool) → Setting → Known → NamedCallTree → Type 0
IsRightBy true s k c = IsRight s k.statuses (answer c)
IsRightBy false s k c = IsRightCall s k c

abbrev pub IsRightAnswer : Setting → Known → NamedCallTree → Type 0
IsRightAnswer s k (call callee at mark args) = IsRightBy (is_answer callee) s k (call callee at mark args)

abbrev pub IsRightValue : Setting → Known → NamedExprTree → Type 0
IsRightValue s k (answer c) = IsRightAnswer s k c
IsRightValue s k e = IsRight s k.statuses e

-- What is written to means what its path or its element does.
abbrev pub IsRightTarget : Setting → Known → NamedTargetTree → Type 0
IsRightTarget s k (to_path p) = IsRightPath s k.statuses p × (target_meaning s (to_path p) ≡ variable s p.of)
IsRightTarget s k (to_element p i at) = IsRight s k.statuses (index p i at)

-- An operator with `=` stands between two numbers and gives one.
pub record IsRightUpdate (s : Setting) (k : Known) (t : NamedTargetTree) (op : Op) (e : NamedExprTree) : Type 0 where
  pub gives : is_arithmetic (operator_kind op) ≡ true
  pub target : is_numeric (type_meant (target_meaning s t)) ≡ true
  pub result : is_numeric (type_of_update s t) ≡ true
  pub value : is_numeric (type_of s e) ≡ true
  pub right : IsRight s k.statuses e

abbrev pub IsRightSide : Setting → Known → NamedTargetTree → Option Op → NamedExprTree → Type 0
IsRightSide s k t None e = IsRightValue s k e
IsRightSide s k t (Some op) e = IsRightUpdate s k t op e

abbrev pub AreRightClauses : Setting → Known → NamedClauseTrees → Type 0
AreRightClauses s k no_clause = ⊤
AreRightClauses s k (more_clauses kind e at others) = IsRight s k.statuses e × AreRightClauses s k others

abbrev pub AreRightLetters : Setting → Known → LetterTrees → Type 0
AreRightLetters s k no_letter = ⊤
AreRightLetters s k (more_letters letter e others) = IsRight s k.statuses e × AreRightLetters s k others

abbrev pub IsRightVia : Setting → Known → NamedViaTree → Type 0
IsRightVia s k by_itself = ⊤
IsRightVia s k (via text given) = AreRightLetters s k given

-- Statements; `loops` is the number of loops round them. A jump means one of these, an `if` has a condition, and what is
-- yielded is a status.
abbrev mutual
  pub IsRightStmt : Setting → Known → (loops : ℕ) → NamedStmtTree → Type 0
  IsRightStmt s k loops (assign t op sign e at) = IsRightTarget s k t × IsRightSide s k t op e
  IsRightStmt s k loops (keep t c at) = IsRightTarget s k t × IsRightCall s k c
  IsRightStmt s k loops (do_call c at) = IsRightCall s k c
  IsRightStmt s k loops (branch arms at) = (has_condition arms ≡ true) × AreRightArms s k loops arms
  IsRightStmt s k loops (loop e clauses body at) = IsRight s k.statuses e × (AreRightClauses s k clauses × IsRightBlock s k (suc loops) body)
  IsRightStmt s k loops (leave outwards at) = nat_lt outwards loops ≡ true
  IsRightStmt s k loops (again outwards at) = nat_lt outwards loops ≡ true
  IsRightStmt s k loops (back e at) = IsRightEnd s k.statuses e
  IsRightStmt s k loops (suspend e at) = nat_lt (status_in e) k.statuses ≡ true
  IsRightStmt s k loops (claim e by at) = IsRight s k.statuses e × IsRightVia s k by

  pub IsRightBlock : Setting → Known → (loops : ℕ) → NamedBlockTree → Type 0
  IsRightBlock s k loops (close at) = ⊤
  IsRightBlock s k loops (more_stmts first others) = IsRightStmt s k loops first × IsRightBlock s k loops others

  pub AreRightArms : Setting → Known → (loops : ℕ) → NamedArmTrees → Type 0
  AreRightArms s k loops no_else = ⊤
  AreRightArms s k loops (otherwise body) = IsRightBlock s k loops body
  AreRightArms s k loops (arm e body others) = IsRight s k.statuses e × (IsRightBlock s k loops body × AreRightArms s k loops others)
