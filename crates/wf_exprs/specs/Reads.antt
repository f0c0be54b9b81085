-- What C code reads. A name that is only assigned to isn't read.
use Rattle.std.specs.Prelude.{ℕ, Bool, false, ◌||◌, List, Option, None, Some, bytes_eq}
use Rattle.c_text.specs.CTree.{ExprTree, number, variable, member, element, pointed, operation, unary, cast, choice, called, Operands, no_operand, operand, Args, no_arg, expr_arg, sizeof_arg, Code, finish, nested, empty, assign, call, jump, branch, repeat, select, leave, case_label, default_label, name_label}

-- The expression names a variable or a function.
abbrev mutual
  pub expr_reads : (name : List ℕ) → ExprTree → Bool
  expr_reads name (number n) = false
  expr_reads name (variable other) = bytes_eq name other
  expr_reads name (member of field) = expr_reads name of
  expr_reads name (element of index) = expr_reads name of || expr_reads name index
  expr_reads name (pointed of) = expr_reads name of
  expr_reads name (operation op first second others) = expr_reads name first || (expr_reads name second || operands_read name others)
  expr_reads name (unary op of) = expr_reads name of
  expr_reads name (cast to of) = expr_reads name of
  expr_reads name (choice test met unmet) = expr_reads name test || (expr_reads name met || expr_reads name unmet)
  expr_reads name (called function given) = bytes_eq name function || args_read name given

  pub operands_read : (name : List ℕ) → Operands → Bool
  operands_read name no_operand = false
  operands_read name (operand e others) = expr_reads name e || operands_read name others

  pub args_read : (name : List ℕ) → Args → Bool
  args_read name no_arg = false
  args_read name (expr_arg e others) = expr_reads name e || args_read name others
  args_read name (sizeof_arg other others) = args_read name others

-- What is assigned to: a variable isn't read, a pointer or an index on the way is.
abbrev pub target_reads : (name : List ℕ) → ExprTree → Bool
target_reads name (variable other) = false
target_reads name e = expr_reads name e

abbrev pub result_reads : (name : List ℕ) → Option ExprTree → Bool
result_reads name None = false
result_reads name (Some target) = target_reads name target

abbrev pub value_reads : (name : List ℕ) → Option ExprTree → Bool
value_reads name None = false
value_reads name (Some e) = expr_reads name e

abbrev pub code_reads : (name : List ℕ) → Code → Bool
code_reads name finish = false
code_reads name (nested inner rest) = code_reads name inner || code_reads name rest
code_reads name (empty rest) = code_reads name rest
code_reads name (assign target value rest) = target_reads name target || (expr_reads name value || code_reads name rest)
code_reads name (call target function given rest) = result_reads name target || (args_read name given || code_reads name rest)
code_reads name (jump label rest) = code_reads name rest
code_reads name (branch test body otherwise other rest) = expr_reads name test || (code_reads name body || (code_reads name other || code_reads name rest))
code_reads name (repeat test body rest) = expr_reads name test || (code_reads name body || code_reads name rest)
code_reads name (select on body rest) = expr_reads name on || (code_reads name body || code_reads name rest)
code_reads name (leave value rest) = value_reads name value || code_reads name rest
code_reads name (case_label n rest) = code_reads name rest
code_reads name (default_label rest) = code_reads name rest
code_reads name (name_label label rest) = code_reads name rest
