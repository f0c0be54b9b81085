-- What the functions of a C text call, by its tree (ISO/IEC 9899:1999, 6.5.2.2).
use Rattle.std.specs.Prelude.{◌≡◌, ◌⊎◌, ℕ, List, [], ◌∷◌, ◌++◌, Option, Some, None, bytes_eq, if◌then◌else◌}
use Rattle.c_text.specs.CTree.{ExprTree, number, variable, member, element, pointed, operation, unary, cast, choice, called, Operands, no_operand, operand, Args, no_arg, expr_arg, sizeof_arg, Code, finish, nested, empty, assign, call, jump, branch, repeat, select, leave, case_label, default_label, name_label, LocalTree}
use Rattle.c_meaning.specs.CTypes.{Function}
use Rattle.c_meaning.specs.CStep.{Callee, memory_move, memory_set, own, callee_of}

abbrev mutual
  -- The names of the functions that an expression calls.
  pub expr_callees : ExprTree → List (List ℕ)
  expr_callees (number n) = []
  expr_callees (variable name) = []
  expr_callees (member pointer field) = expr_callees pointer
  expr_callees (element pointer index) = expr_callees pointer ++ expr_callees index
  expr_callees (pointed pointer) = expr_callees pointer
  expr_callees (operation op first second others) = expr_callees first ++ (expr_callees second ++ operand_callees others)
  expr_callees (unary op of) = expr_callees of
  expr_callees (cast to of) = expr_callees of
  expr_callees (choice test met unmet) = expr_callees test ++ (expr_callees met ++ expr_callees unmet)
  expr_callees (called function given) = function ∷ arg_callees given

  -- The same of further operands.
  pub operand_callees : Operands → List (List ℕ)
  operand_callees no_operand = []
  operand_callees (operand e others) = expr_callees e ++ operand_callees others

  -- The same of arguments.
  pub arg_callees : Args → List (List ℕ)
  arg_callees no_arg = []
  arg_callees (expr_arg e others) = expr_callees e ++ arg_callees others
  arg_callees (sizeof_arg name others) = arg_callees others

-- The same of an expression that may be missing.
abbrev pub optional_callees : Option ExprTree → List (List ℕ)
optional_callees None = []
optional_callees (Some e) = expr_callees e

-- `memmove` and `memset` are no functions of a text (7.1.3).
abbrev pub called_name : Callee → List ℕ → List (List ℕ)
called_name memory_move name = []
called_name memory_set name = []
called_name own name = name ∷ []

-- The same of a statement, of the blocks in it and of the statements after it in its block.
abbrev pub code_callees : Code → List (List ℕ)
code_callees finish = []
code_callees (nested inner rest) = code_callees inner ++ code_callees rest
code_callees (empty rest) = code_callees rest
code_callees (assign target value rest) = expr_callees target ++ (expr_callees value ++ code_callees rest)
code_callees (call target function given rest) = called_name (callee_of function) function ++ (optional_callees target ++ (arg_callees given ++ code_callees rest))
code_callees (jump label rest) = code_callees rest
code_callees (branch test body otherwise other rest) = expr_callees test ++ (code_callees body ++ (code_callees other ++ code_callees rest))
code_callees (repeat test body rest) = expr_callees test ++ (code_callees body ++ code_callees rest)
code_callees (select on body rest) = expr_callees on ++ (code_callees body ++ code_callees rest)
code_callees (leave value rest) = optional_callees value ++ code_callees rest
code_callees (case_label n rest) = code_callees rest
code_callees (default_label rest) = code_callees rest
code_callees (name_label name rest) = code_callees rest

-- The same of the initial values of locals.
abbrev pub local_callees : List LocalTree → List (List ℕ)
local_callees [] = []
local_callees (l ∷ ls) = optional_callees l.initial ++ local_callees ls

-- The names of the functions that a function calls, in its statements, in expressions and in initial values.
abbrev pub callees : Function → List (List ℕ)
callees f = code_callees f.body ++ local_callees f.locals

-- The list has this.
abbrev pub IsIn : {A : Type 0} → A → List A → Type 0
IsIn x [] = ⊥
IsIn x (y ∷ ys) = (x ≡ y) ⊎ IsIn x ys

-- A function of a text, with those that stand before it, the last one first: only these can it call (6.2.1p7).
pub record Placed : Type 0 where
  pub function : Function
  pub before : List Function

abbrev pub placed : Function → List Function → Placed
placed f before = record { function = f; before = before }

-- The last function of this name.
abbrev pub last_named : List Function → List ℕ → Option Placed
last_named [] name = None
last_named (f ∷ fs) name = if bytes_eq f.name name then Some (placed f fs) else last_named fs name

-- A function calls another one.
abbrev pub Calls : Placed → Placed → Type 0
Calls f g = (name : List ℕ) × IsIn name (callees f.function) × (last_named f.before name ≡ Some g)
