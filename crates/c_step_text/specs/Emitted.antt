-- The text of a function's code, list by list: what a loader puts down in the order of numbers. `e` and `m` are the places
-- in the lists of expressions and cases that the code's own begin at.
use Rattle.std.specs.Prelude.{◌≡◌, ℕ, ◌+◌, List, [], ◌∷◌, ◌++◌, length, Option, Some, None}
use Rattle.c_text.specs.CTree.{TypeTree, ExprTree, Args, no_arg, expr_arg, sizeof_arg, Code, finish, nested, empty, assign, call, jump, branch, repeat, select, leave, case_label, default_label, name_label}
use Rattle.c_meaning.specs.CValues.{literal_number}
use Rattle.c_meaning.specs.CExprs.{cell_type}
use Rattle.c_meaning.specs.CStep.{by_default, Callee, memory_move, memory_set, own, callee_of}
use Rattle.c_step_exprs.specs.declared.instrs.Instr.{Instr}
use Rattle.c_step_exprs.specs.Resolving.{function_number, value_code, place_code, args_code}
use Rattle.c_step_text.specs.Flat.{Span, Arm, StmtInstr, Assign, Call, Move, Zero, Goto, Test, Back, Switch, Return, Finish, Stuck}
use Rattle.c_step_text.specs.Acting.{Activation, names_of, end_of}
use Rattle.c_step_text.specs.Layout.{Names, go, past, past_both, second, number_or, seek}

-- These stand in a list from a place on.
pub record StandAt {A : Type 0} (all : List A) (place : ℕ) (these : List A) : Type 0 where
  pub front : List A
  pub rest : List A
  pub is : all ≡ front ++ (these ++ rest)
  pub size : length front ≡ place

-- The part of a list that these take from a place on.
abbrev pub span_of : {A : Type 0} → ℕ → List A → Span
span_of place these = record { from = place; to = place + length these }

-- The cases of a `switch` whose block has a number; those of a `switch` inside aren't among them.
abbrev pub cases_of : (number : ℕ) → Code → List Arm
cases_of i finish = []
cases_of i (nested inner rest) = cases_of (i + 1) inner ++ cases_of (past i inner) rest
cases_of i (empty rest) = cases_of (i + 1) rest
cases_of i (assign target value rest) = cases_of (i + 1) rest
cases_of i (call target function given rest) = cases_of (i + 1) rest
cases_of i (jump name rest) = cases_of (i + 1) rest
cases_of i (branch test body otherwise other rest) = cases_of (i + 1) body ++ (cases_of (second i body) other ++ cases_of (past_both i body other) rest)
cases_of i (repeat test body rest) = cases_of (i + 1) body ++ cases_of (past i body) rest
cases_of i (select on body rest) = cases_of (past i body) rest
cases_of i (leave value rest) = cases_of (i + 1) rest
cases_of i (case_label n rest) = record { number = literal_number n; target = i } ∷ cases_of (i + 1) rest
cases_of i (default_label rest) = cases_of (i + 1) rest
cases_of i (name_label name rest) = cases_of (i + 1) rest

-- The cases of every `switch` in code, an outer one's before those inside it.
abbrev pub arms_of : (number : ℕ) → Code → List Arm
arms_of i finish = []
arms_of i (nested inner rest) = arms_of (i + 1) inner ++ arms_of (past i inner) rest
arms_of i (empty rest) = arms_of (i + 1) rest
arms_of i (assign target value rest) = arms_of (i + 1) rest
arms_of i (call target function given rest) = arms_of (i + 1) rest
arms_of i (jump name rest) = arms_of (i + 1) rest
arms_of i (branch test body otherwise other rest) = arms_of (i + 1) body ++ (arms_of (second i body) other ++ arms_of (past_both i body other) rest)
arms_of i (repeat test body rest) = arms_of (i + 1) body ++ arms_of (past i body) rest
arms_of i (select on body rest) = cases_of (i + 1) body ++ (arms_of (i + 1) body ++ arms_of (past i body) rest)
arms_of i (leave value rest) = arms_of (i + 1) rest
arms_of i (case_label n rest) = arms_of (i + 1) rest
arms_of i (default_label rest) = arms_of (i + 1) rest
arms_of i (name_label name rest) = arms_of (i + 1) rest

-- The expressions of a call, and its instruction.
abbrev pub target_exprs : Names → Option ExprTree → List Instr
target_exprs names None = []
target_exprs names (Some e) = place_code names.scope e

abbrev pub target_span : Names → ℕ → Option ExprTree → Option Span
target_span names e None = None
target_span names e (Some target) = Some (span_of e (place_code names.scope target))

abbrev pub zero_exprs : Names → Args → List Instr
zero_exprs names no_arg = []
zero_exprs names (expr_arg e others) = value_code names.scope e
zero_exprs names (sizeof_arg name others) = []

abbrev pub zero_instr : Names → (e next : ℕ) → Args → StmtInstr
zero_instr names e next no_arg = Stuck
zero_instr names e next (expr_arg v others) = Zero (span_of e (value_code names.scope v)) next
zero_instr names e next (sizeof_arg name others) = Stuck

abbrev pub own_exprs : Names → Option ExprTree → Option ℕ → Args → List Instr
own_exprs names target None given = []
own_exprs names target (Some function) given = target_exprs names target ++ args_code names.scope given

abbrev pub own_instr : Names → (e next : ℕ) → Option ExprTree → Option ℕ → Args → StmtInstr
own_instr names e next target None given = Stuck
own_instr names e next target (Some function) given = Call (target_span names e target) function (span_of (e + length (target_exprs names target)) (args_code names.scope given)) next

abbrev pub call_exprs : Callee → Names → Option ExprTree → List ℕ → Args → List Instr
call_exprs memory_move names target function given = args_code names.scope given
call_exprs memory_set names target function given = zero_exprs names given
call_exprs own names target function given = own_exprs names target (function_number names.callable function) given

abbrev pub call_instr : Callee → Names → (e next : ℕ) → Option ExprTree → List ℕ → Args → StmtInstr
call_instr memory_move names e next target function given = Move (span_of e (args_code names.scope given)) next
call_instr memory_set names e next target function given = zero_instr names e next given
call_instr own names e next target function given = own_instr names e next target (function_number names.callable function) given

-- The same of `goto` and `return`.
abbrev pub jump_instr : Option ℕ → StmtInstr
jump_instr None = Stuck
jump_instr (Some target) = Goto target

abbrev pub return_exprs : Names → Option TypeTree → Option ExprTree → List Instr
return_exprs names type None = []
return_exprs names None (Some v) = []
return_exprs names (Some type) (Some v) = value_code names.scope v

abbrev pub return_instr : Names → (e : ℕ) → Option TypeTree → Option ExprTree → StmtInstr
return_instr names e type None = Finish
return_instr names e None (Some v) = Stuck
return_instr names e (Some type) (Some v) = Return (span_of e (value_code names.scope v)) (cell_type type)

-- The expressions of code, in the order of the statements.
abbrev pub exprs_of : Names → Code → List Instr
exprs_of names finish = []
exprs_of names (nested inner rest) = exprs_of names inner ++ exprs_of names rest
exprs_of names (empty rest) = exprs_of names rest
exprs_of names (assign target v rest) = place_code names.scope target ++ (value_code names.scope v ++ exprs_of names rest)
exprs_of names (call target function given rest) = call_exprs (callee_of function) names target function given ++ exprs_of names rest
exprs_of names (jump label rest) = exprs_of names rest
exprs_of names (branch test body otherwise other rest) = value_code names.scope test ++ (exprs_of names body ++ (exprs_of names other ++ exprs_of names rest))
exprs_of names (repeat test body rest) = value_code names.scope test ++ (exprs_of names body ++ exprs_of names rest)
exprs_of names (select on body rest) = value_code names.scope on ++ (exprs_of names body ++ exprs_of names rest)
exprs_of names (leave v rest) = return_exprs names names.result_type v ++ exprs_of names rest
exprs_of names (case_label n rest) = exprs_of names rest
exprs_of names (default_label rest) = exprs_of names rest
exprs_of names (name_label name rest) = exprs_of names rest

-- The instructions of code, one for each number.
abbrev pub statements_of : Names → (number next e m : ℕ) → Code → List StmtInstr
statements_of names i next e m finish = []
statements_of names i next e m (nested inner rest) =
    Goto (go (i + 1) (go (past i inner) next rest) inner)
    ∷ (statements_of names (i + 1) (go (past i inner) next rest) e m inner
    ++ (Stuck ∷ statements_of names (past i inner) next (e + length (exprs_of names inner)) (m + length (arms_of (i + 1) inner)) rest))
statements_of names i next e m (empty rest) = Goto (go (i + 1) next rest) ∷ statements_of names (i + 1) next e m rest
statements_of names i next e m (assign target v rest) =
    Assign (span_of e (place_code names.scope target)) (span_of (e + length (place_code names.scope target)) (value_code names.scope v)) (go (i + 1) next rest)
    ∷ statements_of names (i + 1) next (e + length (place_code names.scope target) + length (value_code names.scope v)) m rest
statements_of names i next e m (call target function given rest) =
    call_instr (callee_of function) names e (go (i + 1) next rest) target function given
    ∷ statements_of names (i + 1) next (e + length (call_exprs (callee_of function) names target function given)) m rest
statements_of names i next e m (jump label rest) = jump_instr (names.labels label) ∷ statements_of names (i + 1) next e m rest
statements_of names i next e m (branch test body otherwise other rest) =
    Test (span_of e (value_code names.scope test)) (go (i + 1) (go (past_both i body other) next rest) body) (go (second i body) (go (past_both i body other) next rest) other)
    ∷ (statements_of names (i + 1) (go (past_both i body other) next rest) (e + length (value_code names.scope test)) m body
    ++ (statements_of names (second i body) (go (past_both i body other) next rest) (e + length (value_code names.scope test) + length (exprs_of names body)) (m + length (arms_of (i + 1) body)) other
    ++ (Stuck ∷ statements_of names (past_both i body other) next (e + length (value_code names.scope test) + length (exprs_of names body) + length (exprs_of names other)) (m + length (arms_of (i + 1) body) + length (arms_of (second i body) other)) rest)))
statements_of names i next e m (repeat test body rest) =
    Test (span_of e (value_code names.scope test)) (go (i + 1) (second i body) body) (go (past i body) next rest)
    ∷ (statements_of names (i + 1) (second i body) (e + length (value_code names.scope test)) m body
    ++ (Back (span_of e (value_code names.scope test)) (go (i + 1) (second i body) body) (go (past i body) next rest)
    ∷ statements_of names (past i body) next (e + length (value_code names.scope test) + length (exprs_of names body)) (m + length (arms_of (i + 1) body)) rest))
statements_of names i next e m (select on body rest) =
    Switch (span_of e (value_code names.scope on)) (span_of m (cases_of (i + 1) body)) (number_or (seek by_default (i + 1) body) (go (past i body) next rest))
    ∷ (statements_of names (i + 1) (go (past i body) next rest) (e + length (value_code names.scope on)) (m + length (cases_of (i + 1) body)) body
    ++ (Stuck ∷ statements_of names (past i body) next (e + length (value_code names.scope on) + length (exprs_of names body)) (m + length (cases_of (i + 1) body) + length (arms_of (i + 1) body)) rest))
statements_of names i next e m (leave v rest) = return_instr names e names.result_type v ∷ statements_of names (i + 1) next (e + length (return_exprs names names.result_type v)) m rest
statements_of names i next e m (case_label n rest) = Goto (go (i + 1) next rest) ∷ statements_of names (i + 1) next e m rest
statements_of names i next e m (default_label rest) = Goto (go (i + 1) next rest) ∷ statements_of names (i + 1) next e m rest
statements_of names i next e m (name_label name rest) = Goto (go (i + 1) next rest) ∷ statements_of names (i + 1) next e m rest

-- The instructions of a function: those of its body, and its end.
abbrev pub function_statements : Activation → (e m : ℕ) → List StmtInstr
function_statements a e m = statements_of (names_of a) a.start (end_of a) e m a.running.body ++ Finish ∷ []
