-- How a function's text is laid out. A statement has the number of the text's end less the text that is left from the
-- statement on, so that a later statement has a greater number. What ends a block has no instruction: the last statement
-- of a block names what stands after the block. A few numbers are of no statement, and nothing leads to them.
use Rattle.std.specs.Prelude.{◌≡◌, ℕ, ◌+◌, Bool, true, false, if◌then◌else◌, List, Option, Some, None}
use Rattle.c_text.specs.CTree.{TypeTree, ExprTree, Args, no_arg, expr_arg, sizeof_arg, Code, finish, nested, empty, assign, call, jump, branch, repeat, select, leave, case_label, default_label, name_label}
use Rattle.c_meaning.specs.declared.values.Number.{Number}
use Rattle.c_meaning.specs.CTypes.{Function, CScope}
use Rattle.c_meaning.specs.CExprs.{cell_type}
use Rattle.c_meaning.specs.CStep.{Continuation, stop, behind, again, code_weight, continuation_weight, Label, by_case, by_default, enters_switch, is_case, is_default, is_named, Callee, memory_move, memory_set, own, callee_of}
use Rattle.c_step_exprs.specs.Resolving.{function_number, place_code, args_code}
use Rattle.c_step_text.specs.Flat.{Span, Assign, Call, Move, Zero, Goto, Test, Back, Switch, Return, Finish, Stuck, FlatText, Has, HasOf, code_in, arms_in, arm_of}

-- What a function's text depends on beside its body: the names of its expressions, the functions that it can call, the
-- type of its result, and the numbers of its labels.
pub record Names : Type 0 where
  pub scope : CScope
  pub callable : List Function
  pub result_type : Option TypeTree
  pub labels : List ℕ → Option ℕ

-- The number to go to for code with a number, where `next` follows it.
abbrev pub go : (number next : ℕ) → Code → ℕ
go i next finish = next
go i next code = i

-- Numbers in a statement with a number: of what follows its block, or its two blocks, and of its second block.
abbrev pub past : ℕ → Code → ℕ
past i body = i + code_weight body + 2

abbrev pub past_both : ℕ → Code → Code → ℕ
past_both i body other = i + code_weight body + code_weight other + 2

abbrev pub second : ℕ → Code → ℕ
second i body = i + code_weight body + 1

-- The first of two numbers that is there.
abbrev pub first_number : Option ℕ → Option ℕ → Option ℕ
first_number (Some n) other = Some n
first_number None other = other

abbrev pub number_here : Bool → ℕ → Option ℕ → Option ℕ
number_here true n other = Some n
number_here false n other = other

-- The number of a labelled statement in code with a number.
abbrev pub seek : Label → (number : ℕ) → Code → Option ℕ
seek label i finish = None
seek label i (nested inner rest) = first_number (seek label (i + 1) inner) (seek label (past i inner) rest)
seek label i (empty rest) = seek label (i + 1) rest
seek label i (assign target value rest) = seek label (i + 1) rest
seek label i (call target function given rest) = seek label (i + 1) rest
seek label i (jump name rest) = seek label (i + 1) rest
seek label i (branch test body otherwise other rest) = first_number (seek label (i + 1) body) (first_number (seek label (second i body) other) (seek label (past_both i body other) rest))
seek label i (repeat test body rest) = first_number (seek label (i + 1) body) (seek label (past i body) rest)
seek label i (select on body rest) = first_number (if enters_switch label then seek label (i + 1) body else None) (seek label (past i body) rest)
seek label i (leave value rest) = seek label (i + 1) rest
seek label i (case_label n rest) = number_here (is_case label n) i (seek label (i + 1) rest)
seek label i (default_label rest) = number_here (is_default label) i (seek label (i + 1) rest)
seek label i (name_label name rest) = number_here (is_named label name) i (seek label (i + 1) rest)

-- A number, or another one where there is none.
abbrev pub number_or : Option ℕ → ℕ → ℕ
number_or (Some n) other = n
number_or None other = other

-- An assignment (6.5.16).
pub record LaidAssign (t : FlatText) (names : Names) (i next : ℕ) (target value : ExprTree) : Type 0 where
  pub place : Span
  pub code : code_in t place ≡ place_code names.scope target
  pub of : HasOf t names.scope i value (λ from. Assign place from next)

-- Calls (6.5.2.2, 7.21.2.2, 7.21.6.1).
pub record LaidMove (t : FlatText) (names : Names) (i next : ℕ) (given : Args) : Type 0 where
  pub span : Span
  pub code : code_in t span ≡ args_code names.scope given
  pub has : Has t i (Move span next)

abbrev pub LaidZero : FlatText → Names → (i next : ℕ) → Args → Type 0
LaidZero t names i next no_arg = Has t i Stuck
LaidZero t names i next (expr_arg e others) = HasOf t names.scope i e (λ span. Zero span next)
LaidZero t names i next (sizeof_arg name others) = Has t i Stuck

-- The place of a call's target, where it has one.
abbrev pub IsTarget : FlatText → Names → Option ExprTree → Option Span → Type 0
IsTarget t names None None = Unit {0}
IsTarget t names (Some e) (Some span) = code_in t span ≡ place_code names.scope e
IsTarget t names target span = ⊥

pub record LaidFunction (t : FlatText) (names : Names) (i next : ℕ) (target : Option ExprTree) (function : ℕ) (given : Args) : Type 0 where
  pub place : Option Span
  pub target_is : IsTarget t names target place
  pub span : Span
  pub code : code_in t span ≡ args_code names.scope given
  pub has : Has t i (Call place function span next)

-- A function that can't be called has no meaning.
abbrev pub LaidOwn : FlatText → Names → (i next : ℕ) → Option ExprTree → Option ℕ → Args → Type 0
LaidOwn t names i next target None given = Has t i Stuck
LaidOwn t names i next target (Some function) given = LaidFunction t names i next target function given

abbrev pub LaidCall : Callee → FlatText → Names → (i next : ℕ) → Option ExprTree → List ℕ → Args → Type 0
LaidCall memory_move t names i next target function given = LaidMove t names i next given
LaidCall memory_set t names i next target function given = LaidZero t names i next given
LaidCall own t names i next target function given = LaidOwn t names i next target (function_number names.callable function) given

-- `goto` to a label, where it is there (6.8.6.1).
abbrev pub LaidJump : FlatText → (i : ℕ) → Option ℕ → Type 0
LaidJump t i None = Has t i Stuck
LaidJump t i (Some target) = Has t i (Goto target)

-- `switch`: the cases of its block, else its `default`, else what follows it (6.8.4.2p4, p5).
pub record LaidSwitch (t : FlatText) (names : Names) (i next : ℕ) (on : ExprTree) (body : Code) : Type 0 where
  pub arms : Span
  pub finds : (n : Number) → arm_of n (arms_in t arms) ≡ seek (by_case n) (i + 1) body
  pub of : HasOf t names.scope i on (λ span. Switch span arms (number_or (seek by_default (i + 1) body) next))

-- `return` (6.8.6.4).
abbrev pub LaidReturn : FlatText → Names → (i : ℕ) → Option TypeTree → Option ExprTree → Type 0
LaidReturn t names i type None = Has t i Finish
LaidReturn t names i None (Some e) = Has t i Stuck
LaidReturn t names i (Some type) (Some e) = HasOf t names.scope i e (λ span. Return span (cell_type type))

-- Code stands in a text from a number on, and `next` follows it.
abbrev pub Laid : FlatText → Names → (number next : ℕ) → Code → Type 0
Laid t names i next finish = Unit {0}
Laid t names i next (nested inner rest) = Has t i (Goto (go (i + 1) (go (past i inner) next rest) inner)) × Laid t names (i + 1) (go (past i inner) next rest) inner × Laid t names (past i inner) next rest
Laid t names i next (empty rest) = Has t i (Goto (go (i + 1) next rest)) × Laid t names (i + 1) next rest
Laid t names i next (assign target value rest) = LaidAssign t names i (go (i + 1) next rest) target value × Laid t names (i + 1) next rest
Laid t names i next (call target function given rest) = LaidCall (callee_of function) t names i (go (i + 1) next rest) target function given × Laid t names (i + 1) next rest
Laid t names i next (jump label rest) = LaidJump t i (names.labels label) × Laid t names (i + 1) next rest
Laid t names i next (branch test body otherwise other rest) =
    HasOf t names.scope i test (λ span. Test span (go (i + 1) (go (past_both i body other) next rest) body) (go (second i body) (go (past_both i body other) next rest) other))
    × Laid t names (i + 1) (go (past_both i body other) next rest) body
    × Laid t names (second i body) (go (past_both i body other) next rest) other
    × Laid t names (past_both i body other) next rest
Laid t names i next (repeat test body rest) =
    HasOf t names.scope i test (λ span. Test span (go (i + 1) (second i body) body) (go (past i body) next rest))
    × HasOf t names.scope (second i body) test (λ span. Back span (go (i + 1) (second i body) body) (go (past i body) next rest))
    × Laid t names (i + 1) (second i body) body
    × Laid t names (past i body) next rest
Laid t names i next (select on body rest) = LaidSwitch t names i (go (past i body) next rest) on body × Laid t names (i + 1) (go (past i body) next rest) body × Laid t names (past i body) next rest
Laid t names i next (leave value rest) = LaidReturn t names i names.result_type value × Laid t names (i + 1) next rest
Laid t names i next (case_label n rest) = Has t i (Goto (go (i + 1) next rest)) × Laid t names (i + 1) next rest
Laid t names i next (default_label rest) = Has t i (Goto (go (i + 1) next rest)) × Laid t names (i + 1) next rest
Laid t names i next (name_label name rest) = Has t i (Goto (go (i + 1) next rest)) × Laid t names (i + 1) next rest

-- What follows a block has this number, in the text of a function whose end is `end`. After the block of a `while`
-- stands its test, which leads to the block again.
abbrev pub Follows : FlatText → Names → (end next : ℕ) → Continuation → Type 0
Follows t names end next stop = (next ≡ end) × Has t next Finish
Follows t names end next (behind passed rest k) =
    (i : ℕ) × (after : ℕ) × (next ≡ go i after rest) × (i + code_weight rest + continuation_weight k ≡ end) × Laid t names i after rest × Follows t names end after k
Follows t names end next (again test body k) =
    (i : ℕ) × (after : ℕ) × HasOf t names.scope next test (λ span. Back span (go i next body) after) × (next + continuation_weight k ≡ end) × (i + code_weight body ≡ next) × Laid t names i next body × Follows t names end after k

-- A number stands for code and what follows it.
pub record Stands (t : FlatText) (names : Names) (end number : ℕ) (code : Code) (k : Continuation) : Type 0 where
  pub i : ℕ
  pub next : ℕ
  pub is : number ≡ go i next code
  pub tied : i + code_weight code + continuation_weight k ≡ end
  pub laid : Laid t names i next code
  pub follows : Follows t names end next k
