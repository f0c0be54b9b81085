-- The memories that a run of a C text passes through, from the call of a function on until it ends (ISO/IEC 9899:1999, 5.1.2.3,
-- 6.2.4): those in which its statements and its expressions are executed, and those of the functions that it calls, and so on. A
-- call in an expression counts whether or not an operator passes over it.
use Rattle.std.specs.Prelude.{◌≡◌, ◌⊎◌, ◌+◌, ◌≤◌, ℕ, zero, suc, Bool, true, false, List, [], ◌∷◌, ◌++◌, length, take, drop, Option, Some, None, option_and_then, bytes_eq}
use Rattle.turns.specs.Run.{Next, Go, Turn, End, Out, Fail, Got}
use Rattle.wf_text.specs.Surface.{Surface}
use Rattle.c_text.specs.declared.kinds.Linkage.{Linkage}
use Rattle.c_text.specs.declared.kinds.Linkage.TheVariants.{External, Static, StaticInline}
use Rattle.c_text.specs.CTree.{ExprTree, number, variable, member, element, pointed, operation, unary, cast, choice, called, Operands, no_operand, operand, Args, no_arg, expr_arg, sizeof_arg, Code, finish, nested, empty, assign, call, jump, branch, repeat, select, leave, case_label, default_label, name_label, LocalTree, ItemTree}
use Rattle.c_meaning.specs.declared.values.CValue.{CValue}
use Rattle.c_meaning.specs.CMemory.{Field, cells, part, Object, Memory}
use Rattle.c_meaning.specs.CTypes.{Function, returned}
use Rattle.c_meaning.specs.CExprs.{Surroundings, arg_values, all_some}
use Rattle.c_meaning.specs.CStep.{Continuation, stop, behind, again, Returned, Meaning, Running, State, state, surroundings, own, callee_of, step}
use Rattle.c_meaning.specs.CCall.{Program, program_of, scope_in, passed, frame_object, ExprMeaning, expression_call, initialized, running, call_of, host_call}
use Rattle.c_meaning.specs.Typed.{IsTyped}
use Rattle.c_meaning.specs.UnitForm.{HasUnitForm}
use Rattle.c_step_laws.specs.Callees.{IsIn, Placed, last_named}
use Rattle.c_step_laws.specs.CallChains.{program_cells}

-- A call in an expression.
pub record CallTree : Type 0 where
  pub function : List ℕ
  pub given : Args

abbrev mutual
  -- The calls in an expression.
  pub calls_in : ExprTree → List CallTree
  calls_in (number n) = []
  calls_in (variable name) = []
  calls_in (member pointer field) = calls_in pointer
  calls_in (element pointer index) = calls_in pointer ++ calls_in index
  calls_in (pointed pointer) = calls_in pointer
  calls_in (operation op first second others) = calls_in first ++ (calls_in second ++ operand_calls others)
  calls_in (unary op of) = calls_in of
  calls_in (cast to of) = calls_in of
  calls_in (choice test met unmet) = calls_in test ++ (calls_in met ++ calls_in unmet)
  calls_in (called function given) = record { function = function; given = given } ∷ arg_calls given

  -- The same of further operands.
  pub operand_calls : Operands → List CallTree
  operand_calls no_operand = []
  operand_calls (operand e others) = calls_in e ++ operand_calls others

  -- The same of arguments.
  pub arg_calls : Args → List CallTree
  arg_calls no_arg = []
  arg_calls (expr_arg e others) = calls_in e ++ arg_calls others
  arg_calls (sizeof_arg name others) = arg_calls others

-- The value of an expression: each call whose arguments have values. `passes` are the memories of functions in expressions, by
-- the function's name, the memory that it finds and its arguments.
pub record ValuePasses (s : Surroundings) (passes : List ℕ → Memory → List CValue → Memory → Type 0) (e : ExprTree) (now : Memory) : Type 0 where
  pub it : CallTree
  pub stands : IsIn it (calls_in e)
  pub values : List CValue
  pub given : all_some (arg_values s it.given) ≡ Some values
  pub there : passes it.function s.memory values now

abbrev pub OptionalPasses : Surroundings → (List ℕ → Memory → List CValue → Memory → Type 0) → Option ExprTree → Memory → Type 0
OptionalPasses s passes None now = ⊥
OptionalPasses s passes (Some e) now = ValuePasses s passes e now

-- The one where it is true, the other where it isn't.
abbrev pub OneOrOther : Bool → Type 0 → Type 0 → Type 0
OneOrOther true one other = one
OneOrOther false one other = other

-- A function in an expression: its object has its arguments, and then it finds the value of its `return`.
abbrev pub inline_surroundings : Program → Function → (List ℕ → ExprMeaning) → (frame : ℕ) → Memory → Surroundings
inline_surroundings p f callee frame memory = record { scope = scope_in p f; frame = frame; memory = memory; called = λ name. callee name memory }

pub record InlinePasses (p : Program) (f : Function) (callee : List ℕ → ExprMeaning) (passes : List ℕ → Memory → List CValue → Memory → Type 0) (memory : Memory) (given : List CValue) (now : Memory) : Type 0 where
  pub object : Object
  pub is : passed f.params given ≡ Some object
  pub there : (now ≡ memory ++ object ∷ []) ⊎ OptionalPasses (inline_surroundings p f callee (length memory) (memory ++ object ∷ [])) passes (returned f.body) now

-- The function of this name among so many, the last one first.
abbrev pub ExpressionPasses : Program → List Function → List ℕ → Memory → List CValue → Memory → Type 0
ExpressionPasses p [] name memory given now = ⊥
ExpressionPasses p (f ∷ fs) name memory given now = OneOrOther (bytes_eq f.name name) (InlinePasses p f (expression_call p fs) (ExpressionPasses p fs) memory given now) (ExpressionPasses p fs name memory given now)

-- The expressions of a statement, or of the test after the block of a `while`.
abbrev pub arg_exprs : Args → List ExprTree
arg_exprs no_arg = []
arg_exprs (expr_arg e others) = e ∷ arg_exprs others
arg_exprs (sizeof_arg name others) = arg_exprs others

abbrev pub optional_expr : Option ExprTree → List ExprTree
optional_expr None = []
optional_expr (Some e) = e ∷ []

abbrev pub exprs_at : Code → Continuation → List ExprTree
exprs_at finish stop = []
exprs_at finish (behind over rest k) = []
exprs_at finish (again test body k) = test ∷ []
exprs_at (nested inner rest) k = []
exprs_at (empty rest) k = []
exprs_at (assign target value rest) k = target ∷ value ∷ []
exprs_at (call target function given rest) k = optional_expr target ++ arg_exprs given
exprs_at (jump label rest) k = []
exprs_at (branch test body otherwise other rest) k = test ∷ []
exprs_at (repeat test body rest) k = test ∷ []
exprs_at (select on body rest) k = on ∷ []
exprs_at (leave value rest) k = optional_expr value
exprs_at (case_label n rest) k = []
exprs_at (default_label rest) k = []
exprs_at (name_label name rest) k = []

-- The call of a function of the text as a statement, whose arguments have values.
pub record CallsNow (r : Running) (code : Code) (memory : Memory) : Type 0 where
  pub target : Option ExprTree
  pub function : List ℕ
  pub given : Args
  pub rest : Code
  pub is : code ≡ call target function given rest
  pub of_text : callee_of function ≡ own
  pub values : List CValue
  pub given_is : all_some (arg_values (surroundings r memory) given) ≡ Some values

-- The function that it calls has returned, and its value goes to the target.
pub record KeepsNow (r : Running) (turns : ℕ) (code : Code) (memory : Memory) : Type 0 where
  pub calls : CallsNow r code memory
  pub left : ℕ
  pub done : Returned
  pub returns : r.callee calls.function turns calls.values memory ≡ Got left done

-- A statement: its memory, those of its expressions, those of the function that it calls, and those of the call's target when that
-- has returned. `in_calls` are the memories of functions, by name, turns, arguments and the memory that they find.
pub data StatementPasses (r : Running) (in_exprs : List ℕ → Memory → List CValue → Memory → Type 0) (in_calls : List ℕ → ℕ → List CValue → Memory → Memory → Type 0) (turns : ℕ) (s : State) (now : Memory) : Type 0 where
  here : now ≡ s.memory → StatementPasses r in_exprs in_calls turns s now
  expression : (e : ExprTree) → IsIn e (exprs_at s.place.code s.place.continuation) → ValuePasses (surroundings r s.memory) in_exprs e now → StatementPasses r in_exprs in_calls turns s now
  callee : (it : CallsNow r s.place.code s.memory) → in_calls it.function turns it.values s.memory now → StatementPasses r in_exprs in_calls turns s now
  target : (it : KeepsNow r turns s.place.code s.memory) → OptionalPasses (surroundings r it.done.memory) in_exprs it.calls.target now → StatementPasses r in_exprs in_calls turns s now

-- Where a body's run is after so many steps, with the turns that are left; nowhere where it has ended.
pub record Moment : Type 0 where
  pub turns : ℕ
  pub state : State

abbrev pub next_moment : ℕ → Next State Returned → Option Moment
next_moment n (Go s) = Some (record { turns = n; state = s })
next_moment n (Turn left s) = Some (record { turns = left; state = s })
next_moment n (End left done) = None
next_moment n Out = None
next_moment n Fail = None

abbrev pub after_steps : Running → (steps : ℕ) → Moment → Option Moment
after_steps r zero m = Some m
after_steps r (suc k) m = option_and_then (after_steps r k) (next_moment m.turns (step r m.turns m.state))

-- The locals that have no value yet: the memory that they find, and those of the first one's initial value.
abbrev pub InitialsPass : Running → (List ℕ → Memory → List CValue → Memory → Type 0) → List LocalTree → Memory → Memory → Type 0
InitialsPass r passes [] memory now = now ≡ memory
InitialsPass r passes (l ∷ ls) memory now = (now ≡ memory) ⊎ OptionalPasses (surroundings r memory) passes l.initial now

-- A function that has been entered: while its locals get their initial values, and in its body.
pub data BodyPasses (r : Running) (f : Function) (in_exprs : List ℕ → Memory → List CValue → Memory → Type 0) (in_calls : List ℕ → ℕ → List CValue → Memory → Memory → Type 0) (turns : ℕ) (entered now : Memory) : Type 0 where
  begins : (k : ℕ) (memory : Memory) → initialized r (length f.params) (take k f.locals) entered ≡ Some memory → InitialsPass r in_exprs (drop k f.locals) memory now → BodyPasses r f in_exprs in_calls turns entered now
  goes : (memory : Memory) (steps : ℕ) (m : Moment) → initialized r (length f.params) f.locals entered ≡ Some memory → after_steps r steps (record { turns = turns; state = state f.body stop memory }) ≡ Some m
      → StatementPasses r in_exprs in_calls m.turns m.state now → BodyPasses r f in_exprs in_calls turns entered now

-- The entry of a function is a turn, where it is `static` and not `inline`.
abbrev pub Enters : Linkage → (before turns : ℕ) → Type 0
Enters External before turns = before ≡ turns
Enters Static before turns = before ≡ suc turns
Enters StaticInline before turns = before ≡ turns

pub record FunctionPasses (p : Program) (f : Function) (values : List ℕ → ExprMeaning) (meanings : List ℕ → Meaning) (in_exprs : List ℕ → Memory → List CValue → Memory → Type 0) (in_calls : List ℕ → ℕ → List CValue → Memory → Memory → Type 0) (n : ℕ) (given : List CValue) (memory now : Memory) : Type 0 where
  pub turns : ℕ
  pub enters : Enters f.linkage n turns
  pub object : Object
  pub is : frame_object f given ≡ Some object
  pub there : BodyPasses (running p f values meanings (length memory)) f in_exprs in_calls turns (memory ++ object ∷ []) now

-- The function of this name among so many, the last one first.
abbrev pub CallPasses : Program → List Function → List ℕ → (turns : ℕ) → List CValue → Memory → Memory → Type 0
CallPasses p [] name n given memory now = ⊥
CallPasses p (f ∷ fs) name n given memory now = OneOrOther (bytes_eq f.name name) (FunctionPasses p f (expression_call p fs) (call_of p fs) (ExpressionPasses p fs) (CallPasses p fs) n given memory now) (CallPasses p fs name n given memory now)

-- A host's call.
abbrev pub HostPasses : Program → List ℕ → (turns : ℕ) → List CValue → Memory → Memory → Type 0
HostPasses p name n given memory now = CallPasses p p.functions name n given memory now

-- A call that returns passes through what it leaves: the memory in which its last statement is executed, of which the objects that
-- were there before are left.
abbrev pub CallsPassToTheirEnds : Type 0
CallsPassToTheirEnds = (p : Program) (name : List ℕ) (turns left : ℕ) (given : List CValue) (memory : Memory) (done : Returned) → host_call p name turns given memory ≡ Got left done
    → (now : Memory) × HostPasses p name turns given memory now × (done.memory ≡ take (length memory) now)

-- How many cells objects have.
abbrev pub field_cells : Field → ℕ
field_cells (cells type them) = length them
field_cells (part object) = 0

abbrev pub object_cells : Object → ℕ
object_cells [] = 0
object_cells (field ∷ fields) = field_cells field + object_cells fields

abbrev pub memory_cells : Memory → ℕ
memory_cells [] = 0
memory_cells (object ∷ objects) = object_cells object + memory_cells objects

-- While a host's call of an external function runs, the objects that stand beside those that were there before have never more
-- cells together.
abbrev pub CellsAreEnough : Type 0
CellsAreEnough = (surface : Surface) (items : List ItemTree) → HasUnitForm surface items
    → (name : List ℕ) (f : Placed) → last_named (program_of items).functions name ≡ Some f → f.function.linkage ≡ External
    → (turns : ℕ) (given : List CValue) (memory now : Memory) → IsTyped memory → HostPasses (program_of items) name turns given memory now
    → memory_cells (drop (length memory) now) ≤ program_cells (program_of items)
