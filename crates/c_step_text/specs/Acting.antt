-- What an instruction does, and that this is what the meaning does from the place that the instruction's number stands
-- for. Nothing here asks which statement it is.
use Rattle.std.specs.Prelude.{◌≡◌, ℕ, zero, suc, ◌+◌, ◌<◌, Bool, true, false, if◌then◌else◌, nat_lt, List, [], map, reverse, slice_get, Option, Some, None, option_map, option_and_then}
use Rattle.turns.specs.Run.{Outcome, Got, More, Lost, run}
use Rattle.turns.specs.Steps.{LeavesFewer}
use Rattle.c_text.specs.CTree.{Code}
use Rattle.c_meaning.specs.declared.values.Number.{Number}
use Rattle.c_meaning.specs.declared.values.Pointer.{Pointer}
use Rattle.c_meaning.specs.declared.values.CValue.{CValue}
use Rattle.c_meaning.specs.declared.values.CValue.TheVariants.{Numeric as numeric, Address as address, NullPointer as null_pointer}
use Rattle.c_meaning.specs.declared.cells.CellType.{CellType}
use Rattle.c_meaning.specs.CValues.{holds}
use Rattle.c_meaning.specs.CMemory.{Memory, stored}
use Rattle.c_meaning.specs.CTypes.{Function}
use Rattle.c_meaning.specs.CExprs.{pointed_place}
use Rattle.c_meaning.specs.CStep.{Continuation, code_weight, by_name, Returned, Meaning, Running, state, weight, step, surroundings, one_place, assigned, zeroes, move_given}
use Rattle.c_step_exprs.specs.declared.instrs.Instr.{Instr}
use Rattle.c_step_exprs.specs.Instrs.{Around, as_cell, exec}
use Rattle.c_step_exprs.specs.Resolving.{function_number}
use Rattle.c_step_exprs.specs.Values.{placed, AreCalled}
use Rattle.c_step_text.specs.Flat.{Span, StmtInstr, Assign, Call, Move, Zero, Goto, Test, Back, Switch, Return, Finish, Stuck, FlatText, Has, code_in, arms_in, arm_of}
use Rattle.c_step_text.specs.Layout.{Names, number_or, seek, Laid, Stands}

-- A function as it is run: what its steps depend on, the functions that it can call, where its text begins, the values of
-- functions in expressions by number, in a memory, and the meanings of functions by number.
pub record Activation : Type 0 where
  pub running : Running
  pub callable : List Function
  pub start : ℕ
  pub calls : Memory → ℕ → List CValue → Option CValue
  pub meanings : ℕ → Meaning

-- The names of its text, whose labels have the numbers that they are found at, and the number of its end.
abbrev pub names_of : Activation → Names
names_of a = record { scope = a.running.scope; callable = a.callable; result_type = a.running.result_type; labels = λ name. seek (by_name name) a.start a.running.body }

abbrev pub end_of : Activation → ℕ
end_of a = a.start + code_weight a.running.body

-- The meaning of the function with this number, where there is one.
abbrev pub meaning_by : (ℕ → Meaning) → Option ℕ → Meaning
meaning_by meanings None = λ n given memory. Lost
meaning_by meanings (Some k) = meanings k

-- The numbers name what the names of the meaning name, and a call never leaves more turns than it was given.
pub record IsNumbered (a : Activation) : Type 0 where
  pub values : (memory : Memory) → AreCalled (surroundings a.running memory) (a.calls memory)
  pub callees : (name : List ℕ) (n : ℕ) (given : List CValue) (memory : Memory) → a.running.callee name n given memory ≡ meaning_by a.meanings (function_number a.callable name) n given memory
  pub fewer : (name : List ℕ) (n : ℕ) (given : List CValue) (memory : Memory) → LeavesFewer n (a.running.callee name n given memory)

-- The function's text stands in the text of all.
pub record IsLaid (t : FlatText) (a : Activation) : Type 0 where
  pub body : Laid t (names_of a) a.start (end_of a) a.running.body
  pub end : Has t (end_of a) Finish

-- A number stands for code and what follows it, in the text of a function that is run.
pub record Inside (t : FlatText) (a : Activation) (number : ℕ) (code : Code) (k : Continuation) : Type 0 where
  pub laid : IsLaid t a
  pub numbered : IsNumbered a
  pub stands : Stands t (names_of a) (end_of a) number code k

-- The meaning's run within so many turns from code and what follows it.
abbrev pub runs : Activation → Code → Continuation → ℕ → Memory → Outcome Returned
runs a code k left memory = run (step a.running) weight left (state code k memory)

-- What a number stands for, and the meaning's run from there.
pub record Target (t : FlatText) (a : Activation) (number : ℕ) : Type 0 where
  pub code : Code
  pub continuation : Continuation
  pub inside : Inside t a number code continuation

abbrev pub runs_on : {t : FlatText} → {a : Activation} → {number : ℕ} → Target t a number → ℕ → Memory → Outcome Returned
runs_on {t} {a} {number} target left memory = runs a target.code target.continuation left memory

-- Expressions of the function in memory: a value, the place of an lvalue, and the arguments of a call.
abbrev pub seen : Activation → Memory → Around
seen a memory = placed a.running.frame memory (a.calls memory)

abbrev pub evaluated : Around → List Instr → Option CValue
evaluated around code = option_and_then (λ stack. slice_get stack 0) (exec around 0 code [])

abbrev pub located : Around → List Instr → Option Pointer
located around code = pointed_place (evaluated around code)

abbrev pub given_by : Around → List Instr → Option (List CValue)
given_by around code = option_map reverse (exec around 0 code [])

-- By what is there, or undefined.
abbrev pub defined : {A : Type 0} → Option A → (A → Outcome Returned) → Outcome Returned
defined None on = Lost
defined (Some x) on = on x

-- By a condition.
abbrev pub tested : Option CValue → (met unmet : Outcome Returned) → Outcome Returned
tested None met unmet = Lost
tested (Some v) met unmet = if holds v then met else unmet

-- By a number.
abbrev pub by_number : Option CValue → (Number → Outcome Returned) → Outcome Returned
by_number None on = Lost
by_number (Some (numeric n)) on = on n
by_number (Some (address p)) on = Lost
by_number (Some null_pointer) on = Lost

-- One turn is taken, where one is left.
abbrev pub with_turn : ℕ → (ℕ → Outcome Returned) → Outcome Returned
with_turn zero on = More
with_turn (suc left) on = on left

-- No turn is taken where it is known that none is needed.
abbrev pub with_turn_unless : Bool → ℕ → (ℕ → Outcome Returned) → Outcome Returned
with_turn_unless true left on = on left
with_turn_unless false left on = with_turn left on

-- When a call has ended.
abbrev pub after_call : Outcome Returned → (ℕ → Returned → Outcome Returned) → Outcome Returned
after_call (Got left done) on = on left done
after_call More on = More
after_call Lost on = Lost

-- `memmove` and `memset`.
abbrev pub moved_by : Memory → Option (List CValue) → Option Memory
moved_by memory given = option_and_then (λ values. move_given memory (map Some values)) given

-- The memory after a call that found `before`: its value is assigned to its target, which is one place before the call
-- and after it.
abbrev pub kept_by : Activation → Option (List Instr) → (before : Memory) → Returned → Option Memory
kept_by a None before done = Some done.memory
kept_by a (Some code) before done =
    option_and_then (λ v. option_and_then (λ p. stored done.memory p v) (one_place (located (seen a before) code) (located (seen a done.memory) code))) done.value

-- To the next instruction with the memory that is given, or undefined.
pub record Moves (t : FlatText) (a : Activation) (number next : ℕ) (does : Memory → Option Memory) (h : ℕ → Memory → Outcome Returned) : Type 0 where
  pub target : Target t a next
  pub later : number < next
  pub comes : (left : ℕ) (memory : Memory) → h left memory ≡ defined (does memory) (runs_on target left)

-- To an instruction: a turn, where that doesn't stand after this one.
pub record Leaps (t : FlatText) (a : Activation) (number next : ℕ) (h : ℕ → Memory → Outcome Returned) : Type 0 where
  pub target : Target t a next
  pub comes : (left : ℕ) (memory : Memory) → h left memory ≡ with_turn_unless (nat_lt number next) left (λ now. runs_on target now memory)

-- By a condition, to a later instruction.
pub record Tests (t : FlatText) (a : Activation) (number : ℕ) (test : Span) (met unmet : ℕ) (h : ℕ → Memory → Outcome Returned) : Type 0 where
  pub to_met : Target t a met
  pub to_unmet : Target t a unmet
  pub later_met : number < met
  pub later_unmet : number < unmet
  pub comes : (left : ℕ) (memory : Memory) → h left memory ≡ tested (evaluated (seen a memory) (code_in t test)) (runs_on to_met left memory) (runs_on to_unmet left memory)

-- By a condition, after a turn.
pub record Backs (t : FlatText) (a : Activation) (test : Span) (met unmet : ℕ) (h : ℕ → Memory → Outcome Returned) : Type 0 where
  pub to_met : Target t a met
  pub to_unmet : Target t a unmet
  pub comes : (left : ℕ) (memory : Memory) → h left memory ≡ with_turn left (λ now. tested (evaluated (seen a memory) (code_in t test)) (runs_on to_met now memory) (runs_on to_unmet now memory))

-- By a number, to a later instruction.
pub record Switches (t : FlatText) (a : Activation) (number : ℕ) (on arms : Span) (other : ℕ) (h : ℕ → Memory → Outcome Returned) : Type 0 where
  pub target : (n : Number) → Target t a (number_or (arm_of n (arms_in t arms)) other)
  pub later : (n : Number) → number < number_or (arm_of n (arms_in t arms)) other
  pub comes : (left : ℕ) (memory : Memory) → h left memory ≡ by_number (evaluated (seen a memory) (code_in t on)) (λ n. runs_on (target n) left memory)

-- A call of a function, and to the next instruction.
pub record Calls (t : FlatText) (a : Activation) (number : ℕ) (place : Option Span) (function : ℕ) (given : Span) (next : ℕ) (h : ℕ → Memory → Outcome Returned) : Type 0 where
  pub target : Target t a next
  pub later : number < next
  pub name : List ℕ
  pub callable : function_number a.callable name ≡ Some function
  pub comes : (left : ℕ) (memory : Memory) → h left memory
      ≡ defined (given_by (seen a memory) (code_in t given)) (λ values. after_call (a.meanings function left values memory) (λ now done. defined (kept_by a (option_map (code_in t) place) memory done) (runs_on target now)))

-- A value is returned.
abbrev pub Returns : FlatText → Activation → Span → CellType → (ℕ → Memory → Outcome Returned) → Type 0
Returns t a value type h = (left : ℕ) (memory : Memory) → h left memory ≡ defined (option_and_then (as_cell type) (evaluated (seen a memory) (code_in t value))) (λ v. Got left (record { memory = memory; value = Some v }))

-- What an instruction does.
abbrev pub Does : FlatText → Activation → (number : ℕ) → StmtInstr → (ℕ → Memory → Outcome Returned) → Type 0
Does t a number (Assign place value next) h = Moves t a number next (λ memory. assigned memory (located (seen a memory) (code_in t place)) (evaluated (seen a memory) (code_in t value))) h
Does t a number (Call place function given next) h = Calls t a number place function given next h
Does t a number (Move given next) h = Moves t a number next (λ memory. moved_by memory (given_by (seen a memory) (code_in t given))) h
Does t a number (Zero pointer next) h = Moves t a number next (λ memory. zeroes memory (located (seen a memory) (code_in t pointer))) h
Does t a number (Goto next) h = Leaps t a number next h
Does t a number (Test test met unmet) h = Tests t a number test met unmet h
Does t a number (Back test met unmet) h = Backs t a test met unmet h
Does t a number (Switch on arms other) h = Switches t a number on arms other h
Does t a number (Return value type) h = Returns t a value type h
Does t a number Finish h = (left : ℕ) (memory : Memory) → h left memory ≡ Got left (record { memory = memory; value = None })
Does t a number Stuck h = (left : ℕ) (memory : Memory) → h left memory ≡ Lost

-- The instruction with a number does what the meaning does from code and what follows it.
pub record Doing (t : FlatText) (a : Activation) (number : ℕ) (code : Code) (k : Continuation) : Type 0 where
  pub instr : StmtInstr
  pub has : Has t number instr
  pub h : ℕ → Memory → Outcome Returned
  pub is : (left : ℕ) (memory : Memory) → runs a code k left memory ≡ h left memory
  pub does : Does t a number instr h
