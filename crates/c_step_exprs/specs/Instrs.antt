-- What instructions do, and the run of a list of them. A stack of values has its top first.
use Rattle.std.specs.Prelude.{ℕ, zero, suc, Bool, true, false, if◌then◌else◌, nat_le, List, [], ◌∷◌, length, take, drop, reverse, Option, Some, None, option_map, option_and_then}
use Rattle.c_meaning.specs.declared.values.Pointer.{Pointer}
use Rattle.c_meaning.specs.declared.values.CValue.{CValue}
use Rattle.c_meaning.specs.declared.values.CValue.TheVariants.{Numeric as numeric, Address as address, NullPointer as null_pointer}
use Rattle.c_meaning.specs.CValues.{to_object, truth, holds, negated}
use Rattle.c_meaning.specs.declared.cells.CellType.{CellType}
use Rattle.c_meaning.specs.CMemory.{Memory, cell_of, value_of, cell_at, part_at, loaded}
use Rattle.c_meaning.specs.CTypes.{numbers}
use Rattle.c_meaning.specs.CExprs.{field_place, pointed_place, element_place, sum_value, other_value, complement_of, as_expr_type}
use Rattle.c_step_exprs.specs.declared.instrs.Instr.{Instr}
use Rattle.c_step_exprs.specs.declared.instrs.Instr.TheVariants as does
use Rattle.c_step_exprs.specs.declared.instrs.Put.{Put}
use Rattle.c_step_exprs.specs.declared.instrs.Put.TheVariants as put
use Rattle.c_step_exprs.specs.declared.instrs.Turn.{Turn}
use Rattle.c_step_exprs.specs.declared.instrs.Turn.TheVariants as turn
use Rattle.c_step_exprs.specs.declared.instrs.Join.{Join}
use Rattle.c_step_exprs.specs.declared.instrs.Join.TheVariants as join
use Rattle.c_step_exprs.specs.declared.instrs.Test.{Test}
use Rattle.c_step_exprs.specs.declared.instrs.Test.TheVariants as test

-- What a run depends on beside its stack: the object of the function that is run, memory, and the values of functions
-- that an expression may call, by number.
pub record Around : Type 0 where
  pub frame : ℕ
  pub memory : Memory
  pub called : ℕ → List CValue → Option CValue

-- The stack with a value on it, where there is one.
abbrev pub pushed : Option CValue → List CValue → Option (List CValue)
pushed None stack = None
pushed (Some v) stack = Some (v ∷ stack)

-- The value on top is replaced, and so are the two on top: `second` was put last.
abbrev pub by_one : (CValue → Option CValue) → List CValue → Option (List CValue)
by_one f [] = None
by_one f (v ∷ stack) = pushed (f v) stack

abbrev pub by_two : (CValue → CValue → Option CValue) → List CValue → Option (List CValue)
by_two f [] = None
by_two f (second ∷ []) = None
by_two f (second ∷ first ∷ stack) = pushed (f first second) stack

-- The place of a parameter or local.
abbrev pub local_place : (frame field : ℕ) → Pointer
local_place frame field = record { object = frame; field = field; index = 0 }

-- What the instructions give for the values that they take.
abbrev pub field_of : (field : ℕ) → CValue → Option CValue
field_of field v = option_map address (option_and_then (field_place (Some field)) (pointed_place (Some v)))

abbrev pub element_of : Memory → CValue → CValue → Option CValue
element_of memory first second = option_map address (element_place memory (Some first) (Some second))

abbrev pub place_of : CValue → Option CValue
place_of v = option_map address (pointed_place (Some v))

abbrev pub loaded_from : Memory → CValue → Option CValue
loaded_from memory v = option_and_then (loaded memory) (pointed_place (Some v))

abbrev pub cell_there : Memory → CValue → Option CValue
cell_there memory v = option_and_then (λ p. option_map (λ _. address p) (cell_at memory p)) (pointed_place (Some v))

abbrev pub object_inside : Memory → CValue → Option CValue
object_inside memory v = option_and_then (λ p. option_map (λ k. address (to_object k)) (part_at memory p.object p.field)) (pointed_place (Some v))

abbrev pub as_cell : CellType → CValue → Option CValue
as_cell type v = option_and_then (value_of type) (cell_of type v)

abbrev pub truth_of : CValue → CValue
truth_of v = numeric (truth (holds v))

abbrev pub as_pointer : CValue → CValue
as_pointer (numeric n) = null_pointer
as_pointer v = v

-- The arguments on a stack, in order, and what is below them.
abbrev pub calls : Around → (function count : ℕ) → List CValue → Option (List CValue)
calls a function count stack = if nat_le count (length stack) then pushed (a.called function (reverse (take count stack))) (drop count stack) else None

-- How many instructions are passed over, and the stack.
abbrev pub Step : Type 0
Step = Option (ℕ × List CValue)

abbrev pub goes_on : Option (List CValue) → Step
goes_on stack = option_map (λ now. (0, now)) stack

abbrev pub by_test : List CValue → (CValue → List CValue → Step) → Step
by_test [] go = None
by_test (v ∷ stack) go = go v stack

-- What is put, what a value becomes, what two values become.
abbrev pub put_value : Around → Put → Option CValue
put_value a (put.Number n) = Some (numeric n)
put_value a (put.Text k) = Some (address (to_object k))
put_value a (put.Local k) = Some (address (local_place a.frame k))
put_value a (put.Fetch k) = loaded a.memory (local_place a.frame k)

abbrev pub turned : Memory → Turn → CValue → Option CValue
turned memory (turn.Field k) v = field_of k v
turned memory turn.Place v = place_of v
turned memory turn.Load v = loaded_from memory v
turned memory turn.Cell v = cell_there memory v
turned memory turn.Inside v = object_inside memory v
turned memory turn.Not v = Some (numeric (negated v))
turned memory turn.Complement v = complement_of v
turned memory (turn.Cast type) v = as_cell type v
turned memory turn.Truth v = Some (truth_of v)
turned memory (turn.AsNumber type) v = Some (as_expr_type (numbers type) v)
turned memory turn.AsPointer v = Some (as_pointer v)

abbrev pub joined : Memory → Join → CValue → CValue → Option CValue
joined memory join.Element first second = element_of memory first second
joined memory (join.Operate op) first second = other_value op first second
joined memory (join.Add o) first second = sum_value memory o first second

-- Where a value holds, and where it doesn't.
abbrev pub tested : Test → (holds : Bool) → (count : ℕ) → List CValue → Step
tested test.And true count stack = Some (0, stack)
tested test.And false count stack = Some (count, numeric (truth false) ∷ stack)
tested test.Or true count stack = Some (count, numeric (truth true) ∷ stack)
tested test.Or false count stack = Some (0, stack)
tested test.Unless true count stack = Some (0, stack)
tested test.Unless false count stack = Some (count, stack)

-- What an instruction does to the stack.
abbrev pub step : Around → Instr → List CValue → Step
step a (does.Put it) stack = goes_on (pushed (put_value a it) stack)
step a (does.Turn it) stack = goes_on (by_one (turned a.memory it) stack)
step a (does.Join it) stack = goes_on (by_two (joined a.memory it) stack)
step a (does.Test it count) stack = by_test stack (λ v rest. tested it (holds v) count rest)
step a (does.Skip count) stack = Some (count, stack)
step a (does.Call function count) stack = goes_on (calls a function count stack)
step a does.Stuck stack = None

-- The run of instructions after the first `skip` of them.
abbrev pub exec : Around → (skip : ℕ) → List Instr → List CValue → Option (List CValue)
exec a skip [] stack = Some stack
exec a (suc skip) (i ∷ is) stack = exec a skip is stack
exec a zero (i ∷ is) stack = option_and_then (λ next. exec a next.0 is next.1) (step a i stack)
