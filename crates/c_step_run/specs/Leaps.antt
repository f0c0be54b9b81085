-- Where a statement leads, by what it has found.
use Rattle.std.specs.Prelude.{ℕ, zero, suc, Bool, true, false, if◌then◌else◌, nat_lt, List, Option, Some, None}
use Rattle.c_meaning.specs.declared.cells.CellType.{CellType}
use Rattle.c_meaning.specs.declared.values.CValue.{CValue}
use Rattle.c_meaning.specs.declared.values.CValue.TheVariants.{Numeric as numeric, Address as address, NullPointer as null_pointer}
use Rattle.c_meaning.specs.CValues.{holds}
use Rattle.c_step_exprs.specs.Instrs.{as_cell}
use Rattle.c_step_text.specs.declared.text.Arm.{Arm}
use Rattle.c_step_text.specs.Flat.{arm_of}
use Rattle.c_step_text.specs.Layout.{number_or}
use Rattle.c_step_run.specs.declared.moved.Moved.{Moved}
use Rattle.c_step_run.specs.declared.moved.Moved.TheVariants as moved
use Rattle.c_step_run.specs.declared.moved.Ended.{Ended}
use Rattle.c_step_run.specs.declared.moved.Ended.TheVariants as ended

-- The turns that are left after the entry of a function, which may be a turn.
abbrev pub entering : (turn : Bool) → (left : ℕ) → Option ℕ
entering false left = Some left
entering true zero = None
entering true (suc left) = Some left

-- To an instruction, with a turn where that doesn't stand after the one that leads to it.
abbrev pub turning : (to left : ℕ) → Moved
turning to zero = moved.Turns
turning to (suc left) = moved.Goes to left

abbrev pub leaping : (pc to left : ℕ) → Moved
leaping pc to left = if nat_lt pc to then moved.Goes to left else turning to left

-- To the next instruction, where what the statement did is defined.
abbrev pub moving : (defined : Bool) → (pc next left : ℕ) → Moved
moving true pc next left = leaping pc next left
moving false pc next left = moved.Undefined

-- To the next instruction after a call.
abbrev pub going_back : Ended → (pc next : ℕ) → Moved
going_back (ended.Got value left) pc next = leaping pc next left
going_back ended.More pc next = moved.Turns
going_back ended.Lost pc next = moved.Undefined

-- By a condition.
abbrev pub testing : Option CValue → (pc met unmet left : ℕ) → Moved
testing None pc met unmet left = moved.Undefined
testing (Some v) pc met unmet left = if holds v then leaping pc met left else leaping pc unmet left

-- By a condition, after the turn of a loop.
abbrev pub coming_back : Option CValue → (met unmet left : ℕ) → Moved
coming_back None met unmet left = moved.Undefined
coming_back (Some v) met unmet left = if holds v then moved.Goes met left else moved.Goes unmet left

-- By a number.
abbrev pub switching : Option CValue → List Arm → (pc other left : ℕ) → Moved
switching (Some (numeric n)) arms pc other left = leaping pc (number_or (arm_of n arms) other) left
switching (Some (address p)) arms pc other left = moved.Undefined
switching (Some null_pointer) arms pc other left = moved.Undefined
switching None arms pc other left = moved.Undefined

-- A value is returned, converted to a type.
abbrev pub ending : Option CValue → (left : ℕ) → Moved
ending None left = moved.Undefined
ending (Some v) left = moved.Ends (Some v) left

abbrev pub returning : Option CValue → CellType → (left : ℕ) → Moved
returning None type left = moved.Undefined
returning (Some v) type left = ending (as_cell type v) left
