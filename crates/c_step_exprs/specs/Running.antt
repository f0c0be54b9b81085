-- Where a run of instructions comes to, as far as calls are made by who runs it.
use Rattle.std.specs.Prelude.{◌≡◌, ℕ, ◌+◌, ◌≤◌, true, List, drop, slice_get, Option, Some, None, option_map}
use Rattle.c_meaning.specs.declared.values.CValue.{CValue}
use Rattle.c_step_exprs.specs.declared.instrs.Instr.{Instr}
use Rattle.c_step_exprs.specs.declared.running.Stop.{Stop}
use Rattle.c_step_exprs.specs.declared.running.Stop.TheVariants.{End, Call, Undefined}
use Rattle.c_step_exprs.specs.Instrs.{Around, exec}
use Rattle.c_step_exprs.specs.Values.{is_call}

-- The run from an instruction on.
abbrev pub run_from : Around → List Instr → (at : ℕ) → List CValue → Option (List CValue)
run_from a code at stack = exec a 0 (drop at code) stack

-- The instruction with this number is there, and is a call.
abbrev pub IsCallAt : List Instr → ℕ → Type 0
IsCallAt code at = option_map is_call (slice_get code at) ≡ Some true

-- At the end of the code this stack is what the run gives; at a call the run goes on from there with this stack; and else
-- it gives none.
abbrev pub StopsAt : Around → List Instr → (given : Option (List CValue)) → Stop → (now : List CValue) → Type 0
StopsAt a code given End now = given ≡ Some now
StopsAt a code given (Call at) now = (given ≡ run_from a code at now) × IsCallAt code at
StopsAt a code given Undefined now = given ≡ None

-- Up to a call at most one value is put for each instruction.
abbrev pub PutsAtMost : (from before : ℕ) → Stop → (now : ℕ) → Type 0
PutsAtMost from before End now = Unit {0}
PutsAtMost from before (Call at) now = (from ≤ at) × (now + from ≤ before + at)
PutsAtMost from before Undefined now = Unit {0}
