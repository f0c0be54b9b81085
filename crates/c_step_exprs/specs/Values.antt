-- What a run of an expression's instructions depends on, where the expression's value depends on these surroundings.
use Rattle.std.specs.Prelude.{◌≡◌, ℕ, Bool, true, false, List, Option, Some, None}
use Rattle.c_meaning.specs.declared.values.CValue.{CValue}
use Rattle.c_meaning.specs.CExprs.{Surroundings}
use Rattle.c_meaning.specs.CMemory.{Memory}
use Rattle.c_step_exprs.specs.declared.instrs.Instr.{Instr}
use Rattle.c_step_exprs.specs.declared.instrs.Instr.TheVariants as does
use Rattle.c_step_exprs.specs.Instrs.{Around}
use Rattle.c_step_exprs.specs.Resolving.{function_number}

abbrev pub placed : (frame : ℕ) → Memory → (ℕ → List CValue → Option CValue) → Around
placed frame memory calls = record { frame = frame; memory = memory; called = calls }

abbrev pub around : Surroundings → (ℕ → List CValue → Option CValue) → Around
around s calls = record { frame = s.frame; memory = s.memory; called = calls }

-- The value of a call of the function with this number, where there is one.
abbrev pub called_by : (ℕ → List CValue → Option CValue) → Option ℕ → List CValue → Option CValue
called_by calls None given = None
called_by calls (Some k) given = calls k given

-- Functions by number give what functions by name give.
abbrev pub AreCalled : Surroundings → (ℕ → List CValue → Option CValue) → Type 0
AreCalled s calls = (name : List ℕ) (given : List CValue) → s.called name given ≡ called_by calls (function_number s.scope.functions name) given

-- The instruction is a call.
abbrev pub is_call : Instr → Bool
is_call (does.Call function count) = true
is_call (does.Put it) = false
is_call (does.Turn it) = false
is_call (does.Join it) = false
is_call (does.Test it count) = false
is_call (does.Skip count) = false
is_call does.Stuck = false
