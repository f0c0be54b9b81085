-- What a machine's steps come to, in the words of the meaning.
use Rattle.std.specs.Prelude.{◌≡◌, ℕ, ◌<◌, ◌≤◌, ◌⊎◌, Bool, true, false, List, reverse, Option, Some, None}
use Rattle.turns.specs.Run.{Outcome, Got, More, Lost}
use Rattle.c_text.specs.CTree.{Code}
use Rattle.c_meaning.specs.declared.values.CValue.{CValue}
use Rattle.c_meaning.specs.CMemory.{Memory}
use Rattle.c_meaning.specs.CTypes.{Function}
use Rattle.c_meaning.specs.CStep.{Continuation, Returned}
use Rattle.c_meaning.specs.CCall.{Program}
use Rattle.c_step_exprs.specs.declared.instrs.Instr.{Instr}
use Rattle.c_step_exprs.specs.declared.instrs.Instr.TheVariants as does
use Rattle.c_step_exprs.specs.Instrs.{Around, calls}
use Rattle.c_step_exprs.specs.Values.{placed}
use Rattle.c_step_text.specs.Flat.{FlatText}
use Rattle.c_step_text.specs.Acting.{Activation, Inside, runs}
use Rattle.c_step_text.specs.Numbered.{expression_at}
use Rattle.c_step_run.specs.declared.moved.Moved.{Moved}
use Rattle.c_step_run.specs.declared.moved.Moved.TheVariants as moved
use Rattle.c_step_run.specs.declared.moved.Ended.{Ended}
use Rattle.c_step_run.specs.declared.moved.Ended.TheVariants as ended

-- What expressions of a function see, where it can call these functions and `frame` is the object of its call.
abbrev pub seen_in : Program → (callable : List Function) → (frame : ℕ) → Memory → Around
seen_in p callable frame memory = placed frame memory (λ k given. expression_at p callable k memory given)

-- True where there is something, and it is this.
abbrev pub Comes : {A : Type 0} → Option A → Bool → A → Type 0
Comes given true now = given ≡ Some now
Comes given false now = given ≡ None

-- Something holds where it is true.
abbrev pub OnTrue : Bool → Type 0 → Type 0
OnTrue true holds = holds
OnTrue false holds = Unit {0}

-- What a call in an expression makes of the stack.
abbrev pub called_by_instr : Around → Instr → List CValue → Option (List CValue)
called_by_instr a (does.Call function count) stack = calls a function count stack
called_by_instr a (does.Put it) stack = None
called_by_instr a (does.Turn it) stack = None
called_by_instr a (does.Join it) stack = None
called_by_instr a (does.Test it count) stack = None
called_by_instr a (does.Skip count) stack = None
called_by_instr a does.Stuck stack = None

-- How a call has ended, with the memory that it leaves.
abbrev pub outcome_of : Ended → Memory → Outcome Returned
outcome_of (ended.Got value left) memory = Got left (record { memory = memory; value = value })
outcome_of ended.More memory = More
outcome_of ended.Lost memory = Lost

-- No more turns are left of a call than it was given.
abbrev pub LeavesAtMost : ℕ → Ended → Type 0
LeavesAtMost left (ended.Got value now) = now ≤ left
LeavesAtMost left ended.More = Unit {0}
LeavesAtMost left ended.Lost = Unit {0}

-- Something holds where a call has returned.
abbrev pub OnGot : Ended → Type 0 → Type 0
OnGot (ended.Got value left) holds = holds
OnGot ended.More holds = Unit {0}
OnGot ended.Lost holds = Unit {0}

-- Something holds where the function goes on, or has returned.
abbrev pub OnMoved : Moved → Type 0 → Type 0
OnMoved (moved.Goes to left) holds = holds
OnMoved (moved.Ends value left) holds = holds
OnMoved moved.Turns holds = Unit {0}
OnMoved moved.Undefined holds = Unit {0}

-- A function goes on with fewer turns, or from one of so many instructions at a later one with no more of them.
abbrev pub Advances : (size pc left : ℕ) → Moved → Type 0
Advances size pc left (moved.Goes to now) = (now < left) ⊎ ((now ≤ left) × (pc < to) × (pc < size))
Advances size pc left (moved.Ends value now) = now ≤ left
Advances size pc left moved.Turns = Unit {0}
Advances size pc left moved.Undefined = Unit {0}

-- What follows a call whose value has been kept.
abbrev pub after_kept : Ended → Memory → (ℕ → Memory → Outcome Returned) → Outcome Returned
after_kept (ended.Got value left) memory on = on left memory
after_kept ended.More memory on = More
after_kept ended.Lost memory on = Lost

-- The arguments of a call stand on the stack, the last one on top.
abbrev pub Gives : Option (List CValue) → Bool → (stack : List CValue) → Type 0
Gives given true stack = given ≡ Some (reverse stack)
Gives given false stack = given ≡ None

-- The machine stands at an instruction in a run of the meaning that comes to an outcome.
pub record Standing (t : FlatText) (a : Activation) (pc left : ℕ) (memory : Memory) (total : Outcome Returned) : Type 0 where
  pub code : Code
  pub continuation : Continuation
  pub inside : Inside t a pc code continuation
  pub same : runs a code continuation left memory ≡ total

-- An instruction leads on in the same run, or this comes to what the instruction gives.
abbrev pub LeadsOn : FlatText → Activation → Moved → (memory : Memory) → (total : Outcome Returned) → Type 0
LeadsOn t a (moved.Goes to left) memory total = Standing t a to left memory total
LeadsOn t a (moved.Ends value left) memory total = total ≡ Got left (record { memory = memory; value = value })
LeadsOn t a moved.Turns memory total = total ≡ More
LeadsOn t a moved.Undefined memory total = total ≡ Lost
