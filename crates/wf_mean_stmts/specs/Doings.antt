-- What statements come to that stand by themselves, in the words of the source's meaning.
use Rattle.std.specs.Prelude.{◌≡◌, ℕ, Bool, List, Option, None, Some, slice_get, if◌then◌else◌}
use Rattle.turns.specs.Run.{Go, Fail}
use Rattle.wf_base.specs.BaseOps.{Buffer}
use Rattle.wf_ast.specs.TypedTree.{Block}
use Rattle.wf_meaning.specs.SourceState.{Behind}
use Rattle.wf_meaning.specs.World.{Vars}
use Rattle.wf_meaning.specs.SourceStep.{Steps, at_block, suspending}
use Rattle.wf_mean_exprs.specs.MachineState.{done_seen}
use Rattle.wf_mean_stmts.specs.declared.awaiting.Did.{Did}
use Rattle.wf_mean_stmts.specs.declared.awaiting.Did.TheVariants.{Goes, Suspends, Stuck}

-- `here` is the statement with those that follow it, and `rest` those.
abbrev pub did_steps : (n : ℕ) → Did → (here rest : Block) → Behind → Vars → Steps
did_steps n Goes here rest behind vars = Go (at_block rest behind vars)
did_steps n (Suspends status done) here rest behind vars = suspending n status (done_seen done) here behind vars
did_steps n Stuck here rest behind vars = Fail

-- The buffer of an io argument that was found by its number.
abbrev pub FindsIo : List Buffer → Option ℕ → Option (ℕ × Buffer) → Type 0
FindsIo bufs None io = io ≡ None
FindsIo bufs (Some k) io = (buffer : Buffer) × (slice_get bufs k ≡ Some buffer) × (io ≡ Some (k, buffer))

abbrev pub did_if : (went : Bool) → Did
did_if went = if went then Goes else Stuck
