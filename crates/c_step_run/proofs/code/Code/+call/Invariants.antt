use Rattle.std.proofs.Common.{◌≡◌, ℕ, ◌+◌, ◌*◌, ◌-◌, ◌≤◌, List, length}
use Rattle.turns.specs.Run.{Outcome}
use Rattle.c_meaning.specs.CTypes.{Function}
use Rattle.c_meaning.specs.CStep.{Returned}
use Rattle.c_meaning.specs.CCall.{Program}
use Rattle.c_mem.specs.MemoryViews.{memory}
use Rattle.c_step_text.specs.Numbered.{activation_of}
use Rattle.c_step_run.specs.Coding.{AreCoded}
use Rattle.c_step_run.specs.Ready.{KeepsShape}
use Rattle.c_step_run.specs.Meaning.{Standing}
use Rattle.c_step_run.proofs.code.Code.+call.Given as goal

abbrev pub decreases-call_kept : goal.decreases-call_kept
decreases-call_kept l = 5 * l.at.own + 1

abbrev pub decreases-act : goal.decreases-act
decreases-act l = 5 * l.at.own + 2

abbrev pub decreases-body : goal.decreases-body
decreases-body l = 5 * l.at.own + 3

abbrev pub decreases-enter : goal.decreases-enter
decreases-enter l = 5 * l.at.own + 4

abbrev pub decreases-call : goal.decreases-call
decreases-call l = 5 * l.at.own + 5

abbrev pub invariant-body-loop-to : goal.invariant-body-loop-to
invariant-body-loop-to l = record {
  fewer : l.left ≤ l.turns;
  keeps : KeepsShape l.fn.st l.st;
  means : (p : Program) (f : Function) (callable : List Function) (start : ℕ) (total : Outcome Returned) → length callable ≡ l.at.own
      → AreCoded l.self l.fn.st.frames.items l.fn.st.args.items p callable
      → Standing l.self.text (activation_of p f callable l.at.frame start) l.entry l.turns (memory l.fn.st.mem) total
      → Standing l.self.text (activation_of p f callable l.at.frame start) l.pc l.left (memory l.st.mem) total;
}

abbrev pub decreases-body-loop-to : goal.decreases-body-loop-to
decreases-body-loop-to l = l.left * (length l.self.text.statements + 1) + (length l.self.text.statements - l.pc)
