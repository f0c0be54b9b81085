use Rattle.std.proofs.Common.{◌≡◌, ◌+◌, ◌*◌, ◌-◌, ◌≤◌, List, length}
use Rattle.c_meaning.specs.CTypes.{Function}
use Rattle.c_meaning.specs.CCall.{Program}
use Rattle.c_mem.specs.MemoryViews.{memory}
use Rattle.c_step_exprs.specs.Instrs.{exec}
use Rattle.c_step_exprs.specs.Running.{run_from}
use Rattle.c_step_exprs.specs.Stacks.{on_stack}
use Rattle.c_step_run.specs.Coding.{AreCoded}
use Rattle.c_step_run.specs.Ready.{KeepsMemory}
use Rattle.c_step_run.specs.Meaning.{seen_in}
use Rattle.c_step_run.proofs.code.Code.+eval.Given as goal

abbrev pub decreases-eval : goal.decreases-eval
decreases-eval l = 4 * l.at.own + 3

abbrev pub decreases-call_in : goal.decreases-call_in
decreases-call_in l = 4 * l.at.own + 2

abbrev pub decreases-call_inline : goal.decreases-call_inline
decreases-call_inline l = 4 * l.at.own + 1

abbrev pub decreases-returned : goal.decreases-returned
decreases-returned l = 4 * l.at.own + 4

abbrev pub invariant-eval-loop-call : goal.invariant-eval-loop-call
invariant-eval-loop-call l = record {
  within : l.from ≤ length l.code;
  keeps : KeepsMemory l.fn.st l.st;
  values : length (on_stack l.st.stack) ≤ length (on_stack l.fn.st.stack) + l.from;
  means : (p : Program) (callable : List Function) → length callable ≡ l.at.own → AreCoded l.self l.fn.st.frames.items l.fn.st.args.items p callable
      → exec (seen_in p callable l.at.frame (memory l.fn.st.mem)) 0 l.code (on_stack l.fn.st.stack) ≡ run_from (seen_in p callable l.at.frame (memory l.fn.st.mem)) l.code l.from (on_stack l.st.stack);
}

abbrev pub decreases-eval-loop-call : goal.decreases-eval-loop-call
decreases-eval-loop-call l = length l.code - l.from
