use Rattle.std.proofs.Common.{◌≡◌, ℕ, ◌+◌, List, length, drop}
use Rattle.c_text.specs.CTree.{LocalTree}
use Rattle.c_meaning.specs.CTypes.{Function}
use Rattle.c_meaning.specs.CCall.{Program, scope_in, running, expression_call, call_of, initialized}
use Rattle.c_mem.specs.MemoryViews.{memory}
use Rattle.c_step_text.specs.Acting.{IsNumbered}
use Rattle.c_step_text.specs.Numbered.{activation_of}
use Rattle.c_step_run.specs.Coding.{AreCoded, InitialsOf}
use Rattle.c_step_run.specs.Ready.{KeepsShape}
use Rattle.c_step_run.proofs.code.Code.initialize.Given as goal

abbrev pub invariant-loop-local : goal.invariant-loop-local
invariant-loop-local l = record {
  keeps : KeepsShape l.fn.st l.st;
  means : (p : Program) (f : Function) (callable : List Function) (start first : ℕ) (locals : List LocalTree) → length callable ≡ l.at.own
      → AreCoded l.self l.fn.st.frames.items l.fn.st.args.items p callable → IsNumbered (activation_of p f callable l.at.frame start)
      → InitialsOf l.self.text (scope_in p f) first locals l.locals
      → initialized (running p f (expression_call p callable) (call_of p callable) l.at.frame) first locals (memory l.fn.st.mem)
      ≡ initialized (running p f (expression_call p callable) (call_of p callable) l.at.frame) (first + l.local-index) (drop l.local-index locals) (memory l.st.mem);
}
