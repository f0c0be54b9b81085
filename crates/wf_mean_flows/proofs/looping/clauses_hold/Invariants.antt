use Rattle.std.proofs.Common.{◌≡◌, drop}
use Rattle.wf_meaning.specs.SourceStep.{all_hold}
use Rattle.wf_mean_stmts.specs.Stages.{sight_on}
use Rattle.wf_mean_flows.specs.Loops.{clauses_of, required}
use Rattle.wf_mean_flows.proofs.looping.clauses_hold.Given as goal

-- Where those that follow hold, all do.
abbrev pub invariant-loop-i : goal.invariant-loop-i
invariant-loop-i l =
    all_hold (sight_on l.t l.stage) (required l.head) (clauses_of l.t l.clauses) ≡ all_hold (sight_on l.t l.stage) (required l.head) (clauses_of l.t (drop l.i l.clauses))
