use Rattle.std.proofs.Common.{◌≡◌, drop, map}
use Rattle.std.specs.Prelude.{is_some}
use Rattle.wf_ast.specs.TypedTrees.{tree_of}
use Rattle.wf_ast.specs.TypedPackage.{variable_of}
use Rattle.wf_meaning.specs.SourceStep.{values_of}
use Rattle.wf_mean_stmts.specs.Stages.{sight_on}
use Rattle.wf_mean_runs.proofs.answering.have_values.Given as goal

-- There are all values where there are all of those that follow.
abbrev pub invariant-loop-i : goal.invariant-loop-i
invariant-loop-i l =
    is_some (values_of (sight_on l.t l.stage) (map (variable_of l.t) l.declared) (map (tree_of l.t) l.args)) ≡ is_some (values_of (sight_on l.t l.stage) (map (variable_of l.t) (drop l.i l.declared)) (map (tree_of l.t) (drop l.i l.args)))
