use Rattle.std.proofs.Common.{◌≡◌, drop, map, take}
use Rattle.wf_ast.specs.TypedTrees.{tree_of}
use Rattle.wf_ast.specs.TypedPackage.{variable_of}
use Rattle.wf_meaning.specs.SourceStep.{values_of}
use Rattle.wf_mean_exprs.specs.MachineState.{slot_seen}
use Rattle.wf_mean_stmts.specs.Arguments.{in_front}
use Rattle.wf_mean_stmts.specs.Stages.{sight_on}
use Rattle.wf_mean_stmts.proofs.arguments.fill_args.Given as goal

-- With the values of those that follow, the slots so far are all values.
abbrev pub invariant-loop-i : goal.invariant-loop-i
invariant-loop-i l =
    values_of (sight_on l.t l.stage) (map (variable_of l.t) l.declared) (map (tree_of l.t) l.args)
    ≡ in_front (map slot_seen (take l.i l.into)) (values_of (sight_on l.t l.stage) (map (variable_of l.t) (drop l.i l.declared)) (map (tree_of l.t) (drop l.i l.args)))
