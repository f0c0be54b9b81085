use Rattle.std.proofs.Common.{◌≡◌, drop, map, take}
use Rattle.wf_ast.specs.declared.typed_nodes.TypedNodes.{TypedNodes}
use Rattle.wf_ast.specs.TypedPackage.{variable_of}
use Rattle.wf_bufs.specs.HostViews.{arg_of}
use Rattle.wf_meaning.specs.SourceCall.{host_values}
use Rattle.wf_mean_exprs.specs.MachineState.{slot_seen}
use Rattle.wf_mean_stmts.specs.Arguments.{in_front}
use Rattle.wf_mean.proofs.arguments.fill_from_host.Given as goal

-- With the values of those that follow, the slots so far are all values.
abbrev pub invariant-loop-i : goal.invariant-loop-i
invariant-loop-i l =
    (nodes : TypedNodes) → host_values l.arrays (map (variable_of nodes) l.declared) (map arg_of l.args)
    ≡ in_front (map slot_seen (take l.i l.into)) (host_values l.arrays (map (variable_of nodes) (drop l.i l.declared)) (map arg_of (drop l.i l.args)))
