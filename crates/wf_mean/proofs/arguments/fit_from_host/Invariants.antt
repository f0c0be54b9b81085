use Rattle.std.proofs.Common.{◌≡◌, drop, map}
use Rattle.std.specs.Prelude.{is_some}
use Rattle.wf_ast.specs.declared.typed_nodes.TypedNodes.{TypedNodes}
use Rattle.wf_ast.specs.TypedPackage.{variable_of}
use Rattle.wf_bufs.specs.HostViews.{arg_of}
use Rattle.wf_meaning.specs.SourceCall.{host_values}
use Rattle.wf_mean.proofs.arguments.fit_from_host.Given as goal

-- All have values where those have that follow.
abbrev pub invariant-loop-i : goal.invariant-loop-i
invariant-loop-i l =
    (nodes : TypedNodes) → is_some (host_values l.arrays (map (variable_of nodes) l.declared) (map arg_of l.args))
    ≡ is_some (host_values l.arrays (map (variable_of nodes) (drop l.i l.declared)) (map arg_of (drop l.i l.args)))
