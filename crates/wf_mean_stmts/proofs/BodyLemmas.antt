-- The body that runs is told by what stays.
use Rattle.std.proofs.Common.{◌≡◌, map, ap}
use Rattle.std.specs.Prelude.{slice_get, unwrap_or}
use Rattle.wf_ast.specs.declared.typed_nodes.TypedNodes.{TypedNodes}
use Rattle.wf_ast.specs.TypedPackage.{package_of}
use Rattle.wf_meaning.specs.World.{Body}
use Rattle.wf_mean_exprs.specs.MachineState.{no_method, slot_seen}
use Rattle.wf_mean_stmts.specs.declared.stage.Stage.{Stage}
use Rattle.wf_mean_stmts.specs.Stages.{Shape, body_on, shape}

abbrev body_shaped : TypedNodes → Shape → Body
body_shaped nodes s =
    record { within = package_of nodes; object = s.object; method = unwrap_or (slice_get (package_of nodes).methods s.method.0) no_method; args = map slot_seen s.args }

pub same_body : (nodes : TypedNodes) (old new : Stage) → shape new ≡ shape old → body_on nodes new ≡ body_on nodes old
same_body nodes old new e = ap (body_shaped nodes) e
