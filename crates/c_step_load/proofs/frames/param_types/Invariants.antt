use Rattle.std.proofs.Common.{◌≡◌, ◌++◌, map, drop}
use Rattle.c_text.specs.CNodes.{Nodes, param_tree}
use Rattle.c_step_frames.specs.Frames.{param_type}
use Rattle.c_step_load.proofs.frames.param_types.Given as goal

abbrev pub invariant-loop-param : goal.invariant-loop-param
invariant-loop-param l = (nodes : Nodes) → l.types.items ++ map param_type (map (param_tree nodes.names) (drop l.param-index l.params)) ≡ map param_type (map (param_tree nodes.names) l.params)
