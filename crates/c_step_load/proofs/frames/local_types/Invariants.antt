use Rattle.std.proofs.Common.{◌≡◌, ◌++◌, map, drop}
use Rattle.c_text.specs.CNodes.{Nodes, local_tree, expr_of}
use Rattle.c_step_frames.specs.Frames.{local_type}
use Rattle.c_step_load.proofs.frames.local_types.Given as goal

abbrev pub invariant-loop-local : goal.invariant-loop-local
invariant-loop-local l = (nodes : Nodes) → l.types.items ++ map local_type (map (local_tree nodes.names (expr_of nodes)) (drop l.local-index l.locals)) ≡ map local_type (map (local_tree nodes.names (expr_of nodes)) l.locals)
