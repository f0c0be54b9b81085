use Rattle.std.proofs.Common.{◌≡◌, ◌++◌, drop, map}
use Rattle.wf_ast.specs.declared.typed_nodes.TypedNodes.{TypedNodes}
use Rattle.wf_ast.specs.TypedPackage.{variable_of}
use Rattle.wf_points.specs.PointNumbers.{locals_kept}
use Rattle.wf_points.proofs.saving.find_saved.Given as goal

-- With what is left, what was found is what is to be found.
abbrev pub invariant-loop-x : goal.invariant-loop-x
invariant-loop-x l =
    (nodes : TypedNodes) → l.saved ++ locals_kept l.x (map (variable_of nodes) (drop l.x l.locals)) ≡ locals_kept 0 (map (variable_of nodes) l.locals)
