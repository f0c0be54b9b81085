use Rattle.std.proofs.Common.{◌≡◌, drop, map}
use Rattle.wf_ast.specs.TypedTrees.{tree_of}
use Rattle.wf_lower_stmts.specs.Statements.{is_passed}
use Rattle.wf_lower_stmts.proofs.places.is_passed.Given as goal

-- The argument is among what is left exactly where it is among all.
abbrev pub invariant-loop-e : goal.invariant-loop-e
invariant-loop-e l = is_passed (map (tree_of l.t) (drop l.e-index l.given)) l.n ≡ is_passed (map (tree_of l.t) l.given) l.n
