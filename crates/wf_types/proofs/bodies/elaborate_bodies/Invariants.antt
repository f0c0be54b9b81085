use Rattle.std.proofs.Common.{map, take}
use Rattle.wf_named.specs.NamedParts.{named_package}
use Rattle.wf_named.specs.NamedTrees.{expr_trees, stmt_trees, method_made}
use Rattle.wf_types.specs.Bodies.{BodiesMade}
use Rattle.wf_types.specs.Locals.{MethodsHaveNodes}
use Rattle.wf_types.proofs.bodies.elaborate_bodies.Given as goal

abbrev pub invariant-loop-number : goal.invariant-loop-number
invariant-loop-number l =
    let q = l.named in
    let done = map (method_made q.texts (expr_trees q.exprs) (stmt_trees q.texts q.exprs q.stmts)) (take l.number q.methods) in
    BodiesMade q done l.nodes l.bodies × MethodsHaveNodes (named_package q) l.nodes l.first_locals done
