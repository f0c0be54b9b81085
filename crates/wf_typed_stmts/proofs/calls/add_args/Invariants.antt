use Rattle.wf_named.specs.NamedParts.{named_package}
use Rattle.wf_named.specs.NamedTrees.{expr_trees}
use Rattle.wf_typed_stmts.specs.Right.{known_in}
use Rattle.wf_typed_stmts.proofs.ListLemmas.{ArgsMade}
use Rattle.wf_typed_stmts.proofs.calls.add_args.Given as goal

abbrev pub invariant-loop-arg : goal.invariant-loop-arg
invariant-loop-arg l = ArgsMade l.here.around.now (known_in (named_package l.here.nodes.now)) l.here.nodes.now (expr_trees l.here.nodes.now.exprs) l.args l.arg-index l.fn.nodes l.nodes l.made
