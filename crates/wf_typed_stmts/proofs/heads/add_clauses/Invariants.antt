use Rattle.wf_named.specs.NamedParts.{named_package}
use Rattle.wf_named.specs.NamedTrees.{expr_trees}
use Rattle.wf_typed_stmts.specs.Right.{known_in}
use Rattle.wf_typed_stmts.proofs.ListLemmas.{ClausesMade}
use Rattle.wf_typed_stmts.proofs.heads.add_clauses.Given as goal

abbrev pub invariant-loop-clause : goal.invariant-loop-clause
invariant-loop-clause l = ClausesMade l.here.around.now (known_in (named_package l.here.nodes.now)) l.here.nodes.now (expr_trees l.here.nodes.now.exprs) l.clauses l.clause-index l.fn.nodes l.nodes l.made
