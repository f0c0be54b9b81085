use Rattle.wf_named.specs.NamedParts.{named_package}
use Rattle.wf_named.specs.NamedTrees.{expr_trees}
use Rattle.wf_typed_stmts.specs.Right.{known_in}
use Rattle.wf_typed_stmts.proofs.ListLemmas.{LettersMade}
use Rattle.wf_typed_stmts.proofs.heads.add_letters.Given as goal

abbrev pub invariant-loop-one : goal.invariant-loop-one
invariant-loop-one l = LettersMade l.here.around.now (known_in (named_package l.here.nodes.now)) l.here.nodes.now (expr_trees l.here.nodes.now.exprs) l.given l.one-index l.fn.nodes l.nodes l.made
