use Rattle.std.proofs.Common.{◌≡◌, drop}
use Rattle.wf_named.specs.NamedTrees.{expr_trees, letters_at}
use Rattle.wf_types_rules.specs.Parts.{letters_parts}
use Rattle.wf_types_exprs.specs.Judged.{judged}
use Rattle.wf_types_stmts.proofs.results.judge_letters.Given as goal

abbrev pub invariant-loop-one : goal.invariant-loop-one
invariant-loop-one l =
    judged l.here.around.now l.found (letters_parts (letters_at l.here.nodes.now.texts (expr_trees l.here.nodes.now.exprs) (drop l.one-index l.given)))
    ≡ judged l.here.around.now l.fn.found (letters_parts (letters_at l.here.nodes.now.texts (expr_trees l.here.nodes.now.exprs) l.given))
