use Rattle.wf_ast.specs.Mentions.{mentions}
use Rattle.wf_ast.specs.TypedTrees.{tree_of}
use Rattle.wf_facts.proofs.MentioningLemmas.{condition_seen}
use Rattle.wf_facts.proofs.MarkLemmas.{things-same}
use Rattle.wf_facts.proofs.marking.mark_condition.Goals as goal

pub returns : goal.returns
returns c =
    things-same c.args.n (λ x. mentions (tree_of c.args.t.now c.args.e) x) _ c.args.sets.now c.args.fields.now c.mark_expr.new.sets c.mark_expr.new.fields
    (λ x. condition_seen x c.args.t.now c.args.e c.expr-node.result.now c.expr-node.ensures.made c.expr-node.ensures.kinds c.requires.condition) c.mark_expr.ensures
