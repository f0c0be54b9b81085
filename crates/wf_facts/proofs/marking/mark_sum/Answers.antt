use Rattle.std.proofs.Common.{◌||◌, sym}
use Rattle.wf_ast.specs.Mentions.{num_mentions}
use Rattle.wf_ast.specs.TypedTrees.{num_in, tree_of}
use Rattle.wf_facts.proofs.MentioningLemmas.{sum_mentions_is}
use Rattle.wf_facts.proofs.MarkLemmas.{things-both, things-same}
use Rattle.wf_facts.proofs.marking.mark_sum.Goals as goal

pub returns : goal.returns
returns c =
    let a = num_in (tree_of c.args.t.now c.args.a) in
    let b = num_in (tree_of c.args.t.now c.args.b) in
    things-same c.args.n (λ x. num_mentions x a || num_mentions x b) _ c.args.sets.now c.args.fields.now c.mark_number-2.new.sets c.mark_number-2.new.fields (λ x. sym (sum_mentions_is x a b))
    (things-both c.args.n _ _ c.args.sets.now c.args.fields.now c.mark_number.new.sets c.mark_number.new.fields c.mark_number-2.new.sets c.mark_number-2.new.fields c.mark_number.ensures c.mark_number-2.ensures)
