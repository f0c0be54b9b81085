use Rattle.std.proofs.Common.{◌≡◌, sym, ◌∙◌, subst, None}
use Rattle.wf_ast.specs.TypedTree.{ValueTree}
use Rattle.wf_ast.specs.TypedTrees.{num_in, tree_of, type_of_node, place_of_node, signs_of_node}
use Rattle.wf_facts_exprs.proofs.ShapeLemmas.{chain-plain}
use Rattle.wf_axioms.specs.Matching.{summands}
use Rattle.wf_axioms.proofs.Sums.{plain-apart}
use Rattle.wf_axioms.proofs.matching.operands.Goals as goal

pub returns-else-is_sum_of_two-clause-trees : goal.returns-else-is_sum_of_two-clause-trees
returns-else-is_sum_of_two-clause-trees c =
    let P : ValueTree → Type 0 = λ t. None ≡ summands (num_in t) in
    subst P (sym c.requires.tree)
    (plain-apart _ (chain-plain c.args.t.now (tree_of c.args.t.now) (place_of_node c.args.t.now c.args.e.0) (signs_of_node c.args.t.now c.args.e.0) (type_of_node c.args.t.now c.args.e.0) c.args.op c.args.parts.now c.requires.fits (sym c.is_sum_of_two.ensures ∙ c.if-is_sum_of_two.false)))
