use Rattle.std.proofs.Common.{sym, ◌∙◌, subst, ◌≡◌, true}
use Rattle.std.specs.Prelude.{slice_index_or}
use Rattle.wf_ast.specs.declared.numbers.ExprId.{ExprId}
use Rattle.wf_ast.specs.TypedTree.{ValueTree, link, plus}
use Rattle.wf_ast.specs.TypedTrees.{num_in, tree_of, type_of_node, place_of_node, signs_of_node, no_place}
use Rattle.wf_facts_exprs.specs.Shapes.{Alike, is_plain}
use Rattle.std.proofs.Common.{false}
use Rattle.wf_facts_exprs.proofs.ShapeLemmas.{sum-chain-alike, sum-chain-fits, chain-plain, number-below, and_true}
use Rattle.wf_facts_exprs.proofs.shapes.chain_shape.Goals as goal

abbrev none : ExprId
none = record { 0 = 0 }

pub returns-then-is_sum_of_two-clause-alike : goal.returns-then-is_sum_of_two-clause-alike
returns-then-is_sum_of_two-clause-alike c =
    let P : ValueTree → Type 0 = λ t. Alike (link no_place no_place plus 0 false (num_in (tree_of c.args.t.now (slice_index_or c.args.parts.now 0 none))) (num_in (tree_of c.args.t.now (slice_index_or c.args.parts.now 1 none)))) (num_in t) in
    subst P (sym c.requires.tree)
    (sum-chain-alike (tree_of c.args.t.now) (place_of_node c.args.t.now c.args.e.0) (signs_of_node c.args.t.now c.args.e.0) (type_of_node c.args.t.now c.args.e.0) c.args.op c.args.parts.now none none (sym c.is_sum_of_two.ensures ∙ c.if-is_sum_of_two.true))

pub returns-then-is_sum_of_two-clause-fits : goal.returns-then-is_sum_of_two-clause-fits
returns-then-is_sum_of_two-clause-fits c =
    sum-chain-fits c.args.t.now c.args.e (type_of_node c.args.t.now c.args.e.0) c.args.op c.args.parts.now none none (number-below c.args.t.now c.args.e c.requires.node) (sym c.is_sum_of_two.ensures ∙ c.if-is_sum_of_two.true) c.requires.fits c.requires.below

pub returns-else-is_sum_of_two-clause-fits : goal.returns-else-is_sum_of_two-clause-fits
returns-else-is_sum_of_two-clause-fits c =
    let P : ValueTree → Type 0 = λ t. is_plain (num_in t) ≡ true in
    and_true _ _ (subst P (sym c.requires.tree)
    (chain-plain c.args.t.now (tree_of c.args.t.now) (place_of_node c.args.t.now c.args.e.0) (signs_of_node c.args.t.now c.args.e.0) (type_of_node c.args.t.now c.args.e.0) c.args.op c.args.parts.now c.requires.fits (sym c.is_sum_of_two.ensures ∙ c.if-is_sum_of_two.false)))
    c.requires.node
