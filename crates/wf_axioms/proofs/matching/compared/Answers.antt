use Rattle.std.proofs.Common.{◌≡◌, sym, subst, None}
use Rattle.wf_ast.specs.TypedTree.{ValueTree}
use Rattle.wf_ast.specs.TypedTrees.{cond_in, place_of_node, signs_of_node, operator_kind, type_of_node}
use Rattle.wf_ast.specs.TypedInvariant.{is_expr}
use Rattle.wf_facts_exprs.proofs.PassLemmas.{both_of}
use Rattle.wf_axioms.specs.Matching.{comparison_in}
use Rattle.wf_axioms.proofs.Comparisons.{chain-none}
use Rattle.wf_axioms.proofs.matching.compared.Goals as goal

pub returns-in_err-cmp-clause-trees : goal.returns-in_err-cmp-clause-trees
returns-in_err-cmp-clause-trees c =
    let n = both_of (is_expr c.args.t.now c.args.e) _ c.requires.node in
    let P : ValueTree → Type 0 = λ t. None ≡ comparison_in (cond_in t) in
    rw c.from_residual.ensures
    (subst P (sym c.requires.tree)
    (chain-none c.args.t.now (place_of_node c.args.t.now c.args.e.0) (signs_of_node c.args.t.now c.args.e.0) (type_of_node c.args.t.now c.args.e.0) (operator_kind c.args.op) c.args.parts.now c.requires.fits n.1 c.in_err-cmp.ensures))
