-- The conditions that compare nothing.
use Rattle.std.proofs.Common.{◌≡◌, Bool, true, false, List, [], ◌∷◌, map, None, refl}
use Rattle.wf_text.specs.declared.place.Place.{Place}
use Rattle.wf_ast.specs.declared.numbers.ExprId.{ExprId}
use Rattle.wf_ast.specs.declared.types.Ty.{Ty}
use Rattle.wf_ast.specs.declared.typed_nodes.TypedNodes.{TypedNodes}
use Rattle.wf_ast.specs.TypedTree.{CondTree, junction, ValueTree}
use Rattle.wf_ast.specs.TypedTrees.{OperatorKind, arithmetic, ordering, joining, cond_in, cond_chain, chain_of, tree_of}
use Rattle.wf_ast.specs.TypedInvariant.{is_numeric, is_logical, chain_fits}
use Rattle.wf_facts_exprs.proofs.PassLemmas.{both_of}
use Rattle.wf_facts_exprs.proofs.JudgeLemmas.{numeric-not-logical}
use Rattle.wf_axioms.specs.Matching.{comparison_in, order_by}

junction-none : (at : Place) (both joined : Bool) (so_far : CondTree) (t : ValueTree) (ts : List ValueTree) → None ≡ comparison_in (cond_chain at both joined so_far (t ∷ ts))
junction-none at both joined so_far t [] = refl
junction-none at both joined so_far t (u ∷ us) = junction-none at both true (junction at both joined so_far (cond_in t)) u us

-- An operator that doesn't compare.
pub chain-none : (nodes : TypedNodes) (at : Place) (signs : List Place) (ty : Ty) (sort : OperatorKind) (es : List ExprId) → chain_fits nodes sort es ty ≡ true → is_logical ty ≡ true → None ≡ order_by sort
    → None ≡ comparison_in (cond_in (chain_of at signs ty sort (map (tree_of nodes) es)))
chain-none nodes at signs ty (arithmetic op) (e ∷ f ∷ es) h k l = absurd (numeric-not-logical ty (both_of (is_numeric ty) _ h).0 k)
chain-none nodes at signs ty (joining both) (e ∷ f ∷ es) h k l = junction-none at both false (cond_in (tree_of nodes e)) (tree_of nodes f) (map (tree_of nodes) es)
chain-none nodes at signs ty (ordering op) es h k l = absurd (cc (l))
chain-none nodes at signs ty sort es h k l = absurd (cc (h))
