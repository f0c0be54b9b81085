-- Growing step by step, and what keeps while it does.
use Rattle.std.proofs.Common.{◌≡◌, ℕ, ◌≤◌, List, Option, None, length, sym, ap, ◌∙◌, subst, arith}
use Rattle.std.specs.Prelude.{unwrap_or}
use Rattle.wf_text.specs.declared.place.Place.{Place}
use Rattle.wf_ast.specs.declared.numbers.ExprId.{ExprId}
use Rattle.wf_ast.specs.declared.typed_nodes.TypedNodes.{TypedNodes}
use Rattle.wf_ast.specs.declared.types.Ty.TheVariants as types
use Rattle.wf_ast.specs.TypedTree.{ValueTree, lost}
use Rattle.wf_ast.specs.TypedTrees.{expr_trees, tree_of, made_or_number}
use Rattle.wf_types_rules.specs.declared.meanings.Meaning.{Meaning}
use Rattle.wf_typed_tree.specs.ElaboratedExprs.{type_meant}
use Rattle.wf_typed_exprs.specs.Growth.{Keeps, Grows}
use Rattle.wf_typed_exprs.specs.declared.elaborated.MadeNode.{MadeNode}
use Rattle.wf_typed_exprs.specs.Nodes.{number_meant, Stands, Makes}

keeps_more : {X : Type 0} (m n : ℕ) (xs ys zs : List X) → m ≤ n → Keeps m xs ys → Keeps n ys zs → Keeps m xs zs
keeps_more m n xs ys zs l p q i h = p i h ∙ q i (omega (arith, h, l))

pub grows_more : (p q r : TypedNodes) → Grows p q → Grows q r → Grows p r
grows_more p q r g h = record {
  exprs = omega (arith, g.exprs, h.exprs);
  same_trees = keeps_more (length p.exprs) (length q.exprs) (expr_trees p) (expr_trees q) (expr_trees r) g.exprs g.same_trees h.same_trees;
  same_types = keeps_more (length p.exprs) (length q.exprs) p.types q.types r.types g.exprs g.same_types h.same_types;
  same_constants = keeps_more (length p.exprs) (length q.exprs) p.constants q.constants r.constants g.exprs g.same_constants h.same_constants;
  rest = h.rest ∙ g.rest;
}

-- As many statuses.
pub statuses_kept : (p q : TypedNodes) → Grows p q → length q.statuses ≡ length p.statuses
statuses_kept p q g = ap (λ (n : TypedNodes). length n.statuses) g.rest

-- A node stands for the same.
pub stands_kept : (t : ValueTree) (of : Option Meaning) (p q : TypedNodes) (e : ExprId) → Grows p q → Stands t of p e → Stands t of q e
stands_kept t of p q e g h = record {
  there = omega (arith, h.there, g.exprs);
  tree_is = ap (λ o. unwrap_or o lost) (sym (g.same_trees e.0 h.there)) ∙ h.tree_is;
  typed = ap (λ o. unwrap_or o types.Flag) (sym (g.same_types e.0 h.there)) ∙ h.typed;
  counted = ap (λ o. unwrap_or o None) (sym (g.same_constants e.0 h.there)) ∙ h.counted;
}

pub makes_stands : (at : Place) (t : ValueTree) (of : Option Meaning) (p q : TypedNodes) (n : MadeNode) (e : ExprId) → Makes at t of p n
    → Stands (made_or_number (tree_of p) n.node.at n.node.signs (type_meant n.of) (number_meant n.of) n.node.expr) n.of q e → Stands t of q e
makes_stands at t of p q n e h k =
    let T : Option Meaning → Type 0 = λ o. made_or_number (tree_of p) n.node.at n.node.signs (type_meant o) (number_meant o) n.node.expr ≡ t in
    record {
      there = k.there;
      tree_is = k.tree_is ∙ subst T (sym h.means) h.tree_is;
      typed = k.typed ∙ ap type_meant h.means;
      counted = k.counted ∙ ap number_meant h.means;
    }
