-- A chain is no target.
use Rattle.std.proofs.Common.{◌≡◌, ℕ, Bool, true, false, List, [], ◌∷◌, map, Option, Some, None, refl, ap, ◌∙◌}
use Rattle.wf_text.specs.declared.place.Place.{Place}
use Rattle.wf_ast.specs.declared.numbers.ExprId.{ExprId}
use Rattle.wf_ast.specs.declared.operators.Op.{Op}
use Rattle.wf_ast.specs.declared.types.Ty.{Ty}
use Rattle.wf_ast.specs.declared.typed_code.Expr.{Expr}
use Rattle.wf_ast.specs.declared.typed_code.Expr.TheVariants as exprs
use Rattle.wf_ast.specs.declared.typed_nodes.TypedNodes.{TypedNodes}
use Rattle.wf_ast.specs.TypedTree.{Arith, Order, equal, differs, NumTree, link, CondTree, junction, ValueTree, numeric, logical, state, to_nothing}
use Rattle.wf_ast.specs.TypedTrees.{OperatorKind, arithmetic, ordering, joining, chain_of, comparison, cond_chain, made_or_number, num_chain, operator_kind, target_of}
use Rattle.wf_ast.specs.TypedInvariant.{chain_fits, node_fits}

links : (at sign : Place) (op : Arith) (bits : ℕ) (j : Bool) (a b : NumTree) (ts : List ValueTree) (signs : List Place) → target_of (numeric (num_chain at op bits true (link at sign op bits j a b) ts signs)) ≡ to_nothing
links at sign op bits j a b [] signs = refl
links at sign op bits j a b (t ∷ ts) [] = links at at op bits true (link at sign op bits j a b) _ ts []
links at sign op bits j a b (t ∷ ts) (s ∷ signs) = links at s op bits true (link at sign op bits j a b) _ ts signs

joins : (at : Place) (both j : Bool) (a b : CondTree) (ts : List ValueTree) → target_of (logical (cond_chain at both true (junction at both j a b) ts)) ≡ to_nothing
joins at both j a b [] = refl
joins at both j a b (t ∷ ts) = joins at both true (junction at both j a b) _ ts

compares : (at sign : Place) (op : Order) (t u : ValueTree) → target_of (comparison at sign op t u) ≡ to_nothing
compares at sign equal (state a) u = refl
compares at sign differs (state a) u = refl
compares at sign op t u = refl

chain_target : (nodes : TypedNodes) (look : ExprId → ValueTree) (at : Place) (signs : List Place) (ty : Ty) (sort : OperatorKind) (es : List ExprId) → chain_fits nodes sort es ty ≡ true → target_of (chain_of at signs ty sort (map look es)) ≡ to_nothing
chain_target nodes look at [] ty (arithmetic op) (e ∷ f ∷ es) h = links at at op _ false _ _ (map look es) []
chain_target nodes look at (s ∷ signs) ty (arithmetic op) (e ∷ f ∷ es) h = links at s op _ false _ _ (map look es) signs
chain_target nodes look at signs ty (joining both) (e ∷ f ∷ es) h = joins at both false _ _ (map look es)
chain_target nodes look at signs ty (ordering op) (e ∷ f ∷ []) h = compares at _ op (look e) (look f)
chain_target nodes look at signs ty sort es h = absurd (cc (h))

-- By the node of an expression.
pub chain_no_target : (nodes : TypedNodes) (look : ExprId → ValueTree) (at : Place) (signs : List Place) (ty : Ty) (o : Option ℕ) (expr : Expr) (op : Op) (parts : List ExprId) (tree : ValueTree)
    → o ≡ None → expr ≡ exprs.Chain op parts → node_fits nodes ty o expr ≡ true → tree ≡ made_or_number look at signs ty o expr → target_of tree ≡ to_nothing
chain_no_target nodes look at signs ty None (exprs.Chain op' parts') op parts tree n e h m = ap target_of m ∙ chain_target nodes look at signs ty (operator_kind op') parts' h
chain_no_target nodes look at signs ty (Some v) expr op parts tree n e h m = absurd (cc (n))
chain_no_target nodes look at signs ty None expr op parts tree n e h m = absurd (cc (e))
