-- What is computed isn't there again when a call is resumed.
use Rattle.std.proofs.Common.{◌≡◌, ℕ, Bool, true, false, List, [], ◌∷◌, map, refl}
use Rattle.wf_text.specs.declared.place.Place.{Place}
use Rattle.wf_ast.specs.declared.numbers.ExprId.{ExprId}
use Rattle.wf_ast.specs.declared.typed_nodes.TypedNodes.{TypedNodes}
use Rattle.wf_ast.specs.declared.types.Ty.{Ty}
use Rattle.wf_ast.specs.declared.types.Ty.TheVariants as types
use Rattle.wf_ast.specs.TypedTree.{Arith, NumTree, link, ValueTree}
use Rattle.wf_ast.specs.TypedTrees.{OperatorKind, arithmetic, ordering, joining, num_in, num_chain, chain_of}
use Rattle.wf_ast.specs.TypedInvariant.{is_numeric, is_logical, chain_fits}
use Rattle.wf_ast.proofs.Arena.{both_true}
use Rattle.wf_lower_stmts.specs.Forms.{stays}

number_no_condition : (ty : Ty) → is_numeric ty ≡ true → is_logical ty ≡ true → ⊥
number_no_condition (types.Num width lo hi) h k = cc k
number_no_condition ty h k = cc h

link_moves : (at front sign : Place) (op : Arith) (bits : ℕ) (joined : Bool) (a b : NumTree) (ts : List ValueTree) (signs : List Place) → stays (num_chain at op bits true (link front sign op bits joined a b) ts signs) ≡ false
link_moves at front sign op bits joined a b [] signs = refl
link_moves at front sign op bits joined a b (t ∷ ts) [] = link_moves at at at op bits true (link front sign op bits joined a b) (num_in t) ts []
link_moves at front sign op bits joined a b (t ∷ ts) (s ∷ signs) = link_moves at at s op bits true (link front sign op bits joined a b) (num_in t) ts signs

pub chain_moves : (nodes : TypedNodes) (look : ExprId → ValueTree) (at : Place) (signs : List Place) (sort : OperatorKind) (es : List ExprId) (ty : Ty) → is_numeric ty ≡ true → chain_fits nodes sort es ty ≡ true
    → stays (num_in (chain_of at signs ty sort (map look es))) ≡ false
chain_moves nodes look at [] (arithmetic op) (e ∷ f ∷ es) ty n h = link_moves at at at op _ false (num_in (look e)) (num_in (look f)) (map look es) []
chain_moves nodes look at (s ∷ signs) (arithmetic op) (e ∷ f ∷ es) ty n h = link_moves at at s op _ false (num_in (look e)) (num_in (look f)) (map look es) signs
chain_moves nodes look at signs (joining both) (e ∷ f ∷ es) ty n h = absurd (number_no_condition ty n (both_true (is_logical ty) _ h).0)
chain_moves nodes look at signs (ordering op) (e ∷ f ∷ []) ty n h = absurd (number_no_condition ty n (both_true (is_logical ty) _ h).0)
chain_moves nodes look at signs sort es ty n h = absurd (cc h)
