-- A chain that gives a number is a link of its width.
use Rattle.std.proofs.Common.{◌≡◌, ℕ, Bool, true, false, List, [], ◌∷◌, map}
use Rattle.wf_text.specs.declared.place.Place.{Place}
use Rattle.wf_ast.specs.declared.numbers.ExprId.{ExprId}
use Rattle.wf_ast.specs.declared.types.Ty.{Ty}
use Rattle.wf_ast.specs.declared.typed_nodes.TypedNodes.{TypedNodes}
use Rattle.wf_ast.specs.TypedTree.{Arith, NumTree, link, ValueTree}
use Rattle.wf_ast.specs.TypedTrees.{OperatorKind, arithmetic, ordering, joining, num_in, num_type, num_chain, chain_of, tree_of}
use Rattle.wf_ast.specs.TypedInvariant.{chain_fits, is_numeric}
use Rattle.wf_ast.proofs.ChainKinds.{junction_gives_condition, comparison_gives_condition}
use Rattle.wf_ast.proofs.TypeKinds.{number_no_condition}

-- What holds of every link of a width.
abbrev pub OfLinks : (NumTree → Type 0) → (bits : ℕ) → Type 0
OfLinks P bits = (at sign : Place) (op : Arith) (joined : Bool) (a b : NumTree) → P (link at sign op bits joined a b)

link_on : (P : NumTree → Type 0) (bits : ℕ) (at sign : Place) (op : Arith) (joined : Bool) (a b : NumTree) (ts : List ValueTree) (signs : List Place) → OfLinks P bits
    → P (num_chain at op bits true (link at sign op bits joined a b) ts signs)
link_on P bits at sign op joined a b [] signs h = h at sign op joined a b
link_on P bits at sign op joined a b (t ∷ ts) [] h = link_on P bits at at op true (link at sign op bits joined a b) (num_in t) ts [] h
link_on P bits at sign op joined a b (t ∷ ts) (next ∷ signs) h = link_on P bits at next op true (link at sign op bits joined a b) (num_in t) ts signs h

pub chain_is_link : (P : NumTree → Type 0) (nodes : TypedNodes) (at : Place) (signs : List Place) (ty : Ty) (sort : OperatorKind) (es : List ExprId) → is_numeric ty ≡ true → chain_fits nodes sort es ty ≡ true
    → OfLinks P (num_type ty).bits → P (num_in (chain_of at signs ty sort (map (tree_of nodes) es)))
chain_is_link P nodes at signs ty (arithmetic op) [] n f h = absurd (cc f)
chain_is_link P nodes at signs ty (arithmetic op) (a ∷ []) n f h = absurd (cc f)
chain_is_link P nodes at [] ty (arithmetic op) (a ∷ b ∷ es) n f h = link_on P _ at at op false _ _ (map (tree_of nodes) es) [] h
chain_is_link P nodes at (sign ∷ signs) ty (arithmetic op) (a ∷ b ∷ es) n f h = link_on P _ at sign op false _ _ (map (tree_of nodes) es) signs h
chain_is_link P nodes at signs ty (joining both) es n f h = absurd (number_no_condition ty n (junction_gives_condition nodes both es ty f))
chain_is_link P nodes at signs ty (ordering op) es n f h = absurd (number_no_condition ty n (comparison_gives_condition nodes op es ty f))
