-- What expressions are as targets.
use Rattle.std.proofs.Common.{◌≡◌, ℕ, ◌<◌, Bool, true, false, List, [], ◌∷◌, map, Option, None, nat_lt, refl, sym, ap, ◌∙◌, subst, arith}
use Rattle.std.proofs.lemmas.Bool.Decides.{nat_tests}
use Rattle.wf_text.specs.declared.place.Place.{Place}
use Rattle.wf_base.specs.declared.base_methods.BaseSig.{BaseSig}
use Rattle.wf_base.specs.declared.base_methods.BaseSig.TheVariants as sigs
use Rattle.wf_ast.specs.declared.numbers.ExprId.{ExprId}
use Rattle.wf_ast.specs.declared.operators.Op.{Op}
use Rattle.wf_ast.specs.declared.typed_code.Expr.{Expr}
use Rattle.wf_ast.specs.declared.typed_code.Expr.TheVariants as exprs
use Rattle.wf_ast.specs.declared.types.Ty.{Ty}
use Rattle.wf_ast.specs.declared.typed_nodes.TypedNodes.{TypedNodes}
use Rattle.wf_ast.specs.TypedTree.{Arith, Order, equal, differs, less, at_most, at_least, greater, NumTree, link, CondTree, junction, ValueTree, numeric, logical, state, elements, io, lost, Target, to_nothing}
use Rattle.wf_ast.specs.TypedTrees.{OperatorKind, arithmetic, ordering, joining, num_in, cond_in, num_chain, cond_chain, comparison, chain_of, answer_of, target_of}
use Rattle.wf_ast.specs.TypedTrees.{tree_of, made, made_or_number, operator_kind}
use Rattle.wf_ast.specs.TypedInvariant.{chain_fits, node_fits}
use Rattle.wf_lower_stmts.specs.BodyNodes.{AreAlike}

lt_more : (k m n : ℕ) → m < n → nat_lt k m ≡ true → nat_lt k n ≡ true
lt_more k m n l h = grind (arith, nat_tests, l, h)

pub same : (t : Target) → AreAlike t t
same t = record { single = λ names. refl; wanted = refl; double = λ names it rest. refl }

pub none_alike : (v : ValueTree) → target_of v ≡ to_nothing → AreAlike (target_of v) to_nothing
none_alike v h = rw h (same to_nothing)

linked_none : (at at2 sign : Place) (op : Arith) (bits : ℕ) (a b : NumTree) (joined : Bool) (ts : List ValueTree) (signs : List Place)
    → target_of (numeric (num_chain at op bits true (link at2 sign op bits joined a b) ts signs)) ≡ to_nothing
linked_none at at2 sign op bits a b joined [] signs = refl
linked_none at at2 sign op bits a b joined (t ∷ ts) [] = linked_none at at at op bits (link at2 sign op bits joined a b) (num_in t) true ts []
linked_none at at2 sign op bits a b joined (t ∷ ts) (s ∷ signs) = linked_none at at s op bits (link at2 sign op bits joined a b) (num_in t) true ts signs

joined_none : (at at2 : Place) (both joined : Bool) (a b : CondTree) (ts : List ValueTree) → target_of (logical (cond_chain at both true (junction at2 both joined a b) ts)) ≡ to_nothing
joined_none at at2 both joined a b [] = refl
joined_none at at2 both joined a b (t ∷ ts) = joined_none at at both true (junction at2 both joined a b) (cond_in t) ts

compared_none : (at sign : Place) (op : Order) (a b : ValueTree) → target_of (comparison at sign op a b) ≡ to_nothing
compared_none at sign equal (numeric t) b = refl
compared_none at sign equal (logical t) b = refl
compared_none at sign equal (state t) b = refl
compared_none at sign equal (elements t) b = refl
compared_none at sign equal (io p n) b = refl
compared_none at sign equal lost b = refl
compared_none at sign differs (numeric t) b = refl
compared_none at sign differs (logical t) b = refl
compared_none at sign differs (state t) b = refl
compared_none at sign differs (elements t) b = refl
compared_none at sign differs (io p n) b = refl
compared_none at sign differs lost b = refl
compared_none at sign less a b = refl
compared_none at sign at_most a b = refl
compared_none at sign at_least a b = refl
compared_none at sign greater a b = refl

-- A chain of two or more is no target.
pub chain_none : (at : Place) (signs : List Place) (ty : Ty) (sort : OperatorKind) (t u : ValueTree) (ts : List ValueTree) → target_of (chain_of at signs ty sort (t ∷ u ∷ ts)) ≡ to_nothing
chain_none at [] ty (arithmetic op) t u ts = linked_none at at at op _ (num_in t) (num_in u) false ts []
chain_none at (s ∷ signs) ty (arithmetic op) t u ts = linked_none at at s op _ (num_in t) (num_in u) false ts signs
chain_none at signs ty (joining both) t u ts = joined_none at at both false (cond_in t) (cond_in u) ts
chain_none at [] ty (ordering op) t u ts = compared_none at at op t u
chain_none at (s ∷ signs) ty (ordering op) t u ts = compared_none at s op t u

pub answer_none : (at : Place) (sig : BaseSig) (t : ValueTree) → target_of (answer_of at sig t) ≡ to_nothing
answer_none at sigs.ReaderLength t = refl
answer_none at sigs.ReaderIsClosed t = refl
answer_none at sigs.ReaderPosition t = refl
answer_none at (sigs.Read form) t = refl
answer_none at sigs.Skip t = refl
answer_none at (sigs.Peek form) t = refl
answer_none at sigs.SkipFast t = refl
answer_none at sigs.WriterLength t = refl
answer_none at sigs.WriterPosition t = refl
answer_none at sigs.Write t = refl
answer_none at sigs.WriteFast t = refl
answer_none at sigs.WriterCopy t = refl
answer_none at (sigs.SliceCopy width) t = refl
answer_none at (sigs.SliceLength width) t = refl
answer_none at (sigs.ArrayLength width) t = refl
answer_none at sigs.IsOk t = refl
answer_none at sigs.IsNote t = refl
answer_none at sigs.IsSuspension t = refl
answer_none at sigs.IsError t = refl

pub chain_target : (nodes : TypedNodes) (look : ExprId → ValueTree) (at : Place) (signs : List Place) (ty : Ty) (sort : OperatorKind) (es : List ExprId) → chain_fits nodes sort es ty ≡ true
    → target_of (chain_of at signs ty sort (map look es)) ≡ to_nothing
chain_target nodes look at signs ty (arithmetic op) [] h = absurd (cc h)
chain_target nodes look at signs ty (arithmetic op) (e ∷ []) h = absurd (cc h)
chain_target nodes look at signs ty (joining both) [] h = absurd (cc h)
chain_target nodes look at signs ty (joining both) (e ∷ []) h = absurd (cc h)
chain_target nodes look at signs ty (ordering op) [] h = absurd (cc h)
chain_target nodes look at signs ty (ordering op) (e ∷ []) h = absurd (cc h)
chain_target nodes look at signs ty sort (e ∷ f ∷ es) h = chain_none at signs ty sort (look e) (look f) (map look es)

-- A target by its node.
pub alike_made : (t nodes : TypedNodes) (e : ExprId) (look : ExprId → ValueTree) (at : Place) (signs : List Place) (ty : Ty) (n : Option ℕ) (x y : Expr) (r : Target)
    → t ≡ nodes → tree_of t e ≡ made_or_number look at signs ty n x → None ≡ n → x ≡ y → AreAlike (target_of (made look at signs ty y)) r → AreAlike (target_of (tree_of nodes e)) r
alike_made t nodes e look at signs ty n x y r same is none xy h =
    let whole : tree_of nodes e ≡ made look at signs ty y = ap (λ m. tree_of m e) (sym same) ∙ is ∙ ap (λ k. made_or_number look at signs ty k x) (sym none) ∙ ap (made look at signs ty) xy in
    let P : ValueTree → Type 0 = λ v. AreAlike (target_of v) r in
    subst P (sym whole) h

pub chain_alike : (t nodes : TypedNodes) (e : ExprId) (look : ExprId → ValueTree) (at : Place) (signs : List Place) (ty : Ty) (n : Option ℕ) (x : Expr) (op : Op) (parts : List ExprId)
    → t ≡ nodes → tree_of t e ≡ made_or_number look at signs ty n x → None ≡ n → x ≡ exprs.Chain op parts → node_fits t ty n x ≡ true → AreAlike (target_of (tree_of nodes e)) to_nothing
chain_alike t nodes e look at signs ty n x op parts same is none xy fits =
    let P : Option ℕ → Type 0 = λ k. node_fits t ty k x ≡ true in
    let Q : Expr → Type 0 = λ z. node_fits t ty None z ≡ true in
    let whole : chain_fits t (operator_kind op) parts ty ≡ true = subst Q xy (subst P (sym none) fits) in
    alike_made t nodes e look at signs ty n x (exprs.Chain op parts) to_nothing same is none xy (none_alike (chain_of at signs ty (operator_kind op) (map look parts)) (chain_target t look at signs ty (operator_kind op) parts whole))
