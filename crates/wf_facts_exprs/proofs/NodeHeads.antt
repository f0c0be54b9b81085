-- The head of a numeric expression is told by its node.
use Rattle.std.proofs.Common.{◌≡◌, Bool, true, false, List, [], ◌∷◌, map, None, refl, sym, subst}
use Rattle.wf_text.specs.declared.place.Place.{Place}
use Rattle.wf_base.specs.declared.base_methods.BaseSig.{BaseSig}
use Rattle.wf_base.specs.declared.base_methods.BaseSig.TheVariants as sigs
use Rattle.wf_base.specs.declared.marks.Mark.TheVariants.{Pure}
use Rattle.wf_base.specs.BaseTable.{row_of}
use Rattle.wf_ast.specs.WellTyped.{same_mark}
use Rattle.wf_ast.specs.declared.numbers.ExprId.{ExprId}
use Rattle.wf_ast.specs.declared.types.Ty.{Ty}
use Rattle.wf_ast.specs.declared.types.Ty.TheVariants as types
use Rattle.wf_ast.specs.declared.typed_code.Expr.{Expr}
use Rattle.wf_ast.specs.declared.typed_code.Expr.TheVariants as exprs
use Rattle.wf_ast.specs.declared.typed_nodes.TypedNodes.{TypedNodes}
use Rattle.wf_ast.specs.TypedTree.{Arith, NumTree, link, ValueTree}
use Rattle.wf_ast.specs.TypedTrees.{OperatorKind, arithmetic, ordering, joining, operator_kind, num_in, num_chain, chain_of, answer_of, made, tree_of, type_of_node, constant_of_node, place_of_node, signs_of_node}
use Rattle.wf_ast.specs.TypedInvariant.{is_expr, is_numeric, chain_fits, kind_fits, is_given}
use Rattle.wf_ast.specs.NodeKinds.{is_number_at}
use Rattle.wf_ast.proofs.SameLaws.{Lent, tree_at, kinds_at}
use Rattle.wf_facts_exprs.specs.Heads.{head_of, head_of_node}
use Rattle.wf_facts_exprs.specs.Shapes.{is_plain}
use Rattle.wf_facts_exprs.proofs.HeadLemmas.{no_constant}
use Rattle.wf_facts_exprs.proofs.PassLemmas.{both_of}

chain-head : (at : Place) (op : Arith) (bits : _) (joined : Bool) (so_far : NumTree) (t : ValueTree) (ts : List ValueTree) (signs : List Place) → head_of (num_chain at op bits joined so_far (t ∷ ts) signs) ≡ 1
chain-head at op bits joined so_far t [] [] = refl
chain-head at op bits joined so_far t [] (s ∷ ss) = refl
chain-head at op bits joined so_far t (u ∷ us) [] = chain-head at op bits true (link at at op bits joined so_far (num_in t)) u us []
chain-head at op bits joined so_far t (u ∷ us) (s ∷ ss) = chain-head at op bits true (link at s op bits joined so_far (num_in t)) u us ss

sorted-head : (nodes : TypedNodes) (look : ExprId → ValueTree) (at : Place) (signs : List Place) (ty : Ty) (sort : OperatorKind) (es : List ExprId) → is_numeric ty ≡ true → chain_fits nodes sort es ty ≡ true
    → head_of (num_in (chain_of at signs ty sort (map look es))) ≡ 1
sorted-head nodes look at signs (types.Num width lo hi) (arithmetic op) (e ∷ f ∷ es) h k = chain-head at op _ false (num_in (look e)) (look f) (map look es) signs
sorted-head nodes look at signs (types.Num width lo hi) (arithmetic op) (e ∷ []) h k = absurd (cc (k))
sorted-head nodes look at signs (types.Num width lo hi) (joining both) (e ∷ f ∷ es) h k = absurd (cc (k))
sorted-head nodes look at signs (types.Num width lo hi) (joining both) (e ∷ []) h k = absurd (cc (k))
sorted-head nodes look at signs (types.Num width lo hi) (ordering op) (e ∷ f ∷ []) h k = absurd (cc (k))
sorted-head nodes look at signs (types.Num width lo hi) (ordering op) (e ∷ f ∷ g ∷ es) h k = absurd (cc (k))
sorted-head nodes look at signs (types.Num width lo hi) (ordering op) (e ∷ []) h k = absurd (cc (k))
sorted-head nodes look at signs (types.Num width lo hi) sort [] h k = absurd (cc (k))
sorted-head nodes look at signs ty sort es h k = absurd (cc (h))

answer-head : (at : Place) (sig : BaseSig) (t : ValueTree) (ty : Ty) → is_numeric ty ≡ true → same_mark (row_of sig).mark Pure ≡ true → is_given (row_of sig).gives ty ≡ true → head_of (num_in (answer_of at sig t)) ≡ 3
answer-head at sigs.ReaderLength t ty h pure k = refl
answer-head at sigs.ReaderPosition t ty h pure k = refl
answer-head at (sigs.Peek form) t ty h pure k = refl
answer-head at sigs.WriterLength t ty h pure k = refl
answer-head at sigs.WriterPosition t ty h pure k = refl
answer-head at (sigs.SliceLength width) t ty h pure k = refl
answer-head at (sigs.ArrayLength width) t ty h pure k = refl
answer-head at sigs.ReaderIsClosed t (types.Num width lo hi) h pure k = absurd (cc (k))
answer-head at sigs.IsOk t (types.Num width lo hi) h pure k = absurd (cc (k))
answer-head at sigs.IsNote t (types.Num width lo hi) h pure k = absurd (cc (k))
answer-head at sigs.IsSuspension t (types.Num width lo hi) h pure k = absurd (cc (k))
answer-head at sigs.IsError t (types.Num width lo hi) h pure k = absurd (cc (k))
answer-head at (sigs.Read form) t ty h pure k = absurd (cc (pure))
answer-head at sigs.Skip t ty h pure k = absurd (cc (pure))
answer-head at sigs.SkipFast t ty h pure k = absurd (cc (pure))
answer-head at sigs.Write t ty h pure k = absurd (cc (pure))
answer-head at sigs.WriteFast t ty h pure k = absurd (cc (pure))
answer-head at sigs.WriterCopy t ty h pure k = absurd (cc (pure))
answer-head at (sigs.SliceCopy width) t ty h pure k = absurd (cc (pure))
answer-head at sig t ty h pure k = absurd (cc (h))

made-head : (nodes : TypedNodes) (look : ExprId → ValueTree) (at : Place) (signs : List Place) (ty : Ty) (x : Expr) → is_numeric ty ≡ true → kind_fits nodes ty x ≡ true
    → head_of (num_in (made look at signs ty x)) ≡ head_of_node x
made-head nodes look at signs (types.Num width lo hi) (exprs.Number v) h k = absurd (cc (k))
made-head nodes look at signs (types.Num width lo hi) (exprs.Const c) h k = absurd (cc (k))
made-head nodes look at signs (types.Num width lo hi) (exprs.Status s) h k = absurd (cc (k))
made-head nodes look at signs (types.Num width lo hi) (exprs.Truth v) h k = absurd (cc (k))
made-head nodes look at signs (types.Num width lo hi) (exprs.Local n) h k = refl
made-head nodes look at signs (types.Num width lo hi) (exprs.Field n) h k = refl
made-head nodes look at signs (types.Num width lo hi) (exprs.Arg n) h k = refl
made-head nodes look at signs (types.Num width lo hi) (exprs.Index base index) h k = refl
made-head nodes look at signs (types.Num width lo hi) (exprs.Cut base from to) h k = absurd (cc (k))
made-head nodes look at signs (types.Num width lo hi) (exprs.Chain op parts) h k = sorted-head nodes look at signs (types.Num width lo hi) (operator_kind op) parts h k
made-head nodes look at signs (types.Num width lo hi) (exprs.Convert of to) h k = refl
made-head nodes look at signs (types.Num width lo hi) (exprs.Not of) h k = absurd (cc (k))
made-head nodes look at signs (types.Num width lo hi) (exprs.Base on sig) h k =
    let p = both_of (same_mark (row_of sig).mark Pure) _ k in
    answer-head at sig (look on) (types.Num width lo hi) h p.0 (both_of _ _ p.1).1
made-head nodes look at signs ty x h k = absurd (cc (h))

module _ (nodes : TypedNodes) (e : ExprId) (x : Expr) (it : Lent nodes e x) where
  pub head_seen : is_number_at nodes e ≡ true → is_plain (num_in (tree_of nodes e)) ≡ true → head_of (num_in (tree_of nodes e)) ≡ head_of_node x
  head_seen number plain =
      let varies : constant_of_node nodes e.0 ≡ None = no_constant nodes e x it plain (constant_of_node nodes e.0) refl in
      let P : ValueTree → Type 0 = λ t. head_of (num_in t) ≡ head_of_node x in
      subst P (sym (tree_at nodes e x it None varies))
      (made-head nodes (tree_of nodes) (place_of_node nodes e.0) (signs_of_node nodes e.0) (type_of_node nodes e.0) x (both_of (is_expr nodes e) _ number).1 (kinds_at nodes e x it varies))
