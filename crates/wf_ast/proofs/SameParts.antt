-- Nodes are the same where they are alike and their parts are the same.
use Rattle.std.proofs.Common.{◌≡◌, ℕ, Bool, true, false, ◌&&◌, List, [], ◌∷◌, map, Option, Some, None, refl, sym, ap, ◌∙◌, ◌⊎◌, inl, inr, ◌||◌, nat_eq}
use Rattle.std.specs.List.{list_all}
use Rattle.wf_text.specs.declared.place.Place.{Place}
use Rattle.wf_base.specs.declared.marks.Mark.TheVariants.{Pure}
use Rattle.wf_base.specs.declared.widths.Width.{Width}
use Rattle.wf_base.specs.declared.base_methods.BaseSig.{BaseSig}
use Rattle.wf_base.specs.declared.base_methods.BaseSig.TheVariants as sigs
use Rattle.wf_base.specs.declared.base_methods.Kind.TheVariants as kinds
use Rattle.wf_base.specs.declared.base_methods.PeekForm.TheVariants.{PeekU8, PeekU16Le, PeekU32Le}
use Rattle.wf_base.specs.BaseTable.{row_of, bits_of}
use Rattle.wf_ast.specs.declared.numbers.ExprId.{ExprId}
use Rattle.wf_ast.specs.declared.types.Ty.{Ty}
use Rattle.wf_ast.specs.declared.types.Ty.TheVariants as types
use Rattle.wf_ast.specs.declared.typed_code.Expr.{Expr}
use Rattle.wf_ast.specs.declared.typed_code.Expr.TheVariants as exprs
use Rattle.wf_ast.specs.declared.typed_nodes.TypedNodes.{TypedNodes}
use Rattle.wf_ast.specs.TypedTree.{Path, local, field, arg, Arith, Order, equal, differs, NumTree, link, CondTree, compare, junction, ValueTree, numeric, logical, state}
use Rattle.wf_ast.specs.TypedTrees.{OperatorKind, arithmetic, ordering, joining, operator_kind, type_of_node, made, named, num_type, num_chain, cond_chain, chain_of, comparison, first_sign, answer_of, num_in, cond_in, slice_in, end_in}
use Rattle.wf_ast.specs.TypedInvariant.{parts_of, is_numeric, is_logical, is_state, is_list, is_tree_of, parts_fit, kind_fits, chain_fits, cut_parts, optional_numeric, compares_kinds, all_numeric, has_kind}
use Rattle.wf_ast.specs.WellTyped.{same_mark}
use Rattle.wf_ast.specs.Value.{same_truth}
use Rattle.wf_ast.specs.Same.{same, same_num, same_slice, same_end, same_state, same_path, same_arith, same_order, same_width}
use Rattle.wf_ast.specs.SameNodes.{same_kind, same_answer, same_presence, same_head, all_same}
use Rattle.wf_ast.proofs.Arena.{both_true}
use Rattle.wf_ast.proofs.TreeKinds.{local_kind, field_kind, arg_kind}
use Rattle.wf_ast.proofs.SameChains.{with_true, with_false, false_last, is_num_tree, is_state_tree, is_list_tree, is_io_tree, num_tree, cond_tree, state_tree, list_tree, io_tree, nums_same, conds_same, states_same, lists_same, ios_same, form, operator_form, forms_differ, operator_forms_differ, variables_same, variable_form, same_sort, sorts_same, all_num, num_wholes, all_cond, cond_wholes}

-- Joins of two tests.
two_parts : (a b c d : Bool) → a ≡ c → b ≡ d → (a && b) ≡ (c && (d && true))
two_parts a b c d e f = rw (e, f) (ap (λ z. c && z) (sym (with_true d)))

one_part : (a c : Bool) → a ≡ c → a ≡ (c && true)
one_part a c e = e ∙ sym (with_true c)

either_true : (a b : Bool) → (a || b) ≡ true → (a ≡ true) ⊎ (b ≡ true)
either_true true b h = inl refl
either_true false b h = inr h

-- What base methods are called on.
pub on_reader : (ty : Ty) (t : ValueTree) → has_kind kinds.Reader ty ≡ true → is_tree_of ty t ≡ true → is_io_tree t ≡ true
on_reader types.Reader t h k = io_tree types.Reader t refl k
on_reader ty t h k = absurd (cc (h))

pub on_writer : (ty : Ty) (t : ValueTree) → has_kind kinds.Writer ty ≡ true → is_tree_of ty t ≡ true → is_io_tree t ≡ true
on_writer types.Writer t h k = io_tree types.Writer t refl k
on_writer ty t h k = absurd (cc (h))

pub on_status : (ty : Ty) (t : ValueTree) → has_kind kinds.Status ty ≡ true → is_tree_of ty t ≡ true → is_state_tree t ≡ true
on_status types.Status t h k = state_tree types.Status t refl k
on_status ty t h k = absurd (cc (h))

pub on_slice : (width : Width) (ty : Ty) (t : ValueTree) → has_kind (kinds.Slice width) ty ≡ true → is_tree_of ty t ≡ true → is_list_tree t ≡ true
on_slice width (types.Slice own) t h k = list_tree (types.Slice own) t refl k
on_slice width ty t h k = absurd (cc (h))

pub on_array : (width : Width) (ty : Ty) (t : ValueTree) → has_kind (kinds.Array width) ty ≡ true → is_tree_of ty t ≡ true → is_list_tree t ≡ true
on_array width (types.Array own lo hi count) t h k = list_tree (types.Array own lo hi count) t refl k
on_array width ty t h k = absurd (cc (h))

-- Base methods.
answers_same : (at at' : Place) (sig sig' : BaseSig) (ty ty' : Ty) (t u : ValueTree)
    → same_mark (row_of sig).mark Pure ≡ true → same_mark (row_of sig').mark Pure ≡ true
    → has_kind (row_of sig).on ty ≡ true → has_kind (row_of sig').on ty' ≡ true → is_tree_of ty t ≡ true → is_tree_of ty' u ≡ true
    → same (answer_of at sig t) (answer_of at' sig' u) ≡ (same_answer sig sig' && (same t u && true))
answers_same at at' (sigs.Read form) sig' ty ty' t u h k on on' f g = absurd (cc (h))
answers_same at at' sigs.Skip sig' ty ty' t u h k on on' f g = absurd (cc (h))
answers_same at at' sigs.SkipFast sig' ty ty' t u h k on on' f g = absurd (cc (h))
answers_same at at' sigs.Write sig' ty ty' t u h k on on' f g = absurd (cc (h))
answers_same at at' sigs.WriteFast sig' ty ty' t u h k on on' f g = absurd (cc (h))
answers_same at at' sigs.WriterCopy sig' ty ty' t u h k on on' f g = absurd (cc (h))
answers_same at at' (sigs.SliceCopy width) sig' ty ty' t u h k on on' f g = absurd (cc (h))
answers_same at at' sigs.ReaderLength sigs.ReaderLength ty ty' t u h k on on' f g = one_part _ (same t u) (ios_same t u (on_reader ty t on f) (on_reader ty' u on' g))
answers_same at at' sigs.ReaderIsClosed sigs.ReaderIsClosed ty ty' t u h k on on' f g = one_part _ (same t u) (ios_same t u (on_reader ty t on f) (on_reader ty' u on' g))
answers_same at at' sigs.ReaderPosition sigs.ReaderPosition ty ty' t u h k on on' f g = one_part _ (same t u) (ios_same t u (on_reader ty t on f) (on_reader ty' u on' g))
answers_same at at' (sigs.Peek PeekU8) (sigs.Peek PeekU8) ty ty' t u h k on on' f g = one_part _ (same t u) (ios_same t u (on_reader ty t on f) (on_reader ty' u on' g))
answers_same at at' (sigs.Peek PeekU16Le) (sigs.Peek PeekU16Le) ty ty' t u h k on on' f g = one_part _ (same t u) (ios_same t u (on_reader ty t on f) (on_reader ty' u on' g))
answers_same at at' (sigs.Peek PeekU32Le) (sigs.Peek PeekU32Le) ty ty' t u h k on on' f g = one_part _ (same t u) (ios_same t u (on_reader ty t on f) (on_reader ty' u on' g))
answers_same at at' sigs.WriterLength sigs.WriterLength ty ty' t u h k on on' f g = one_part _ (same t u) (ios_same t u (on_writer ty t on f) (on_writer ty' u on' g))
answers_same at at' sigs.WriterPosition sigs.WriterPosition ty ty' t u h k on on' f g = one_part _ (same t u) (ios_same t u (on_writer ty t on f) (on_writer ty' u on' g))
answers_same at at' (sigs.SliceLength width) (sigs.SliceLength width') ty ty' t u h k on on' f g = one_part _ (same t u) (lists_same t u (on_slice width ty t on f) (on_slice width' ty' u on' g))
answers_same at at' (sigs.SliceLength width) (sigs.ArrayLength width') ty ty' t u h k on on' f g = one_part _ (same t u) (lists_same t u (on_slice width ty t on f) (on_array width' ty' u on' g))
answers_same at at' (sigs.ArrayLength width) (sigs.SliceLength width') ty ty' t u h k on on' f g = one_part _ (same t u) (lists_same t u (on_array width ty t on f) (on_slice width' ty' u on' g))
answers_same at at' (sigs.ArrayLength width) (sigs.ArrayLength width') ty ty' t u h k on on' f g = one_part _ (same t u) (lists_same t u (on_array width ty t on f) (on_array width' ty' u on' g))
answers_same at at' sigs.IsOk sigs.IsOk ty ty' t u h k on on' f g = one_part _ (same t u) (states_same t u (on_status ty t on f) (on_status ty' u on' g))
answers_same at at' sigs.IsNote sigs.IsNote ty ty' t u h k on on' f g = one_part _ (same t u) (states_same t u (on_status ty t on f) (on_status ty' u on' g))
answers_same at at' sigs.IsSuspension sigs.IsSuspension ty ty' t u h k on on' f g = one_part _ (same t u) (states_same t u (on_status ty t on f) (on_status ty' u on' g))
answers_same at at' sigs.IsError sigs.IsError ty ty' t u h k on on' f g = one_part _ (same t u) (states_same t u (on_status ty t on f) (on_status ty' u on' g))
answers_same at at' sigs.ReaderLength (sigs.Peek PeekU8) ty ty' t u h k on on' f g = refl
answers_same at at' sigs.ReaderIsClosed (sigs.Peek PeekU8) ty ty' t u h k on on' f g = refl
answers_same at at' sigs.ReaderPosition (sigs.Peek PeekU8) ty ty' t u h k on on' f g = refl
answers_same at at' sigs.WriterLength (sigs.Peek PeekU8) ty ty' t u h k on on' f g = refl
answers_same at at' sigs.WriterPosition (sigs.Peek PeekU8) ty ty' t u h k on on' f g = refl
answers_same at at' (sigs.SliceLength width) (sigs.Peek PeekU8) ty ty' t u h k on on' f g = refl
answers_same at at' (sigs.ArrayLength width) (sigs.Peek PeekU8) ty ty' t u h k on on' f g = refl
answers_same at at' sigs.IsOk (sigs.Peek PeekU8) ty ty' t u h k on on' f g = refl
answers_same at at' sigs.IsNote (sigs.Peek PeekU8) ty ty' t u h k on on' f g = refl
answers_same at at' sigs.IsSuspension (sigs.Peek PeekU8) ty ty' t u h k on on' f g = refl
answers_same at at' sigs.IsError (sigs.Peek PeekU8) ty ty' t u h k on on' f g = refl
answers_same at at' sig sig' ty ty' t u h k on on' f g = refl

answer_form : (at : Place) (sig : BaseSig) (t : ValueTree) → same_mark (row_of sig).mark Pure ≡ true → form (answer_of at sig t) ≡ 5
answer_form at (sigs.Read form) t h = absurd (cc (h))
answer_form at sigs.Skip t h = absurd (cc (h))
answer_form at sigs.SkipFast t h = absurd (cc (h))
answer_form at sigs.Write t h = absurd (cc (h))
answer_form at sigs.WriteFast t h = absurd (cc (h))
answer_form at sigs.WriterCopy t h = absurd (cc (h))
answer_form at (sigs.SliceCopy width) t h = absurd (cc (h))
answer_form at sigs.ReaderLength t h = refl
answer_form at sig t h = refl

-- Comparisons.
abbrev pub compared : (t u : ValueTree) → Order → Bool
compared (numeric a) (numeric b) op = true
compared (state a) (state b) equal = true
compared (state a) (state b) differs = true
compared t u op = false

nums_compared : (op : Order) (t u : ValueTree) → is_num_tree t ≡ true → is_num_tree u ≡ true → compared t u op ≡ true
nums_compared op (numeric a) (numeric b) h k = refl
nums_compared op t u h k = absurd (cc (h, k))

abbrev of_states : Order → Bool
of_states equal = true
of_states differs = true
of_states op = false

states_compared : (op : Order) (t u : ValueTree) → of_states op ≡ true → is_state_tree t ≡ true → is_state_tree u ≡ true → compared t u op ≡ true
states_compared equal (state a) (state b) o h k = refl
states_compared differs (state a) (state b) o h k = refl
states_compared op t u o h k = absurd (cc (o, h, k))

pub kinds_compared : (op : Order) (a b : Ty) (t u : ValueTree) → compares_kinds (ordering op) a b ≡ true → is_tree_of a t ≡ true → is_tree_of b u ≡ true → compared t u op ≡ true
kinds_compared op a b t u h f g = cases op h
  where
    nums : (op : Order) → (is_numeric a && is_numeric b) ≡ true → compared t u op ≡ true
    nums op k = let p = both_true (is_numeric a) _ k in nums_compared op t u (num_tree a t p.0 f) (num_tree b u p.1 g)

    both : (op : Order) → of_states op ≡ true → ((is_numeric a && is_numeric b) ≡ true) ⊎ ((is_state a && is_state b) ≡ true) → compared t u op ≡ true
    both op o (inl k) = nums op k
    both op o (inr k) = let p = both_true (is_state a) _ k in states_compared op t u o (state_tree a t p.0 f) (state_tree b u p.1 g)

    cases : (op : Order) → compares_kinds (ordering op) a b ≡ true → compared t u op ≡ true
    cases equal k = both equal refl (either_true (is_numeric a && is_numeric b) (is_state a && is_state b) k)
    cases differs k = both differs refl (either_true (is_numeric a && is_numeric b) (is_state a && is_state b) k)
    cases op k = nums op k

comparison_of_nums : (at sign : Place) (op : Order) (a : NumTree) (u : ValueTree) → comparison at sign op (numeric a) u ≡ logical (compare at sign a op (num_in u))
comparison_of_nums at sign equal a u = refl
comparison_of_nums at sign differs a u = refl
comparison_of_nums at sign op a u = refl

comparison_form : (at sign : Place) (op : Order) (t u : ValueTree) → (form (comparison at sign op t u) ≡ 3) × (operator_form (comparison at sign op t u) ≡ 2)
comparison_form at sign equal (state a) u = (refl, refl)
comparison_form at sign differs (state a) u = (refl, refl)
comparison_form at sign op t u = (refl, refl)

comparisons_same : (at at' sign sign' : Place) (op op' : Order) (t u t' u' : ValueTree) → compared t u op ≡ true → compared t' u' op' ≡ true
    → same (comparison at sign op t u) (comparison at' sign' op' t' u') ≡ (same_order op op' && (same t t' && (same u u' && true)))
comparisons_same at at' sign sign' op op' (numeric a) (numeric b) (numeric a') (numeric b') h k =
    rw (comparison_of_nums at sign op a (numeric b), comparison_of_nums at' sign' op' a' (numeric b')) (ap (λ z. same_order op op' && (same_num a a' && z)) (sym (with_true (same_num b b'))))
comparisons_same at at' sign sign' op equal (numeric a) (numeric b) (state a') (state b') h k = rw (comparison_of_nums at sign op a (numeric b)) (sym (with_false (same_order op equal)))
comparisons_same at at' sign sign' op differs (numeric a) (numeric b) (state a') (state b') h k = rw (comparison_of_nums at sign op a (numeric b)) (sym (with_false (same_order op differs)))
comparisons_same at at' sign sign' equal op' (state a) (state b) (numeric a') (numeric b') h k = rw (comparison_of_nums at' sign' op' a' (numeric b')) (sym (with_false (same_order equal op')))
comparisons_same at at' sign sign' differs op' (state a) (state b) (numeric a') (numeric b') h k = rw (comparison_of_nums at' sign' op' a' (numeric b')) (sym (with_false (same_order differs op')))
comparisons_same at at' sign sign' equal equal (state a) (state b) (state a') (state b') h k = ap (λ z. same_state a a' && z) (sym (with_true (same_state b b')))
comparisons_same at at' sign sign' differs differs (state a) (state b) (state a') (state b') h k = ap (λ z. same_state a a' && z) (sym (with_true (same_state b b')))
comparisons_same at at' sign sign' equal differs (state a) (state b) (state a') (state b') h k = refl
comparisons_same at at' sign sign' differs equal (state a) (state b) (state a') (state b') h k = refl
comparisons_same at at' sign sign' op op' (numeric a) (numeric b) (state a') (state b') h k = absurd (cc (k))
comparisons_same at at' sign sign' op op' (state a) (state b) (numeric a') (numeric b') h k = absurd (cc (h))
comparisons_same at at' sign sign' op op' (state a) (state b) (state a') (state b') h k = absurd (cc (h, k))
comparisons_same at at' sign sign' op op' t u t' u' h k = absurd (cc (h, k))

-- The forms of chains.
num_form : (at sign at0 : Place) (op op0 : Arith) (bits bits0 : ℕ) (joined : Bool) (s b : NumTree) (ts : List ValueTree) (signs : List Place)
    → (form (numeric (num_chain at op bits true (link at0 sign op0 bits0 joined s b) ts signs)) ≡ 3) × (operator_form (numeric (num_chain at op bits true (link at0 sign op0 bits0 joined s b) ts signs)) ≡ 1)
num_form at sign at0 op op0 bits bits0 joined s b [] signs = (refl, refl)
num_form at sign at0 op op0 bits bits0 joined s b (t ∷ ts) [] = num_form at at at op op bits bits true (link at0 sign op0 bits0 joined s b) (num_in t) ts []
num_form at sign at0 op op0 bits bits0 joined s b (t ∷ ts) (next ∷ signs) = num_form at next at op op bits bits true (link at0 sign op0 bits0 joined s b) (num_in t) ts signs

cond_form : (at at0 : Place) (both both0 joined : Bool) (s b : CondTree) (ts : List ValueTree)
    → (form (logical (cond_chain at both true (junction at0 both0 joined s b) ts)) ≡ 3) × (operator_form (logical (cond_chain at both true (junction at0 both0 joined s b) ts)) ≡ 3)
cond_form at at0 both both0 joined s b [] = (refl, refl)
cond_form at at0 both both0 joined s b (t ∷ ts) = cond_form at at both both true (junction at0 both0 joined s b) (cond_in t) ts

abbrev sort_form : OperatorKind → ℕ
sort_form (arithmetic op) = 1
sort_form (ordering op) = 2
sort_form (joining both) = 3

module _ (nodes : TypedNodes) (look : ExprId → ValueTree) where
  chain_form : (at : Place) (signs : List Place) (sort : OperatorKind) (es : List ExprId) (ty : Ty) → chain_fits nodes sort es ty ≡ true
      → (form (chain_of at signs ty sort (map look es)) ≡ 3) × (operator_form (chain_of at signs ty sort (map look es)) ≡ sort_form sort)
  chain_form at [] (arithmetic op) (e ∷ f ∷ es) ty h = num_form at at at op op _ _ false _ _ (map look es) []
  chain_form at (sign ∷ signs) (arithmetic op) (e ∷ f ∷ es) ty h = num_form at sign at op op _ _ false _ _ (map look es) signs
  chain_form at signs (joining both) (e ∷ f ∷ es) ty h = cond_form at at both both false _ _ (map look es)
  chain_form at signs (ordering op) (e ∷ f ∷ []) ty h = comparison_form at (first_sign at signs) op (look e) (look f)
  chain_form at signs sort es ty h = absurd (cc (h))

  -- All parts are numbers, or conditions.
  nums_all : (es fs : List ExprId) → all_numeric nodes es ≡ true → all_numeric nodes fs ≡ true
      → list_all (λ part. is_tree_of (type_of_node nodes part.0) (look part)) es ≡ true → list_all (λ part. is_tree_of (type_of_node nodes part.0) (look part)) fs ≡ true
      → all_num (map look es) (map look fs) ≡ all_same look es fs
  nums_all [] [] a b f g = refl
  nums_all [] (d ∷ ds) a b f g = refl
  nums_all (e ∷ es) [] a b f g = refl
  nums_all (e ∷ es) (d ∷ ds) a b f g =
      let a' = both_true (is_numeric (type_of_node nodes e.0)) _ a in
      let b' = both_true (is_numeric (type_of_node nodes d.0)) _ b in
      let f' = both_true (is_tree_of (type_of_node nodes e.0) (look e)) _ f in
      let g' = both_true (is_tree_of (type_of_node nodes d.0) (look d)) _ g in
      rw (nums_same (look e) (look d) (num_tree _ _ a'.0 f'.0) (num_tree _ _ b'.0 g'.0), nums_all es ds a'.1 b'.1 f'.1 g'.1) refl

  conds_all : (es fs : List ExprId) → list_all (λ part. is_logical (type_of_node nodes part.0)) es ≡ true → list_all (λ part. is_logical (type_of_node nodes part.0)) fs ≡ true
      → list_all (λ part. is_tree_of (type_of_node nodes part.0) (look part)) es ≡ true → list_all (λ part. is_tree_of (type_of_node nodes part.0) (look part)) fs ≡ true
      → all_cond (map look es) (map look fs) ≡ all_same look es fs
  conds_all [] [] a b f g = refl
  conds_all [] (d ∷ ds) a b f g = refl
  conds_all (e ∷ es) [] a b f g = refl
  conds_all (e ∷ es) (d ∷ ds) a b f g =
      let a' = both_true (is_logical (type_of_node nodes e.0)) _ a in
      let b' = both_true (is_logical (type_of_node nodes d.0)) _ b in
      let f' = both_true (is_tree_of (type_of_node nodes e.0) (look e)) _ f in
      let g' = both_true (is_tree_of (type_of_node nodes d.0) (look d)) _ g in
      rw (conds_same (look e) (look d) (cond_tree _ _ a'.0 f'.0) (cond_tree _ _ b'.0 g'.0), conds_all es ds a'.1 b'.1 f'.1 g'.1) refl

  chains_differ : (at at' : Place) (signs signs' : List Place) (ty ty' : Ty) (s s' : OperatorKind) (es fs : List ExprId) → chain_fits nodes s es ty ≡ true → chain_fits nodes s' fs ty' ≡ true
      → nat_eq (sort_form s) (sort_form s') ≡ false → same (chain_of at signs ty s (map look es)) (chain_of at' signs' ty' s' (map look fs)) ≡ false
  chains_differ at at' signs signs' ty ty' s s' es fs h k d =
      operator_forms_differ (chain_of at signs ty s (map look es)) (chain_of at' signs' ty' s' (map look fs)) (rw ((chain_form at signs s es ty h).1, (chain_form at' signs' s' fs ty' k).1) d)

  chains_same : (at at' : Place) (signs signs' : List Place) (ty ty' : Ty) (s s' : OperatorKind) (es fs : List ExprId) → chain_fits nodes s es ty ≡ true → chain_fits nodes s' fs ty' ≡ true
      → list_all (λ part. is_tree_of (type_of_node nodes part.0) (look part)) es ≡ true → list_all (λ part. is_tree_of (type_of_node nodes part.0) (look part)) fs ≡ true
      → same (chain_of at signs ty s (map look es)) (chain_of at' signs' ty' s' (map look fs)) ≡ (same_sort s s' (num_type ty).bits (num_type ty').bits && all_same look es fs)
  chains_same at at' signs signs' ty ty' (arithmetic op) (arithmetic op') (e ∷ e2 ∷ es) (d ∷ d2 ∷ ds) h k f g =
      let a = (both_true (is_numeric ty) _ h).1 in
      let b = (both_true (is_numeric ty') _ k).1 in
      num_wholes at at' op op' (num_type ty).bits (num_type ty').bits (num_in (look e)) (num_in (look d)) (look e2) (look d2) (map look es) (map look ds) signs signs'
      ∙ ap (λ z. (same_arith op op' && same_width op (num_type ty).bits (num_type ty').bits) && z) (nums_all (e ∷ e2 ∷ es) (d ∷ d2 ∷ ds) a b f g)
  chains_same at at' signs signs' ty ty' (joining both) (joining both') (e ∷ e2 ∷ es) (d ∷ d2 ∷ ds) h k f g =
      let a = (both_true (is_logical ty) _ h).1 in
      let b = (both_true (is_logical ty') _ k).1 in
      cond_wholes at at' both both' (cond_in (look e)) (cond_in (look d)) (look e2) (look d2) (map look es) (map look ds)
      ∙ ap (λ z. same_truth both both' && z) (conds_all (e ∷ e2 ∷ es) (d ∷ d2 ∷ ds) a b f g)
  chains_same at at' signs signs' ty ty' (ordering op) (ordering op') (e ∷ e2 ∷ []) (d ∷ d2 ∷ []) h k f g =
      let a = (both_true (is_logical ty) _ h).1 in
      let b = (both_true (is_logical ty') _ k).1 in
      let f' = both_true (is_tree_of (type_of_node nodes e.0) (look e)) _ f in
      let g' = both_true (is_tree_of (type_of_node nodes d.0) (look d)) _ g in
      let f2 = both_true (is_tree_of (type_of_node nodes e2.0) (look e2)) _ f'.1 in
      let g2 = both_true (is_tree_of (type_of_node nodes d2.0) (look d2)) _ g'.1 in
      comparisons_same at at' (first_sign at signs) (first_sign at' signs') op op' (look e) (look e2) (look d) (look d2)
      (kinds_compared op (type_of_node nodes e.0) (type_of_node nodes e2.0) (look e) (look e2) a f'.0 f2.0)
      (kinds_compared op' (type_of_node nodes d.0) (type_of_node nodes d2.0) (look d) (look d2) b g'.0 g2.0)
  chains_same at at' signs signs' ty ty' (arithmetic op) (ordering op') es fs h k f g = chains_differ at at' signs signs' ty ty' (arithmetic op) (ordering op') es fs h k refl
  chains_same at at' signs signs' ty ty' (arithmetic op) (joining both') es fs h k f g = chains_differ at at' signs signs' ty ty' (arithmetic op) (joining both') es fs h k refl
  chains_same at at' signs signs' ty ty' (ordering op) (arithmetic op') es fs h k f g = chains_differ at at' signs signs' ty ty' (ordering op) (arithmetic op') es fs h k refl
  chains_same at at' signs signs' ty ty' (ordering op) (joining both') es fs h k f g = chains_differ at at' signs signs' ty ty' (ordering op) (joining both') es fs h k refl
  chains_same at at' signs signs' ty ty' (joining both) (arithmetic op') es fs h k f g = chains_differ at at' signs signs' ty ty' (joining both) (arithmetic op') es fs h k refl
  chains_same at at' signs signs' ty ty' (joining both) (ordering op') es fs h k f g = chains_differ at at' signs signs' ty ty' (joining both) (ordering op') es fs h k refl
  chains_same at at' signs signs' ty ty' s s' es fs h k f g = absurd (cc (h, k))

  -- Slices.
  cuts_same : (base base' : ExprId) (from to from' to' : Option ExprId)
      → is_list (type_of_node nodes base.0) ≡ true → is_list (type_of_node nodes base'.0) ≡ true
      → optional_numeric nodes from ≡ true → optional_numeric nodes to ≡ true → optional_numeric nodes from' ≡ true → optional_numeric nodes to' ≡ true
      → list_all (λ part. is_tree_of (type_of_node nodes part.0) (look part)) (cut_parts base from to) ≡ true
      → list_all (λ part. is_tree_of (type_of_node nodes part.0) (look part)) (cut_parts base' from' to') ≡ true
      → (same_slice (slice_in (look base)) (slice_in (look base')) && (same_end (end_in look from) (end_in look from') && same_end (end_in look to) (end_in look to')))
      ≡ ((same_presence from from' && same_presence to to') && all_same look (cut_parts base from to) (cut_parts base' from' to'))
  cuts_same base base' None None None None l l' p q p' q' f g =
      let x0 = both_true (is_tree_of (type_of_node nodes base.0) (look base)) _ f in
      let y0 = both_true (is_tree_of (type_of_node nodes base'.0) (look base')) _ g in
      rw (lists_same (look base) (look base') (list_tree _ _ l x0.0) (list_tree _ _ l' y0.0)) refl
  cuts_same base base' None None None (Some d) l l' p q p' q' f g = with_false (same_slice (slice_in (look base)) (slice_in (look base')))
  cuts_same base base' None None (Some c) None l l' p q p' q' f g = with_false (same_slice (slice_in (look base)) (slice_in (look base')))
  cuts_same base base' None None (Some c) (Some d) l l' p q p' q' f g = with_false (same_slice (slice_in (look base)) (slice_in (look base')))
  cuts_same base base' None (Some b) None None l l' p q p' q' f g = with_false (same_slice (slice_in (look base)) (slice_in (look base')))
  cuts_same base base' None (Some b) None (Some d) l l' p q p' q' f g =
      let x0 = both_true (is_tree_of (type_of_node nodes base.0) (look base)) _ f in
      let y0 = both_true (is_tree_of (type_of_node nodes base'.0) (look base')) _ g in
      let x1 = both_true (is_tree_of (type_of_node nodes b.0) (look b)) _ x0.1 in
      let y1 = both_true (is_tree_of (type_of_node nodes d.0) (look d)) _ y0.1 in
      rw (lists_same (look base) (look base') (list_tree _ _ l x0.0) (list_tree _ _ l' y0.0), nums_same (look b) (look d) (num_tree _ _ q x1.0) (num_tree _ _ q' y1.0)) (ap (λ z. same (look base) (look base') && z) (sym (with_true (same (look b) (look d)))))
  cuts_same base base' None (Some b) (Some c) None l l' p q p' q' f g = with_false (same_slice (slice_in (look base)) (slice_in (look base')))
  cuts_same base base' None (Some b) (Some c) (Some d) l l' p q p' q' f g = with_false (same_slice (slice_in (look base)) (slice_in (look base')))
  cuts_same base base' (Some a) None None None l l' p q p' q' f g = with_false (same_slice (slice_in (look base)) (slice_in (look base')))
  cuts_same base base' (Some a) None None (Some d) l l' p q p' q' f g = with_false (same_slice (slice_in (look base)) (slice_in (look base')))
  cuts_same base base' (Some a) None (Some c) None l l' p q p' q' f g =
      let x0 = both_true (is_tree_of (type_of_node nodes base.0) (look base)) _ f in
      let y0 = both_true (is_tree_of (type_of_node nodes base'.0) (look base')) _ g in
      let x1 = both_true (is_tree_of (type_of_node nodes a.0) (look a)) _ x0.1 in
      let y1 = both_true (is_tree_of (type_of_node nodes c.0) (look c)) _ y0.1 in
      rw (lists_same (look base) (look base') (list_tree _ _ l x0.0) (list_tree _ _ l' y0.0), nums_same (look a) (look c) (num_tree _ _ p x1.0) (num_tree _ _ p' y1.0)) refl
  cuts_same base base' (Some a) None (Some c) (Some d) l l' p q p' q' f g = sym (false_last (same_slice (slice_in (look base)) (slice_in (look base'))) (same_num (num_in (look a)) (num_in (look c))))
  cuts_same base base' (Some a) (Some b) None None l l' p q p' q' f g = with_false (same_slice (slice_in (look base)) (slice_in (look base')))
  cuts_same base base' (Some a) (Some b) None (Some d) l l' p q p' q' f g = with_false (same_slice (slice_in (look base)) (slice_in (look base')))
  cuts_same base base' (Some a) (Some b) (Some c) None l l' p q p' q' f g = sym (false_last (same_slice (slice_in (look base)) (slice_in (look base'))) (same_num (num_in (look a)) (num_in (look c))))
  cuts_same base base' (Some a) (Some b) (Some c) (Some d) l l' p q p' q' f g =
      let x0 = both_true (is_tree_of (type_of_node nodes base.0) (look base)) _ f in
      let y0 = both_true (is_tree_of (type_of_node nodes base'.0) (look base')) _ g in
      let x1 = both_true (is_tree_of (type_of_node nodes a.0) (look a)) _ x0.1 in
      let y1 = both_true (is_tree_of (type_of_node nodes c.0) (look c)) _ y0.1 in
      let x2 = both_true (is_tree_of (type_of_node nodes b.0) (look b)) _ x1.1 in
      let y2 = both_true (is_tree_of (type_of_node nodes d.0) (look d)) _ y1.1 in
      rw (lists_same (look base) (look base') (list_tree _ _ l x0.0) (list_tree _ _ l' y0.0), nums_same (look a) (look c) (num_tree _ _ p x1.0) (num_tree _ _ p' y1.0), nums_same (look b) (look d) (num_tree _ _ q x2.0) (num_tree _ _ q' y2.0)) (ap (λ z. same (look base) (look base') && (same (look a) (look c) && z)) (sym (with_true (same (look b) (look d)))))

  -- Forms of nodes.
  abbrev pub expr_form : Expr → ℕ
  expr_form (exprs.Number v) = 1
  expr_form (exprs.Const c) = 10
  expr_form (exprs.Status s) = 7
  expr_form (exprs.Truth v) = 8
  expr_form (exprs.Local x) = 0
  expr_form (exprs.Field x) = 0
  expr_form (exprs.Arg x) = 0
  expr_form (exprs.Index base index) = 2
  expr_form (exprs.Cut base from to) = 6
  expr_form (exprs.Chain op parts) = 3
  expr_form (exprs.Convert of to) = 4
  expr_form (exprs.Not of) = 9
  expr_form (exprs.Base on sig) = 5

  pub made_form : (at : Place) (signs : List Place) (ty : Ty) (x : Expr) → kind_fits nodes ty x ≡ true → form (made look at signs ty x) ≡ expr_form x
  made_form at signs ty (exprs.Number v) h = absurd (cc (h))
  made_form at signs ty (exprs.Const c) h = absurd (cc (h))
  made_form at signs ty (exprs.Status s) h = refl
  made_form at signs ty (exprs.Truth v) h = refl
  made_form at signs ty (exprs.Local x) h = variable_form at ty (local x.0) (local_kind nodes look at signs ty x.0 h)
  made_form at signs ty (exprs.Field x) h = variable_form at ty (field x.0) (field_kind nodes look at signs ty x.0 h)
  made_form at signs ty (exprs.Arg x) h = variable_form at ty (arg x.0) (arg_kind nodes look at signs ty x.0 h)
  made_form at signs ty (exprs.Index base index) h = refl
  made_form at signs ty (exprs.Cut base from to) h = refl
  made_form at signs ty (exprs.Chain op parts) h = (chain_form at signs (operator_kind op) parts ty h).0
  made_form at signs ty (exprs.Convert of to) h = refl
  made_form at signs ty (exprs.Not of) h = refl
  made_form at signs ty (exprs.Base on sig) h = answer_form at sig (look on) (both_true (same_mark (row_of sig).mark Pure) _ h).0

  module _ (at at' : Place) (signs signs' : List Place) (ty ty' : Ty) where
    made_differ : (x y : Expr) → kind_fits nodes ty x ≡ true → kind_fits nodes ty' y ≡ true → nat_eq (expr_form x) (expr_form y) ≡ false
        → same (made look at signs ty x) (made look at' signs' ty' y) ≡ false
    made_differ x y h k d = forms_differ (made look at signs ty x) (made look at' signs' ty' y) (rw (made_form at signs ty x h, made_form at' signs' ty' y k) d)

    variables_alike : (p q : Path) → is_tree_of ty (named at ty p) ≡ true → is_tree_of ty' (named at' ty' q) ≡ true
        → same (named at ty p) (named at' ty' q) ≡ ((same_path p q && same_kind ty ty') && true)
    variables_alike p q h k = variables_same at at' ty ty' p q h k ∙ sym (with_true (same_path p q && same_kind ty ty'))

    pub made_same : (x y : Expr) → kind_fits nodes ty x ≡ true → kind_fits nodes ty' y ≡ true → parts_fit nodes look x ≡ true → parts_fit nodes look y ≡ true
        → same (made look at signs ty x) (made look at' signs' ty' y) ≡ (same_head ty ty' x y && all_same look (parts_of x) (parts_of y))
    made_same (exprs.Number v) y h k f g = absurd (cc (h))
    made_same (exprs.Const v) y h k f g = absurd (cc (h))
    made_same x (exprs.Number v) h k f g = absurd (cc (k))
    made_same x (exprs.Const v) h k f g = absurd (cc (k))
    made_same (exprs.Status m) (exprs.Status n) h k f g = sym (with_true (nat_eq m.0 n.0))
    made_same (exprs.Truth b) (exprs.Truth c) h k f g = sym (with_true (same_truth b c))
    made_same (exprs.Local m) (exprs.Local n) h k f g = variables_alike (local m.0) (local n.0) (local_kind nodes look at signs ty m.0 h) (local_kind nodes look at' signs' ty' n.0 k)
    made_same (exprs.Local m) (exprs.Field n) h k f g = variables_alike (local m.0) (field n.0) (local_kind nodes look at signs ty m.0 h) (field_kind nodes look at' signs' ty' n.0 k)
    made_same (exprs.Local m) (exprs.Arg n) h k f g = variables_alike (local m.0) (arg n.0) (local_kind nodes look at signs ty m.0 h) (arg_kind nodes look at' signs' ty' n.0 k)
    made_same (exprs.Field m) (exprs.Local n) h k f g = variables_alike (field m.0) (local n.0) (field_kind nodes look at signs ty m.0 h) (local_kind nodes look at' signs' ty' n.0 k)
    made_same (exprs.Field m) (exprs.Field n) h k f g = variables_alike (field m.0) (field n.0) (field_kind nodes look at signs ty m.0 h) (field_kind nodes look at' signs' ty' n.0 k)
    made_same (exprs.Field m) (exprs.Arg n) h k f g = variables_alike (field m.0) (arg n.0) (field_kind nodes look at signs ty m.0 h) (arg_kind nodes look at' signs' ty' n.0 k)
    made_same (exprs.Arg m) (exprs.Local n) h k f g = variables_alike (arg m.0) (local n.0) (arg_kind nodes look at signs ty m.0 h) (local_kind nodes look at' signs' ty' n.0 k)
    made_same (exprs.Arg m) (exprs.Field n) h k f g = variables_alike (arg m.0) (field n.0) (arg_kind nodes look at signs ty m.0 h) (field_kind nodes look at' signs' ty' n.0 k)
    made_same (exprs.Arg m) (exprs.Arg n) h k f g = variables_alike (arg m.0) (arg n.0) (arg_kind nodes look at signs ty m.0 h) (arg_kind nodes look at' signs' ty' n.0 k)
    made_same (exprs.Index base index) (exprs.Index base' index') h k f g =
        let h' = both_true (is_list (type_of_node nodes base.0)) _ (both_true (is_numeric ty) _ h).1 in
        let k' = both_true (is_list (type_of_node nodes base'.0)) _ (both_true (is_numeric ty') _ k).1 in
        let f' = both_true (is_tree_of (type_of_node nodes base.0) (look base)) _ f in
        let g' = both_true (is_tree_of (type_of_node nodes base'.0) (look base')) _ g in
        let f2 = both_true (is_tree_of (type_of_node nodes index.0) (look index)) _ f'.1 in
        let g2 = both_true (is_tree_of (type_of_node nodes index'.0) (look index')) _ g'.1 in
        two_parts _ _ (same (look base) (look base')) (same (look index) (look index'))
        (lists_same (look base) (look base') (list_tree _ _ h'.0 f'.0) (list_tree _ _ k'.0 g'.0))
        (nums_same (look index) (look index') (num_tree _ _ h'.1 f2.0) (num_tree _ _ k'.1 g2.0))
    made_same (exprs.Cut base from to) (exprs.Cut base' from' to') h k f g =
        let h' = both_true (is_list (type_of_node nodes base.0)) _ (both_true (is_list ty) _ h).1 in
        let k' = both_true (is_list (type_of_node nodes base'.0)) _ (both_true (is_list ty') _ k).1 in
        let h2 = both_true (optional_numeric nodes from) _ h'.1 in
        let k2 = both_true (optional_numeric nodes from') _ k'.1 in
        cuts_same base base' from to from' to' h'.0 k'.0 h2.0 h2.1 k2.0 k2.1 f g
    made_same (exprs.Chain op parts) (exprs.Chain op' parts') h k f g =
        chains_same at at' signs signs' ty ty' (operator_kind op) (operator_kind op') parts parts' h k f g
        ∙ ap (λ z. z && all_same look parts parts') (sym (sorts_same op op' ty ty'))
    made_same (exprs.Convert of to) (exprs.Convert of' to') h k f g =
        let h' = both_true (is_numeric ty) _ h in
        let k' = both_true (is_numeric ty') _ k in
        let f' = both_true (is_tree_of (type_of_node nodes of.0) (look of)) _ f in
        let g' = both_true (is_tree_of (type_of_node nodes of'.0) (look of')) _ g in
        ap (λ z. nat_eq (bits_of to) (bits_of to') && z) (one_part _ (same (look of) (look of')) (nums_same (look of) (look of') (num_tree _ _ h'.1 f'.0) (num_tree _ _ k'.1 g'.0)))
    made_same (exprs.Not of) (exprs.Not of') h k f g =
        let h' = both_true (is_logical ty) _ h in
        let k' = both_true (is_logical ty') _ k in
        let f' = both_true (is_tree_of (type_of_node nodes of.0) (look of)) _ f in
        let g' = both_true (is_tree_of (type_of_node nodes of'.0) (look of')) _ g in
        one_part _ (same (look of) (look of')) (conds_same (look of) (look of') (cond_tree _ _ h'.1 f'.0) (cond_tree _ _ k'.1 g'.0))
    made_same (exprs.Base on sig) (exprs.Base on' sig') h k f g =
        let h' = both_true (same_mark (row_of sig).mark Pure) _ h in
        let k' = both_true (same_mark (row_of sig').mark Pure) _ k in
        let h2 = both_true (has_kind (row_of sig).on (type_of_node nodes on.0)) _ h'.1 in
        let k2 = both_true (has_kind (row_of sig').on (type_of_node nodes on'.0)) _ k'.1 in
        let f' = both_true (is_tree_of (type_of_node nodes on.0) (look on)) _ f in
        let g' = both_true (is_tree_of (type_of_node nodes on'.0) (look on')) _ g in
        answers_same at at' sig sig' (type_of_node nodes on.0) (type_of_node nodes on'.0) (look on) (look on') h'.0 k'.0 h2.0 k2.0 f'.0 g'.0
    made_same x y h k f g = made_differ x y h k refl
