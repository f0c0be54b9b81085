-- The tree of an expression is of the kind of its type.
use Rattle.std.proofs.Common.{◌≡◌, ℕ, Bool, true, List, [], ◌∷◌, map, Option, Some, None, refl, nat_lt}
use Rattle.std.specs.List.{list_all}
use Rattle.wf_text.specs.declared.place.Place.{Place}
use Rattle.wf_base.specs.declared.marks.Mark.TheVariants.{Pure}
use Rattle.wf_base.specs.declared.base_methods.BaseSig.{BaseSig}
use Rattle.wf_base.specs.declared.base_methods.BaseSig.TheVariants as sigs
use Rattle.wf_base.specs.BaseTable.{row_of}
use Rattle.wf_ast.specs.declared.numbers.ExprId.{ExprId}
use Rattle.wf_ast.specs.declared.types.Ty.{Ty}
use Rattle.wf_ast.specs.declared.types.Ty.TheVariants as types
use Rattle.wf_ast.specs.declared.typed_code.Expr.{Expr}
use Rattle.wf_ast.specs.declared.typed_code.Expr.TheVariants as exprs
use Rattle.wf_ast.specs.declared.typed_nodes.TypedNodes.{TypedNodes}
use Rattle.wf_ast.specs.TypedTree.{NumTree, SliceTree, StatusTree, CondTree, ValueTree, numeric, logical, state, elements, local, field, arg, Order, equal, differs}
use Rattle.wf_ast.specs.TypedTrees.{OperatorKind, arithmetic, ordering, joining, operator_kind, type_of_node, made, made_or_number, named, chain_of, comparison, answer_of}
use Rattle.wf_ast.specs.TypedInvariant.{is_numeric, is_logical, is_state, is_list, is_tree_of, kind_fits, node_fits, chain_fits, is_given, has_kind}
use Rattle.wf_ast.specs.WellTyped.{same_mark}
use Rattle.wf_ast.proofs.Arena.{both_true}

num_kind : (ty : Ty) (t : NumTree) → is_numeric ty ≡ true → is_tree_of ty (numeric t) ≡ true
num_kind (types.Num width lo hi) t h = refl
num_kind ty t h = absurd (cc (h))

cond_kind : (ty : Ty) (t : CondTree) → is_logical ty ≡ true → is_tree_of ty (logical t) ≡ true
cond_kind types.Flag t h = refl
cond_kind ty t h = absurd (cc (h))

state_kind : (ty : Ty) (t : StatusTree) → is_state ty ≡ true → is_tree_of ty (state t) ≡ true
state_kind types.Status t h = refl
state_kind ty t h = absurd (cc (h))

list_kind : (ty : Ty) (t : SliceTree) → is_list ty ≡ true → is_tree_of ty (elements t) ≡ true
list_kind (types.Slice width) t h = refl
list_kind (types.Array width lo hi count) t h = refl
list_kind ty t h = absurd (cc (h))

comparison_kind : (at sign : Place) (ty : Ty) (op : Order) (t u : ValueTree) → is_logical ty ≡ true → is_tree_of ty (comparison at sign op t u) ≡ true
comparison_kind at sign types.Flag equal (state a) u h = refl
comparison_kind at sign types.Flag differs (state a) u h = refl
comparison_kind at sign types.Flag op t u h = refl
comparison_kind at sign ty op t u h = absurd (cc (h))

answer_kind : (at : Place) (sig : BaseSig) (ty : Ty) (t : ValueTree) → same_mark (row_of sig).mark Pure ≡ true → is_given (row_of sig).gives ty ≡ true
    → is_tree_of ty (answer_of at sig t) ≡ true
answer_kind at sigs.ReaderLength ty t h k = num_kind ty _ k
answer_kind at sigs.ReaderIsClosed ty t h k = cond_kind ty _ k
answer_kind at sigs.ReaderPosition ty t h k = num_kind ty _ k
answer_kind at (sigs.Peek form) ty t h k = num_kind ty _ k
answer_kind at sigs.WriterLength ty t h k = num_kind ty _ k
answer_kind at sigs.WriterPosition ty t h k = num_kind ty _ k
answer_kind at (sigs.SliceLength width) ty t h k = num_kind ty _ k
answer_kind at (sigs.ArrayLength width) ty t h k = num_kind ty _ k
answer_kind at sigs.IsOk ty t h k = cond_kind ty _ k
answer_kind at sigs.IsNote ty t h k = cond_kind ty _ k
answer_kind at sigs.IsSuspension ty t h k = cond_kind ty _ k
answer_kind at sigs.IsError ty t h k = cond_kind ty _ k
answer_kind at sig ty t h k = absurd (cc (h))

module _ (nodes : TypedNodes) (look : ExprId → ValueTree) (at : Place) (signs : List Place) where
  chain_kind : (sort : OperatorKind) (es : List ExprId) (ty : Ty) → chain_fits nodes sort es ty ≡ true → is_tree_of ty (chain_of at signs ty sort (map look es)) ≡ true
  chain_kind (arithmetic op) (e ∷ f ∷ es) ty h = num_kind ty _ (both_true (is_numeric ty) _ h).0
  chain_kind (joining both) (e ∷ f ∷ es) ty h = cond_kind ty _ (both_true (is_logical ty) _ h).0
  chain_kind (ordering op) (e ∷ f ∷ []) ty h = comparison_kind at _ ty op (look e) (look f) (both_true (is_logical ty) _ h).0
  chain_kind sort es ty h = absurd (cc (h))

  pub local_kind : (ty : Ty) (n : ℕ) → kind_fits nodes ty (exprs.Local (record { 0 = n })) ≡ true → is_tree_of ty (named at ty (local n)) ≡ true
  local_kind (types.Num width lo hi) n h = refl
  local_kind types.Flag n h = refl
  local_kind types.Status n h = refl
  local_kind (types.Slice width) n h = refl
  local_kind (types.Array width lo hi count) n h = refl
  local_kind ty n h = absurd (cc (h))

  pub field_kind : (ty : Ty) (n : ℕ) → kind_fits nodes ty (exprs.Field (record { 0 = n })) ≡ true → is_tree_of ty (named at ty (field n)) ≡ true
  field_kind (types.Num width lo hi) n h = refl
  field_kind types.Flag n h = refl
  field_kind types.Status n h = refl
  field_kind (types.Slice width) n h = refl
  field_kind (types.Array width lo hi count) n h = refl
  field_kind ty n h = absurd (cc (h))

  pub arg_kind : (ty : Ty) (n : ℕ) → kind_fits nodes ty (exprs.Arg (record { 0 = n })) ≡ true → is_tree_of ty (named at ty (arg n)) ≡ true
  arg_kind (types.Num width lo hi) n h = refl
  arg_kind types.Flag n h = refl
  arg_kind (types.Slice width) n h = refl
  arg_kind (types.Array width lo hi count) n h = refl
  arg_kind types.Reader n h = refl
  arg_kind types.Writer n h = refl
  arg_kind ty n h = absurd (cc (h))

  made_kind : (ty : Ty) (expr : Expr) → kind_fits nodes ty expr ≡ true → is_tree_of ty (made look at signs ty expr) ≡ true
  made_kind ty (exprs.Number v) h = absurd (cc (h))
  made_kind ty (exprs.Const c) h = absurd (cc (h))
  made_kind ty (exprs.Status s) h = state_kind ty _ (both_true (is_state ty) _ h).0
  made_kind ty (exprs.Truth v) h = cond_kind ty _ h
  made_kind ty (exprs.Local x) h = local_kind ty x.0 h
  made_kind ty (exprs.Field x) h = field_kind ty x.0 h
  made_kind ty (exprs.Arg x) h = arg_kind ty x.0 h
  made_kind ty (exprs.Index base index) h = num_kind ty _ (both_true (is_numeric ty) _ h).0
  made_kind ty (exprs.Cut base from to) h = list_kind ty _ (both_true (is_list ty) _ h).0
  made_kind ty (exprs.Chain op parts) h = chain_kind (operator_kind op) parts ty h
  made_kind ty (exprs.Convert of to) h = num_kind ty _ (both_true (is_numeric ty) _ h).0
  made_kind ty (exprs.Not of) h = cond_kind ty _ (both_true (is_logical ty) _ h).0
  made_kind ty (exprs.Base on sig) h =
      let p = both_true (same_mark (row_of sig).mark Pure) _ h in
      answer_kind at sig ty (look on) p.0 (both_true (has_kind (row_of sig).on (type_of_node nodes on.0)) _ p.1).1

  -- The tree of a node that fits its type is of that type's kind.
  pub made_or_number_kind : (ty : Ty) (number : Option ℕ) (expr : Expr) → node_fits nodes ty number expr ≡ true → is_tree_of ty (made_or_number look at signs ty number expr) ≡ true
  made_or_number_kind ty None expr h = made_kind ty expr h
  made_or_number_kind ty (Some v) expr h = num_kind ty _ (both_true (is_numeric ty) _ h).0

-- What holds of each number below a bound holds of each part.
pub all_below : (test : ExprId → Bool) (n : ℕ) (es : List ExprId) → list_all (λ part. nat_lt part.0 n) es ≡ true
    → ((e : ExprId) → nat_lt e.0 n ≡ true → test e ≡ true) → list_all test es ≡ true
all_below test n [] h each = refl
all_below test n (e ∷ es) h each =
    let p = both_true (nat_lt e.0 n) _ h in
    rw (each e p.0) (all_below test n es p.1 each)
