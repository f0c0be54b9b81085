-- What has another kind than the one that is wanted stands as a tree that no typed package has.
use Rattle.std.proofs.Common.{◌≡◌, Bool, ◌&&◌, true, false, Result, IfOk, refl, subst}
use Rattle.std.specs.Prelude.{bytes_eq}
use Rattle.std.proofs.lemmas.Slice.Eq.{bytes_eq-Decides}
use Rattle.wf_text.specs.declared.faults.NoMemory.{NoMemory}
use Rattle.wf_ast.specs.declared.numbers.ExprId.{ExprId}
use Rattle.wf_ast.specs.declared.types.Ty.{Ty}
use Rattle.wf_ast.specs.declared.types.Ty.TheVariants as types
use Rattle.wf_ast.specs.declared.typed_nodes.TypedNodes.{TypedNodes}
use Rattle.wf_ast.specs.TypedTree.{local, equal, compare, slice, ValueTree, numeric, logical, state, elements, io, lost}
use Rattle.wf_ast.specs.TypedTrees.{no_number, no_place, num_in, cond_in, slice_in, tree_of, type_of_node}
use Rattle.wf_ast.specs.TypedInvariant.{IsTyped, is_expr, is_numeric, is_logical, is_list, is_tree_of}
use Rattle.wf_ast.specs.NodeKinds.{is_number_at, is_condition_at, is_slice_at, node_number, node_cond, node_slice}
use Rattle.c_text.specs.declared.kinds.COp.TheVariants.{Add, Eq}
use Rattle.c_text.specs.CNodes.{Nodes}
use Rattle.wf_exprs.specs.declared.rated.Pair.{Pair as PairNode}
use Rattle.wf_exprs.specs.Names.{Names, local_name}
use Rattle.wf_exprs.specs.Words.{num, two}
use Rattle.wf_exprs.specs.Exprs.{Pair, path_code, lowered_cond}
use Rattle.wf_exprs.specs.Making.{HasPair}
use Rattle.wf_lower_stmts.proofs.PlaceLaws.{kind_at}

second_false : (a b : Bool) → a ≡ true → (a && b) ≡ false → b ≡ false
second_false true b h k = k
second_false false b h k = absurd (cc h)

none_numeric : (v : ValueTree) (ty : Ty) → is_tree_of ty v ≡ true → is_numeric ty ≡ false → num_in v ≡ no_number
none_numeric (numeric t) (types.Num width lo hi) h k = absurd (cc k)
none_numeric (numeric t) types.Flag h k = absurd (cc h)
none_numeric (numeric t) types.Status h k = absurd (cc h)
none_numeric (numeric t) types.Reader h k = absurd (cc h)
none_numeric (numeric t) types.Writer h k = absurd (cc h)
none_numeric (numeric t) (types.Slice width) h k = absurd (cc h)
none_numeric (numeric t) (types.Array width lo hi count) h k = absurd (cc h)
none_numeric (numeric t) (types.Part s) h k = absurd (cc h)
none_numeric (logical t) ty h k = refl
none_numeric (state t) ty h k = refl
none_numeric (elements t) ty h k = refl
none_numeric (io at a) ty h k = refl
none_numeric lost ty h k = refl

none_logical : (v : ValueTree) (ty : Ty) → is_tree_of ty v ≡ true → is_logical ty ≡ false → cond_in v ≡ compare no_place no_place no_number equal no_number
none_logical (numeric t) ty h k = refl
none_logical (logical t) (types.Num width lo hi) h k = absurd (cc h)
none_logical (logical t) types.Flag h k = absurd (cc k)
none_logical (logical t) types.Status h k = absurd (cc h)
none_logical (logical t) types.Reader h k = absurd (cc h)
none_logical (logical t) types.Writer h k = absurd (cc h)
none_logical (logical t) (types.Slice width) h k = absurd (cc h)
none_logical (logical t) (types.Array width lo hi count) h k = absurd (cc h)
none_logical (logical t) (types.Part s) h k = absurd (cc h)
none_logical (state t) ty h k = refl
none_logical (elements t) ty h k = refl
none_logical (io at a) ty h k = refl
none_logical lost ty h k = refl

none_list : (v : ValueTree) (ty : Ty) → is_tree_of ty v ≡ true → is_list ty ≡ false → slice_in v ≡ slice no_place 0 (local 0)
none_list (numeric t) ty h k = refl
none_list (logical t) ty h k = refl
none_list (state t) ty h k = refl
none_list (elements t) (types.Num width lo hi) h k = absurd (cc h)
none_list (elements t) types.Flag h k = absurd (cc h)
none_list (elements t) types.Status h k = absurd (cc h)
none_list (elements t) types.Reader h k = absurd (cc h)
none_list (elements t) types.Writer h k = absurd (cc h)
none_list (elements t) (types.Slice width) h k = absurd (cc k)
none_list (elements t) (types.Array width lo hi count) h k = absurd (cc k)
none_list (elements t) (types.Part s) h k = absurd (cc h)
none_list (io at a) ty h k = refl
none_list lost ty h k = refl

module _ (nodes : TypedNodes) (typed : IsTyped nodes) (e : ExprId) (known : is_expr nodes e ≡ true) where
  pub no_number_at : is_number_at nodes e ≡ false → node_number nodes e ≡ no_number
  no_number_at h = none_numeric (tree_of nodes e) (type_of_node nodes e.0) (kind_at nodes typed e known) (second_false (is_expr nodes e) (is_numeric (type_of_node nodes e.0)) known h)

  pub no_condition_at : is_condition_at nodes e ≡ false → node_cond nodes e ≡ compare no_place no_place no_number equal no_number
  no_condition_at h = none_logical (tree_of nodes e) (type_of_node nodes e.0) (kind_at nodes typed e known) (second_false (is_expr nodes e) (is_logical (type_of_node nodes e.0)) known h)

  pub no_slice_at : is_slice_at nodes e ≡ false → node_slice nodes e ≡ slice no_place 0 (local 0)
  no_slice_at h = none_list (tree_of nodes e) (type_of_node nodes e.0) (kind_at nodes typed e known) (second_false (is_expr nodes e) (is_list (type_of_node nodes e.0)) known h)

-- What stands for no condition: a variable that is compared with itself.
pub no_condition_code : (names : Names) → lowered_cond names (compare no_place no_place no_number equal no_number) ≡ two Eq (two Add (path_code names (local 0)) (num 0)) (path_code names (local 0))
no_condition_code names =
    let name = local_name names 0 in
    let same : bytes_eq name name ≡ true = (bytes_eq-Decides name name).1 refl in
    rw same refl

-- The same slice in other words.
pub retell_pair : (u : Nodes) (x y : Pair) (r : Result PairNode NoMemory) → x ≡ y → IfOk r (λ it. HasPair u it x) → IfOk r (λ it. HasPair u it y)
retell_pair u x y r e h = let P : Pair → Type 0 = λ z. IfOk r (λ it. HasPair u it z) in subst P e h
