-- A part that isn't of the kind that is wanted stands for the first local.
use Rattle.std.proofs.Common.{◌≡◌, ℕ, ◌<◌, true, false, length, Option, Some, None, refl, ap, nat_eq, nat_lt, arith}
use Rattle.std.specs.Prelude.{option_map, option_and_then}
use Rattle.std.proofs.lemmas.Bool.Decides.{nat_tests}
use Rattle.wf_ast.specs.declared.numbers.ExprId.{ExprId}
use Rattle.wf_ast.specs.declared.types.Ty.{Ty}
use Rattle.wf_ast.specs.declared.types.Ty.TheVariants as types
use Rattle.wf_ast.specs.declared.typed_nodes.TypedNodes.{TypedNodes}
use Rattle.wf_ast.specs.TypedTree.{local, equal, ValueTree, numeric, logical, state, elements, io, lost}
use Rattle.wf_ast.specs.TypedTrees.{num_in, cond_in, slice_in, io_in, tree_of, type_of_node}
use Rattle.wf_ast.specs.TypedInvariant.{IsTyped, is_expr, is_numeric, is_logical, is_list, is_io, is_tree_of}
use Rattle.wf_ast.specs.Value.{State, value, truth_of, span_of, compares}
use Rattle.wf_ast.specs.NodeKinds.{node_cond, node_number, node_slice}
use Rattle.wf_ast.proofs.Accessors.{tree_kind}
use Rattle.wf_mean_stmts.specs.Entries.{itself}

lt_from : (m n : ℕ) → nat_lt m n ≡ true → m < n
lt_from m n h = grind (arith, nat_tests, h)

same_number : (n : ℕ) → nat_eq n n ≡ true
same_number n = grind (arith, nat_tests)

with_itself : (o : Option ℕ) → option_and_then (λ m. option_map (compares equal m) o) o ≡ itself o
with_itself None = refl
with_itself (Some n) = ap Some (same_number n)

no_number : (s : State) (ty : Ty) (t : ValueTree) → is_tree_of ty t ≡ true → is_numeric ty ≡ false → value s (num_in t) ≡ s.number_at (local 0)
no_number s (types.Num width lo hi) t h k = absurd (cc (k))
no_number s ty (numeric t) h k = absurd (numeric_only ty t h k)
  where
    numeric_only : (ty : Ty) (t : _) → is_tree_of ty (numeric t) ≡ true → is_numeric ty ≡ false → ⊥
    numeric_only (types.Num width lo hi) t h k = cc k
    numeric_only ty t h k = cc h
no_number s ty (logical t) h k = refl
no_number s ty (state t) h k = refl
no_number s ty (elements t) h k = refl
no_number s ty (io at a) h k = refl
no_number s ty lost h k = refl

no_slice : (s : State) (ty : Ty) (t : ValueTree) → is_tree_of ty t ≡ true → is_list ty ≡ false → span_of s (slice_in t) ≡ s.span_at (local 0)
no_slice s (types.Slice width) t h k = absurd (cc (k))
no_slice s (types.Array width lo hi count) t h k = absurd (cc (k))
no_slice s ty (elements t) h k = absurd (cc (h))
no_slice s ty (numeric t) h k = refl
no_slice s ty (logical t) h k = refl
no_slice s ty (state t) h k = refl
no_slice s ty (io at a) h k = refl
no_slice s ty lost h k = refl

no_condition : (s : State) (ty : Ty) (t : ValueTree) → is_tree_of ty t ≡ true → is_logical ty ≡ false → truth_of s (cond_in t) ≡ itself (s.number_at (local 0))
no_condition s types.Flag t h k = absurd (cc (k))
no_condition s ty (logical t) h k = absurd (cc (h))
no_condition s ty (numeric t) h k = with_itself (s.number_at (local 0))
no_condition s ty (elements t) h k = with_itself (s.number_at (local 0))
no_condition s ty (state t) h k = with_itself (s.number_at (local 0))
no_condition s ty (io at a) h k = with_itself (s.number_at (local 0))
no_condition s ty lost h k = with_itself (s.number_at (local 0))

no_io : (ty : Ty) (t : ValueTree) → is_tree_of ty t ≡ true → is_io ty ≡ false → io_in t ≡ 0
no_io types.Reader t h k = absurd (cc (k))
no_io types.Writer t h k = absurd (cc (k))
no_io ty (io at a) h k = absurd (cc (h))
no_io ty (numeric t) h k = refl
no_io ty (elements t) h k = refl
no_io ty (logical t) h k = refl
no_io ty (state t) h k = refl
no_io ty lost h k = refl

module _ (nodes : TypedNodes) (typed : IsTyped nodes) (e : ExprId) (there : is_expr nodes e ≡ true) where
  kind : is_tree_of (type_of_node nodes e.0) (tree_of nodes e) ≡ true
  kind = tree_kind nodes typed e (lt_from e.0 (length nodes.exprs) there)

  pub no_number_there : (s : State) → is_numeric (type_of_node nodes e.0) ≡ false → value s (node_number nodes e) ≡ s.number_at (local 0)
  no_number_there s h = no_number s (type_of_node nodes e.0) (tree_of nodes e) kind h

  pub no_slice_there : (s : State) → is_list (type_of_node nodes e.0) ≡ false → span_of s (node_slice nodes e) ≡ s.span_at (local 0)
  no_slice_there s h = no_slice s (type_of_node nodes e.0) (tree_of nodes e) kind h

  pub no_condition_there : (s : State) → is_logical (type_of_node nodes e.0) ≡ false → truth_of s (node_cond nodes e) ≡ itself (s.number_at (local 0))
  no_condition_there s h = no_condition s (type_of_node nodes e.0) (tree_of nodes e) kind h

  pub no_io_there : is_io (type_of_node nodes e.0) ≡ false → io_in (tree_of nodes e) ≡ 0
  no_io_there h = no_io (type_of_node nodes e.0) (tree_of nodes e) kind h
