-- What the sides of facts mention.
use Rattle.std.proofs.Common.{◌≡◌, true, ◌&&◌, ◌||◌, refl}
use Rattle.std.proofs.lemmas.Bool.{and_parts}
use Rattle.wf_ast.specs.declared.numbers.ExprId.{ExprId}
use Rattle.wf_ast.specs.declared.things.Thing.{Thing}
use Rattle.wf_ast.specs.declared.types.Ty.{Ty}
use Rattle.wf_ast.specs.declared.types.Ty.TheVariants as types
use Rattle.wf_ast.specs.declared.typed_code.Expr.{Expr}
use Rattle.wf_ast.specs.declared.typed_nodes.TypedNodes.{TypedNodes}
use Rattle.wf_ast.specs.TypedTree.{NumTree, number, ValueTree, numeric, logical, elements, io}
use Rattle.wf_ast.specs.TypedTrees.{made_or_number, tree_of, num_in, cond_in, type_of_node, constant_of_node, place_of_node, signs_of_node}
use Rattle.wf_ast.specs.TypedInvariant.{is_expr, is_numeric, is_logical, is_list, is_io, is_tree_of, node_fits}
use Rattle.wf_ast.specs.Same.{same, same_cond}
use Rattle.wf_ast.specs.Mentions.{mentions, num_mentions, cond_mentions}
use Rattle.wf_ast.specs.NodeKinds.{is_number_at, is_condition_at}
use Rattle.wf_ast.proofs.TreeKinds.{made_or_number_kind}
use Rattle.wf_facts_exprs.specs.Claims.{sum_of, side_mentions, length_in}

-- The tree of a node is of the kind of its type.
pub node_kind : (nodes : TypedNodes) (e : ExprId) (expr : Expr)
    → tree_of nodes e ≡ made_or_number (tree_of nodes) (place_of_node nodes e.0) (signs_of_node nodes e.0) (type_of_node nodes e.0) (constant_of_node nodes e.0) expr
    → node_fits nodes (type_of_node nodes e.0) (constant_of_node nodes e.0) expr ≡ true → is_tree_of (type_of_node nodes e.0) (tree_of nodes e) ≡ true
node_kind nodes e expr made fits =
    rw made (made_or_number_kind nodes (tree_of nodes) (place_of_node nodes e.0) (signs_of_node nodes e.0) (type_of_node nodes e.0) (constant_of_node nodes e.0) expr fits)

logical_trees : (ty ty' : Ty) (t t' : ValueTree) → is_logical ty ≡ true → is_logical ty' ≡ true → is_tree_of ty t ≡ true → is_tree_of ty' t' ≡ true → same t t' ≡ same_cond (cond_in t) (cond_in t')
logical_trees types.Flag types.Flag (logical c) (logical d) h h' k k' = refl
logical_trees types.Flag types.Flag (logical c) t' h h' k k' = absurd (cc (k'))
logical_trees types.Flag types.Flag t t' h h' k k' = absurd (cc (k))
logical_trees types.Flag ty' t t' h h' k k' = absurd (cc (h'))
logical_trees ty ty' t t' h h' k k' = absurd (cc (h))

-- Two conditions are the same where their trees are.
pub conditions_same : (nodes : TypedNodes) (e e' : ExprId) (expr expr' : Expr)
    → tree_of nodes e ≡ made_or_number (tree_of nodes) (place_of_node nodes e.0) (signs_of_node nodes e.0) (type_of_node nodes e.0) (constant_of_node nodes e.0) expr
    → node_fits nodes (type_of_node nodes e.0) (constant_of_node nodes e.0) expr ≡ true
    → tree_of nodes e' ≡ made_or_number (tree_of nodes) (place_of_node nodes e'.0) (signs_of_node nodes e'.0) (type_of_node nodes e'.0) (constant_of_node nodes e'.0) expr'
    → node_fits nodes (type_of_node nodes e'.0) (constant_of_node nodes e'.0) expr' ≡ true → is_condition_at nodes e ≡ true → is_condition_at nodes e' ≡ true
    → same (tree_of nodes e) (tree_of nodes e') ≡ same_cond (cond_in (tree_of nodes e)) (cond_in (tree_of nodes e'))
conditions_same nodes e e' expr expr' made fits made' fits' h h' =
    logical_trees (type_of_node nodes e.0) (type_of_node nodes e'.0) (tree_of nodes e) (tree_of nodes e') (and_parts (is_expr nodes e) _ h).1 (and_parts (is_expr nodes e') _ h').1
    (node_kind nodes e expr made fits) (node_kind nodes e' expr' made' fits')

module _ (x : Thing) where
  number_tree : (ty : Ty) (t : ValueTree) → is_numeric ty ≡ true → is_tree_of ty t ≡ true → mentions t x ≡ num_mentions x (num_in t)
  number_tree (types.Num width lo hi) (numeric t) h k = refl
  number_tree (types.Num width lo hi) t h k = absurd (cc (k))
  number_tree ty t h k = absurd (cc (h))

  condition_tree : (ty : Ty) (t : ValueTree) → is_logical ty ≡ true → is_tree_of ty t ≡ true → mentions t x ≡ cond_mentions x (cond_in t)
  condition_tree types.Flag (logical t) h k = refl
  condition_tree types.Flag t h k = absurd (cc (k))
  condition_tree ty t h k = absurd (cc (h))

  length_tree : (nodes : TypedNodes) (e : ExprId) (ty : Ty) (t : ValueTree) → (is_list ty || is_io ty) ≡ true → is_tree_of ty t ≡ true
      → mentions t x ≡ num_mentions x (length_in nodes e ty t)
  length_tree nodes e types.Reader (io at a) h k = refl
  length_tree nodes e types.Writer (io at a) h k = refl
  length_tree nodes e (types.Slice width) (elements t) h k = refl
  length_tree nodes e (types.Array width lo hi count) (elements t) h k = refl
  length_tree nodes e types.Reader t h k = absurd (cc (k))
  length_tree nodes e types.Writer t h k = absurd (cc (k))
  length_tree nodes e (types.Slice width) t h k = absurd (cc (k))
  length_tree nodes e (types.Array width lo hi count) t h k = absurd (cc (k))
  length_tree nodes e ty t h k = absurd (cc (h))

  pub sum_mentions_is : (a b : NumTree) → side_mentions x (sum_of a b) ≡ (num_mentions x a || num_mentions x b)
  sum_mentions_is (number at m) (number at' n) = refl
  sum_mentions_is a b = refl

  module _ (nodes : TypedNodes) (e : ExprId) (expr : Expr)
      (made : tree_of nodes e ≡ made_or_number (tree_of nodes) (place_of_node nodes e.0) (signs_of_node nodes e.0) (type_of_node nodes e.0) (constant_of_node nodes e.0) expr)
      (fits : node_fits nodes (type_of_node nodes e.0) (constant_of_node nodes e.0) expr ≡ true) where
    pub number_seen : is_number_at nodes e ≡ true → mentions (tree_of nodes e) x ≡ num_mentions x (num_in (tree_of nodes e))
    number_seen h = number_tree (type_of_node nodes e.0) (tree_of nodes e) (and_parts (is_expr nodes e) _ h).1 (node_kind nodes e expr made fits)

    pub condition_seen : is_condition_at nodes e ≡ true → mentions (tree_of nodes e) x ≡ cond_mentions x (cond_in (tree_of nodes e))
    condition_seen h = condition_tree (type_of_node nodes e.0) (tree_of nodes e) (and_parts (is_expr nodes e) _ h).1 (node_kind nodes e expr made fits)

    pub length_seen : (is_expr nodes e && (is_list (type_of_node nodes e.0) || is_io (type_of_node nodes e.0))) ≡ true
        → mentions (tree_of nodes e) x ≡ num_mentions x (length_in nodes e (type_of_node nodes e.0) (tree_of nodes e))
    length_seen h = length_tree nodes e (type_of_node nodes e.0) (tree_of nodes e) (and_parts (is_expr nodes e) _ h).1 (node_kind nodes e expr made fits)
