-- What a side is, told by the nodes of its parts: so that two sides are compared by comparing two nodes at most twice.
use Rattle.std.specs.Prelude.{◌≡◌, ◌^◌, Bool, true, false, ◌&&◌, nat_lt, List, [], ◌∷◌, Option, None, Some}
use Rattle.wf_base.specs.declared.base_methods.BaseSig.{BaseSig}
use Rattle.wf_base.specs.declared.base_methods.BaseSig.TheVariants as sigs
use Rattle.wf_ast.specs.declared.operators.Op.{Op}
use Rattle.wf_ast.specs.declared.operators.Op.TheVariants as ops
use Rattle.wf_ast.specs.declared.numbers.ExprId.{ExprId}
use Rattle.wf_ast.specs.declared.typed_nodes.TypedNodes.{TypedNodes}
use Rattle.wf_ast.specs.TypedTree.{NumTree, number, link, length_of, asked, plus, reader_length, writer_length}
use Rattle.wf_ast.specs.TypedTrees.{no_place, num_in, slice_in, io_in, tree_of, type_of_node}
use Rattle.wf_ast.specs.TypedInvariant.{is_expr, is_list, is_io}
use Rattle.wf_ast.specs.Same.{same_num}
use Rattle.wf_ast.specs.NodeKinds.{is_number_at}
use Rattle.wf_facts_exprs.specs.declared.shapes.Measured.{Measured}
use Rattle.wf_facts_exprs.specs.declared.shapes.Measured.TheVariants.{Elements, Unread, Room}
use Rattle.wf_facts_exprs.specs.declared.shapes.Shape.{Shape}
use Rattle.wf_facts_exprs.specs.declared.shapes.Shape.TheVariants as shapes

abbrev pub length_tree : TypedNodes → Measured → ExprId → NumTree
length_tree nodes Elements e = length_of no_place (slice_in (tree_of nodes e))
length_tree nodes Unread e = asked no_place reader_length (io_in (tree_of nodes e))
length_tree nodes Room e = asked no_place writer_length (io_in (tree_of nodes e))

-- A tree that has this shape, at no place.
abbrev pub shape_tree : TypedNodes → Shape → NumTree
shape_tree nodes (shapes.Number n) = number no_place n
shape_tree nodes (shapes.Length of on) = length_tree nodes of on
shape_tree nodes (shapes.Sum a b) = link no_place no_place plus 0 false (num_in (tree_of nodes a)) (num_in (tree_of nodes b))
shape_tree nodes (shapes.Other e) = num_in (tree_of nodes e)

-- The tree is no number, no length and no sum of two.
abbrev pub is_plain : NumTree → Bool
is_plain (number at n) = false
is_plain (link at sign plus bits false a b) = false
is_plain (length_of at cells) = false
is_plain (asked at reader_length a) = false
is_plain (asked at writer_length a) = false
is_plain t = true

abbrev pub is_measured : TypedNodes → Measured → ExprId → Bool
is_measured nodes Elements e = is_expr nodes e && is_list (type_of_node nodes e.0)
is_measured nodes Unread e = is_expr nodes e && is_io (type_of_node nodes e.0)
is_measured nodes Room e = is_expr nodes e && is_io (type_of_node nodes e.0)

abbrev pub shape_fits : TypedNodes → Shape → Bool
shape_fits nodes (shapes.Number n) = nat_lt n (2 ^ 66)
shape_fits nodes (shapes.Length of on) = is_measured nodes of on
shape_fits nodes (shapes.Sum a b) = is_number_at nodes a && is_number_at nodes b
shape_fits nodes (shapes.Other e) = is_plain (num_in (tree_of nodes e)) && is_number_at nodes e

-- A `+` between two operands.
abbrev pub is_sum_of_two : Op → List ExprId → Bool
is_sum_of_two ops.Add (a ∷ b ∷ []) = true
is_sum_of_two op parts = false

-- What a base method measures.
abbrev pub measured_by : BaseSig → Option Measured
measured_by sigs.ReaderLength = Some Unread
measured_by sigs.WriterLength = Some Room
measured_by (sigs.SliceLength width) = Some Elements
measured_by (sigs.ArrayLength width) = Some Elements
measured_by sig = None

-- The trees are the same as the same trees.
pub record Alike (t u : NumTree) : Type 0 where
  pub left : (x : NumTree) → same_num t x ≡ same_num u x
  pub right : (x : NumTree) → same_num x t ≡ same_num x u
