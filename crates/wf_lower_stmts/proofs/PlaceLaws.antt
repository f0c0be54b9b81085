-- Of a writer, and of every other argument: its place and its end.
use Rattle.std.proofs.Common.{◌≡◌, true, false, Some, None, refl, codes, arith}
use Rattle.std.proofs.lemmas.Bool.Decides.{nat_tests}
use Rattle.wf_ast.specs.declared.numbers.ExprId.{ExprId}
use Rattle.wf_ast.specs.declared.typed_nodes.TypedNodes.{TypedNodes}
use Rattle.wf_ast.specs.TypedInvariant.{IsTyped, is_expr, is_tree_of}
use Rattle.wf_ast.specs.TypedTree.{ValueTree, numeric, logical, state, elements, io, lost}
use Rattle.wf_ast.specs.TypedTrees.{io_in, tree_of, type_of_node}
use Rattle.wf_ast.proofs.Accessors.{tree_kind}
use Rattle.wf_ast.specs.declared.types.Ty.{Ty}
use Rattle.wf_ast.specs.declared.types.Ty.TheVariants as types
use Rattle.wf_ast.specs.WellTyped.{io_handed, is_writer}
use Rattle.c_text.specs.CTree.{ExprTree, member}
use Rattle.wf_lower_stmts.specs.Forms.{is_io, place_in, end_of}

pub place_of_writer : (b : ExprTree) (ty : Ty) → is_writer (Some ty) ≡ true → place_in b ty ≡ member b (codes "wi")
place_of_writer b (types.Num width lo hi) h = absurd (cc h)
place_of_writer b types.Flag h = absurd (cc h)
place_of_writer b types.Status h = absurd (cc h)
place_of_writer b types.Reader h = absurd (cc h)
place_of_writer b types.Writer h = refl
place_of_writer b (types.Slice width) h = absurd (cc h)
place_of_writer b (types.Array width lo hi count) h = absurd (cc h)
place_of_writer b (types.Part s) h = absurd (cc h)

pub place_of_other : (b : ExprTree) (ty : Ty) → is_writer (Some ty) ≡ false → place_in b ty ≡ member b (codes "ri")
place_of_other b (types.Num width lo hi) h = refl
place_of_other b types.Flag h = refl
place_of_other b types.Status h = refl
place_of_other b types.Reader h = refl
place_of_other b types.Writer h = absurd (cc h)
place_of_other b (types.Slice width) h = refl
place_of_other b (types.Array width lo hi count) h = refl
place_of_other b (types.Part s) h = refl

pub end_of_writer : (b : ExprTree) (ty : Ty) → is_writer (Some ty) ≡ true → end_of b ty ≡ end_of b types.Writer
end_of_writer b (types.Num width lo hi) h = absurd (cc h)
end_of_writer b types.Flag h = absurd (cc h)
end_of_writer b types.Status h = absurd (cc h)
end_of_writer b types.Reader h = absurd (cc h)
end_of_writer b types.Writer h = refl
end_of_writer b (types.Slice width) h = absurd (cc h)
end_of_writer b (types.Array width lo hi count) h = absurd (cc h)
end_of_writer b (types.Part s) h = absurd (cc h)

pub end_of_other : (b : ExprTree) (ty : Ty) → is_writer (Some ty) ≡ false → end_of b ty ≡ member b (codes "wi")
end_of_other b (types.Num width lo hi) h = refl
end_of_other b types.Flag h = refl
end_of_other b types.Status h = refl
end_of_other b types.Reader h = refl
end_of_other b types.Writer h = absurd (cc h)
end_of_other b (types.Slice width) h = refl
end_of_other b (types.Array width lo hi count) h = refl
end_of_other b (types.Part s) h = refl

-- The tree of an expression is of the kind of its type.
pub kind_at : (nodes : TypedNodes) → IsTyped nodes → (e : ExprId) → is_expr nodes e ≡ true → is_tree_of (type_of_node nodes e.0) (tree_of nodes e) ≡ true
kind_at nodes typed e h = tree_kind nodes typed e (grind (arith, nat_tests, h))

-- Readers and writers, and what is none.
pub io_some : (ty : Ty) (v : ValueTree) → is_io ty ≡ true → is_tree_of ty v ≡ true → io_handed v ≡ Some (io_in v)
io_some (types.Num width lo hi) v h k = absurd (cc h)
io_some types.Flag v h k = absurd (cc h)
io_some types.Status v h k = absurd (cc h)
io_some (types.Slice width) v h k = absurd (cc h)
io_some (types.Array width lo hi count) v h k = absurd (cc h)
io_some (types.Part s) v h k = absurd (cc h)
io_some types.Reader (numeric t) h k = absurd (cc k)
io_some types.Reader (logical t) h k = absurd (cc k)
io_some types.Reader (state t) h k = absurd (cc k)
io_some types.Reader (elements t) h k = absurd (cc k)
io_some types.Reader (io at a) h k = refl
io_some types.Reader lost h k = absurd (cc k)
io_some types.Writer (numeric t) h k = absurd (cc k)
io_some types.Writer (logical t) h k = absurd (cc k)
io_some types.Writer (state t) h k = absurd (cc k)
io_some types.Writer (elements t) h k = absurd (cc k)
io_some types.Writer (io at a) h k = refl
io_some types.Writer lost h k = absurd (cc k)

pub io_none : (ty : Ty) (v : ValueTree) → is_io ty ≡ false → is_tree_of ty v ≡ true → io_handed v ≡ None
io_none ty (numeric t) h k = refl
io_none ty (logical t) h k = refl
io_none ty (state t) h k = refl
io_none ty (elements t) h k = refl
io_none ty lost h k = refl
io_none types.Reader (io at a) h k = absurd (cc h)
io_none types.Writer (io at a) h k = absurd (cc h)
io_none (types.Num width lo hi) (io at a) h k = absurd (cc k)
io_none types.Flag (io at a) h k = absurd (cc k)
io_none types.Status (io at a) h k = absurd (cc k)
io_none (types.Slice width) (io at a) h k = absurd (cc k)
io_none (types.Array width lo hi count) (io at a) h k = absurd (cc k)
io_none (types.Part s) (io at a) h k = absurd (cc k)
