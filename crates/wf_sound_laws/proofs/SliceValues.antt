-- Slices that are values have elements that may be all numbers of their width: only a whole array may have others, and it is
-- no value.
use Rattle.std.proofs.Common.{◌≡◌, ℕ, ◌-◌, ◌^◌, Bool, true, false, List, [], ◌∷◌, Option, Some, None, refl}
use Rattle.std.specs.Bool.{⊤}
use Rattle.wf_text.specs.declared.place.Place.{Place}
use Rattle.wf_base.specs.declared.widths.Width.{Width}
use Rattle.wf_base.specs.declared.base_methods.BaseSig.{BaseSig}
use Rattle.wf_base.specs.declared.base_methods.BaseSig.TheVariants as sigs
use Rattle.wf_base.specs.declared.base_methods.Kind.TheVariants as kinds
use Rattle.wf_base.specs.BaseTable.{bits_of}
use Rattle.wf_ast.specs.declared.types.Ty.{Ty}
use Rattle.wf_ast.specs.declared.types.Ty.TheVariants as types
use Rattle.wf_ast.specs.TypedTree.{Path, arg, Order, equal, differs, less, at_most, greater, at_least, SliceTree, slice, array, cut, ValueTree, numeric, logical, state, elements, io, lost, Target, to_slice}
use Rattle.wf_ast.specs.TypedTrees.{OperatorKind, arithmetic, ordering, joining, slice_in, named, comparison, chain_of, answer_of}
use Rattle.wf_ast.specs.WellTyped.{Context, type_at, is_unrefined, is_slice, element_type, well_slice, fits_type, may_write, well_assigned}
use Rattle.wf_named.specs.declared.nodes.NamedCallee.TheVariants as callees
use Rattle.wf_named.specs.declared.nodes.Variable.{Variable}
use Rattle.wf_named.specs.NamedTree.{NamedExprTree, number, status, truth, path, index, answer, chain, convert, negation, NamedCallTree, call}
use Rattle.wf_named.specs.NamedTree as resolved
use Rattle.wf_named.specs.WellNamed.{has_kind}
use Rattle.wf_types_rules.specs.declared.meanings.Meaning.{Meaning}
use Rattle.wf_types_rules.specs.declared.meanings.Meaning.TheVariants as meanings
use Rattle.wf_types_rules.specs.declared.settings.Setting.{Setting}
use Rattle.wf_types_rules.specs.Meanings.{variable, is_value}
use Rattle.wf_types_rules.specs.ExprTypes.{number_of}
use Rattle.wf_types_rules.specs.Judgements.{fails, may_be_handed}
use Rattle.wf_typed_tree.specs.ElaboratedExprs.{path_to, variable_tree, number_or, answer_tree, expr_tree}
use Rattle.wf_typed_tree.specs.MeaningTrees.{kind_meant}
use Rattle.wf_typed_tree.proofs.NumberLemmas.{both, same-self}
use Rattle.wf_sound.specs.Positions.{is_slice_value}

-- A value with elements, and the whole arrays among them.
abbrev is_elements : ValueTree → Bool
is_elements (elements t) = true
is_elements t = false

abbrev pub is_whole_array : ValueTree → Bool
is_whole_array (elements (array at of count to)) = true
is_whole_array t = false

pub none-handed : (v : ValueTree) → is_elements v ≡ false → is_slice_value v ≡ true
none-handed (elements t) h = absurd (cc h)
none-handed v h = refl

none-whole : (v : ValueTree) → is_elements v ≡ false → is_whole_array v ≡ false
none-whole (elements t) h = absurd (cc h)
none-whole v h = refl

-- Everything else with elements keeps to all numbers of their width.
width-unrefined : (bits : ℕ) → is_unrefined (record { bits = bits; low = 0; high = 2 ^ bits - 1 }) ≡ true
width-unrefined bits = same-self (2 ^ bits - 1)

cells-unrefined : (c : Context) (t : SliceTree) → well_slice c t ≡ true → is_whole_array (elements t) ≡ false → is_unrefined (element_type t) ≡ true
cells-unrefined c (slice at bits to) h k = width-unrefined bits
cells-unrefined c (array at of count to) h k = absurd (cc k)
cells-unrefined c (cut at cells from to) h k = (both (is_unrefined (element_type cells)) _ h).0

pub fitting-slice : (c : Context) (ty : Ty) (v : ValueTree) → fits_type c ty v ≡ true → is_whole_array v ≡ false → is_slice_value v ≡ true
fitting-slice c (types.Slice width) (elements t) h k = cells-unrefined c t (both (well_slice c t) _ h).0 k
fitting-slice c ty (elements t) h k = absurd (cc h)
fitting-slice c ty v h k = refl

pub assigned-slice : (c : Context) (target : Target) (v : ValueTree) → well_assigned c target v ≡ true → is_whole_array v ≡ false → is_slice_value v ≡ true
assigned-slice c (to_slice at bits to) (elements t) h k =
    let written = both (may_write c.method.mark to) _ h in
    let taken = both (is_slice bits (type_at c to)) _ written.1 in
    cells-unrefined c t (both (well_slice c t) _ taken.1).0 k
assigned-slice c target (elements t) h k = absurd (cc h)
assigned-slice c target v h k = refl

-- A path to an array, and to nothing else, is a whole array.
abbrev is_array_meant : Option Meaning → Bool
is_array_meant (Some (meanings.Typed (types.Array width lo hi count))) = true
is_array_meant m = false

pub value-meant : (o : Option Meaning) → fails is_value o ≡ false → is_array_meant o ≡ false
value-meant (Some (meanings.Typed (types.Array width lo hi count))) h = absurd (cc h)
value-meant o h = refl

pub handed-meant : (o : Option Meaning) → fails may_be_handed o ≡ false → is_array_meant o ≡ false
handed-meant (Some (meanings.Typed (types.Array width lo hi count))) h = absurd (cc h)
handed-meant o h = refl

named-whole : (at : Place) (ty : Ty) (to : Path) → is_array_meant (Some (meanings.Typed ty)) ≡ false → is_whole_array (named at ty to) ≡ false
named-whole at (types.Num width lo hi) to h = refl
named-whole at types.Flag to h = refl
named-whole at types.Status to h = refl
named-whole at (types.Slice width) to h = refl
named-whole at (types.Array width lo hi count) to h = absurd (cc h)
named-whole at types.Reader (arg n) h = refl
named-whole at types.Reader to h = refl
named-whole at types.Writer (arg n) h = refl
named-whole at types.Writer to h = refl
named-whole at (types.Part part) to h = refl

path-whole : (at : Place) (x : Variable) (o : Option Meaning) → is_array_meant o ≡ false → is_whole_array (variable_tree at x o) ≡ false
path-whole at x None h = refl
path-whole at x (Some (meanings.Constant width value)) h = refl
path-whole at x (Some (meanings.Typed ty)) h = named-whole at ty (path_to x) h

-- What a base method is called on that copies to a slice.
pub receiver-unrefined : (at : Place) (x : Variable) (width : Width) (of : Meaning) → has_kind (kinds.Slice width) (kind_meant of) ≡ true
    → is_unrefined (element_type (slice_in (variable_tree at x (Some of)))) ≡ true
receiver-unrefined at x width (meanings.Typed (types.Slice own)) h = width-unrefined (bits_of own)
receiver-unrefined at x width (meanings.Typed (types.Array own lo hi count)) h = absurd (cc h)
receiver-unrefined at x width of h = absurd (cc h)

-- Neither answers nor operators give elements.
pub answer-none : (at : Place) (sig : BaseSig) (t : ValueTree) → is_elements (answer_of at sig t) ≡ false
answer-none at sigs.ReaderLength t = refl
answer-none at sigs.ReaderIsClosed t = refl
answer-none at sigs.ReaderPosition t = refl
answer-none at (sigs.Read form) t = refl
answer-none at sigs.Skip t = refl
answer-none at (sigs.Peek form) t = refl
answer-none at sigs.SkipFast t = refl
answer-none at sigs.WriterLength t = refl
answer-none at sigs.WriterPosition t = refl
answer-none at sigs.Write t = refl
answer-none at sigs.WriteFast t = refl
answer-none at sigs.WriterCopy t = refl
answer-none at (sigs.SliceCopy width) t = refl
answer-none at (sigs.SliceLength width) t = refl
answer-none at (sigs.ArrayLength width) t = refl
answer-none at sigs.IsOk t = refl
answer-none at sigs.IsNote t = refl
answer-none at sigs.IsSuspension t = refl
answer-none at sigs.IsError t = refl

called-none : (s : Setting) (c : NamedCallTree) → is_elements (answer_tree s c) ≡ false
called-none s (call (callees.Own k) at mark args) = refl
called-none s (call (callees.Sub x k) at mark args) = refl
called-none s (call (callees.Base on sig) at mark args) = answer-none at sig _

compared-none : (at sign : Place) (op : Order) (t u : ValueTree) → is_elements (comparison at sign op t u) ≡ false
compared-none at sign equal (numeric a) u = refl
compared-none at sign equal (logical a) u = refl
compared-none at sign equal (state a) u = refl
compared-none at sign equal (elements a) u = refl
compared-none at sign equal (io here a) u = refl
compared-none at sign equal lost u = refl
compared-none at sign differs (numeric a) u = refl
compared-none at sign differs (logical a) u = refl
compared-none at sign differs (state a) u = refl
compared-none at sign differs (elements a) u = refl
compared-none at sign differs (io here a) u = refl
compared-none at sign differs lost u = refl
compared-none at sign less t u = refl
compared-none at sign at_most t u = refl
compared-none at sign greater t u = refl
compared-none at sign at_least t u = refl

pub chained-none : (at : Place) (signs : List Place) (ty : Ty) (sort : OperatorKind) (t : ValueTree) (ts : List ValueTree) → is_elements (chain_of at signs ty sort (t ∷ ts)) ≡ false
chained-none at signs ty (arithmetic op) t ts = refl
chained-none at signs ty (joining both_hold) t ts = refl
chained-none at signs ty (ordering op) t [] = refl
chained-none at signs ty (ordering op) t (u ∷ ts) = compared-none at _ op t u

number-none : (at : Place) (o : Option ℕ) (t : ValueTree) → is_elements t ≡ false → is_elements (number_or at o t) ≡ false
number-none at None t h = h
number-none at (Some value) t h = refl

-- So the tree of an expression is a whole array only where the expression is a path to one.
abbrev pub MayStand : Setting → NamedExprTree → Type 0
MayStand s (path q) = is_array_meant (variable s q.of) ≡ false
MayStand s e = ⊤

pub tree-whole : (s : Setting) (e : NamedExprTree) → MayStand s e → is_whole_array (expr_tree s e) ≡ false
tree-whole s (path q) h = path-whole q.at q.of (variable s q.of) h
tree-whole s (number value at) h = refl
tree-whole s (status n at) h = refl
tree-whole s (truth value at) h = refl
tree-whole s (index q i at) h = refl
tree-whole s (resolved.slice q from to at) h = refl
tree-whole s (answer c) h = none-whole (answer_tree s c) (called-none s c)
tree-whole s (chain op first links at) h =
    none-whole (expr_tree s (chain op first links at)) (number-none at (number_of s (chain op first links at)) _ (chained-none at _ _ _ (expr_tree s first) _))
tree-whole s (convert e t at) h = none-whole (expr_tree s (convert e t at)) (number-none at (number_of s (convert e t at)) _ refl)
tree-whole s (negation e at) h = refl
