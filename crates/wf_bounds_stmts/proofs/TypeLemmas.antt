-- What the rules of types tell of the parts of a statement.
use Rattle.std.proofs.Common.{◌≡◌, ℕ, ◌<◌, ◌≤◌, Bool, true, false, ◌&&◌, List, length, Option, Some, None, nat_lt, refl, arith}
use Rattle.std.specs.Prelude.{is_some, option_map, slice_get}
use Rattle.std.proofs.lemmas.Bool.{and_parts}
use Rattle.std.proofs.lemmas.Bool.Decides.{nat_tests}
use Rattle.std.proofs.lemmas.Option.{slice_get_within}
use Rattle.wf_base.specs.declared.marks.Mark.{Mark}
use Rattle.wf_base.specs.declared.marks.Mark.TheVariants.{Pure, Impure, Coroutine}
use Rattle.wf_base.specs.declared.widths.Width.TheVariants.{W8, W16, W32, W64}
use Rattle.wf_text.specs.declared.place.Place.{Place}
use Rattle.wf_ast.specs.declared.numbers.ExprId.{ExprId}
use Rattle.wf_ast.specs.declared.types.Ty.{Ty}
use Rattle.wf_ast.specs.declared.types.Ty.TheVariants as types
use Rattle.wf_ast.specs.declared.typed_nodes.TypedNodes.{TypedNodes}
use Rattle.wf_ast.specs.TypedTree.{Path, local, field, arg, NumType, read, ValueTree, numeric, logical, state, elements, io, lost, Target, to_number, to_element, to_flag, to_status, to_slice, to_nothing}
use Rattle.wf_ast.specs.TypedTrees.{num_in, slice_in, tree_of, type_of_node, no_statement}
use Rattle.wf_ast.specs.TypedInvariant.{IsTyped, is_expr, is_numeric, is_tree_of}
use Rattle.wf_ast.specs.TypedPackage.{Variable}
use Rattle.wf_ast.specs.WellTyped.{Context, variable_at, type_at, is_number, is_flag, is_status, is_slice, is_range, well_num, well_slice, may_write, takes, takes_bits, takes_answer, has_none, well_assigned, well_simple, well_returned, fits_type}
use Rattle.wf_ast.specs.NodeKinds.{is_number_at, node_number}
use Rattle.wf_ast.proofs.Accessors.{tree_kind}
use Rattle.wf_facts.specs.IndexedFacts.{IsNamedInSets}
use Rattle.wf_bounds_stmts.specs.Targets.{thing_at, written_by}
use Rattle.wf_bounds_stmts.specs.Outcomes.{MayBeDropped}

pub both_hold : (a b : Bool) → a ≡ true → b ≡ true → (a && b) ≡ true
both_hold true b h k = k
both_hold false b h k = absurd (cc (h))

pub lt_from : (m n : ℕ) → nat_lt m n ≡ true → m < n
lt_from m n h = grind (arith, nat_tests, h)

-- What stands for the number of an expression that is none keeps no rules of types.
kind_of_number : (c : Context) (ty : Ty) (t : ValueTree) → is_tree_of ty t ≡ true → well_num c (num_in t) ≡ true → is_numeric ty ≡ true
kind_of_number c (types.Num width lo hi) t h k = refl
kind_of_number c types.Flag (logical t) h k = absurd (cc (k))
kind_of_number c types.Status (state t) h k = absurd (cc (k))
kind_of_number c (types.Slice width) (elements t) h k = absurd (cc (k))
kind_of_number c (types.Array width lo hi count) (elements t) h k = absurd (cc (k))
kind_of_number c types.Reader (io at a) h k = absurd (cc (k))
kind_of_number c types.Writer (io at a) h k = absurd (cc (k))
kind_of_number c ty t h k = absurd (cc (h))

pub number_found : (nodes : TypedNodes) → IsTyped nodes → (c : Context) (e : ExprId) → is_expr nodes e ≡ true → well_num c (node_number nodes e) ≡ true → is_number_at nodes e ≡ true
number_found nodes typed c e h k =
    both_hold (is_expr nodes e) _ h (kind_of_number c (type_of_node nodes e.0) (tree_of nodes e) (tree_kind nodes typed e (lt_from _ _ h)) k)

-- Nor what stands for its slice.
no_slice : (o : Option Ty) → is_slice 0 o ≡ true → ⊥
no_slice (Some (types.Slice W8)) h = cc (h)
no_slice (Some (types.Slice W16)) h = cc (h)
no_slice (Some (types.Slice W32)) h = cc (h)
no_slice (Some (types.Slice W64)) h = cc (h)
no_slice o h = cc (h)

pub slice_found : (c : Context) (t : ValueTree) → well_slice c (slice_in t) ≡ true → t ≡ elements (slice_in t)
slice_found c (elements t) h = refl
slice_found c t h = absurd (no_slice (type_at c (local 0)) h)

-- No typed package has this statement.
pub never_well : (c : Context) (loops : List ℕ) → well_simple c loops no_statement ≡ true → ⊥
never_well c loops h = by c.method.mark c.method.gives h
  where
    by : (mark : Mark) (gives : Option Ty) → well_returned c mark gives (Some lost) ≡ true → ⊥
    by Coroutine gives k = cc (k)
    by Pure None k = cc (k)
    by Impure None k = cc (k)
    by Pure (Some ty) k = nothing ty k
      where
        nothing : (ty : Ty) → fits_type c ty lost ≡ true → ⊥
        nothing (types.Num width lo hi) h = cc (h)
        nothing types.Flag h = cc (h)
        nothing types.Status h = cc (h)
        nothing types.Reader h = cc (h)
        nothing types.Writer h = cc (h)
        nothing (types.Slice width) h = cc (h)
        nothing ty h = cc (h)
    by Impure (Some ty) k = nothing ty k
      where
        nothing : (ty : Ty) → fits_type c ty lost ≡ true → ⊥
        nothing (types.Num width lo hi) h = cc (h)
        nothing types.Flag h = cc (h)
        nothing types.Status h = cc (h)
        nothing types.Reader h = cc (h)
        nothing types.Writer h = cc (h)
        nothing (types.Slice width) h = cc (h)
        nothing ty h = cc (h)

-- A local that is there is one of at most 256.
there : (xs : List Variable) (n : ℕ) → is_some (variable_at xs n) ≡ true → n < length xs
there xs n h = by (slice_get xs n) refl h
  where
    by : (o : Option Variable) → slice_get xs n ≡ o → is_some (option_map (λ x. x.ty) o) ≡ true → n < length xs
    by (Some x) e k = slice_get_within xs n x e
    by None e k = absurd (cc (k))

path_few : (c : Context) (path : Path) → length c.method.locals ≤ 256 → is_some (type_at c path) ≡ true → IsNamedInSets (thing_at path)
path_few c (local n) few h = omega (arith, few, there c.method.locals n h)
path_few c (field n) few h = tt
path_few c (arg n) few h = tt

a_number : (of : NumType) (o : Option Ty) → is_number of o ≡ true → is_some o ≡ true
a_number of (Some ty) h = refl
a_number of None h = absurd (cc (h))

a_flag : (o : Option Ty) → is_flag o ≡ true → is_some o ≡ true
a_flag (Some ty) h = refl
a_flag None h = absurd (cc (h))

a_status : (o : Option Ty) → is_status o ≡ true → is_some o ≡ true
a_status (Some ty) h = refl
a_status None h = absurd (cc (h))

a_slice : (bits : ℕ) (o : Option Ty) → is_slice bits o ≡ true → is_some o ≡ true
a_slice bits (Some ty) h = refl
a_slice bits None h = absurd (cc (h))

-- What a target names is there.
abbrev pub names_there : Context → Target → Bool
names_there c (to_number at of path) = is_some (type_at c path)
names_there c (to_flag at path) = is_some (type_at c path)
names_there c (to_status at path) = is_some (type_at c path)
names_there c (to_slice at bits path) = is_some (type_at c path)
names_there c target = true

pub target_few : (c : Context) (target : Target) → length c.method.locals ≤ 256 → names_there c target ≡ true → MayBeDropped (written_by target)
target_few c (to_number at of path) few h = path_few c path few h
target_few c (to_flag at path) few h = path_few c path few h
target_few c (to_status at path) few h = path_few c path few h
target_few c (to_slice at bits path) few h = path_few c path few h
target_few c (to_element at of cells index) few h = tt
target_few c to_nothing few h = tt

read_there : (c : Context) (at : Place) (of : NumType) (path : Path) → well_num c (read at of path) ≡ true → is_some (type_at c path) ≡ true
read_there c at of path h = a_number of (type_at c path) (and_parts (is_range of) _ h).1

pub assigned_there : (c : Context) (target : Target) (v : ValueTree) → well_assigned c target v ≡ true → names_there c target ≡ true
assigned_there c (to_number at of path) (numeric t) h = read_there c at of path (and_parts (well_num c (read at of path)) _ (and_parts (may_write c.method.mark path) _ h).1).0
assigned_there c (to_element at of cells index) v h = refl
assigned_there c (to_flag at path) (logical t) h = a_flag (type_at c path) (and_parts (is_flag (type_at c path)) _ (and_parts (may_write c.method.mark path) _ h).1).0
assigned_there c (to_status at path) (state t) h = a_status (type_at c path) (and_parts (is_status (type_at c path)) _ (and_parts (may_write c.method.mark path) _ h).1).0
assigned_there c (to_slice at bits path) (elements t) h = a_slice bits (type_at c path) (and_parts (is_slice bits (type_at c path)) _ (and_parts (may_write c.method.mark path) _ h).1).0
assigned_there c to_nothing v h = refl
assigned_there c target v h = absurd (cc (h))

takes_there : (c : Context) (target : Target) (ty : Ty) → takes c target ty ≡ true → names_there c target ≡ true
takes_there c (to_number at of path) (types.Num width lo hi) h = read_there c at of path (and_parts _ (well_num c (read at of path)) (and_parts (may_write c.method.mark path) _ h).1).1
takes_there c (to_element at of cells index) ty h = refl
takes_there c (to_flag at path) types.Flag h = a_flag (type_at c path) (and_parts (may_write c.method.mark path) _ h).1
takes_there c (to_status at path) types.Status h = a_status (type_at c path) (and_parts (may_write c.method.mark path) _ h).1
takes_there c (to_slice at bits path) (types.Slice width) h = a_slice bits (type_at c path) (and_parts _ (is_slice bits (type_at c path)) (and_parts (may_write c.method.mark path) _ h).1).1
takes_there c to_nothing ty h = refl
takes_there c target ty h = absurd (cc (h))

pub bits_there : (c : Context) (target : Target) (bits : ℕ) → takes_bits c target bits ≡ true → names_there c target ≡ true
bits_there c (to_number at of path) bits h = read_there c at of path (and_parts _ (well_num c (read at of path)) (and_parts (may_write c.method.mark path) _ h).1).1
bits_there c (to_element at of cells index) bits h = refl
bits_there c to_nothing bits h = refl
bits_there c target bits h = absurd (cc (h))

pub none_there : (c : Context) (target : Target) → has_none target ≡ true → names_there c target ≡ true
none_there c to_nothing h = refl
none_there c target h = absurd (cc (h))

pub answer_there : (c : Context) (target : Target) (keep : Bool) (mark : Mark) (gives : Option Ty) → takes_answer c target keep mark gives ≡ true → names_there c target ≡ true
answer_there c target true Coroutine gives h = takes_there c target types.Status (and_parts _ (takes c target types.Status) h).1
answer_there c target true Pure gives h = absurd (cc (h))
answer_there c target true Impure gives h = absurd (cc (h))
answer_there c target false Coroutine gives h = none_there c target h
answer_there c target false Pure None h = none_there c target h
answer_there c target false Impure None h = none_there c target h
answer_there c target false Pure (Some ty) h = takes_there c target ty h
answer_there c target false Impure (Some ty) h = takes_there c target ty h
