-- The fields of structs, part by part.
use Rattle.std.specs.Prelude.{ℕ, Bool, List, [], ◌∷◌, ◌++◌, Option, None, Some, if◌then◌else◌, nat_eq, slice_get, codes}
use Rattle.wf_base.specs.BaseTable.{bits_of}
use Rattle.wf_ast.specs.declared.types.Ty.{Ty}
use Rattle.wf_ast.specs.declared.types.Ty.TheVariants as types
use Rattle.wf_ast.specs.declared.variables.LocalId.{LocalId}
use Rattle.wf_ast.specs.TypedPackage.{MethodTree, PackageTree, Variable}
use Rattle.c_text.specs.declared.kinds.CUint.TheVariants.{U8, U16, U64}
use Rattle.c_text.specs.CTree.{uint, size, boolean, uint_pointer, text, plain, inside, FieldTree}
use Rattle.wf_exprs.specs.Names.{point_field, saved_field, held_field, count_field, struct_type}
use Rattle.wf_exprs.specs.Words.{literal, width_of}
use Rattle.wf_lower_stmts.specs.BodyNodes.{started_of}
use Rattle.wf_lower_stmts.specs.declared.walks.StartedNumbers.{StartedNumbers}
use Rattle.wf_lower.specs.Unit.{field, coroutine_fields, kept_fields, kept_type}

abbrev pub buffer_fields : List FieldTree
buffer_fields = field (uint_pointer U8) (codes "ptr") ∷ field size (codes "len") ∷ field size (codes "wi") ∷ field size (codes "ri") ∷ field (uint U64) (codes "pos") ∷ field boolean (codes "closed") ∷ []

-- A field of this type and name.
abbrev pub typed_field : PackageTree → Ty → (name : List ℕ) → FieldTree
typed_field p (types.Num width lo hi) name = field (uint (width_of (bits_of width))) name
typed_field p types.Status name = field text name
typed_field p (types.Array width lo hi count) name = record { kind = plain (uint (width_of (bits_of width))); name = name; count = Some (literal count) }
typed_field p (types.Part s) name = record { kind = inside (struct_type p s.0); name = name; count = None }
typed_field p ty name = field boolean name

-- The field that keeps a local, and those that keep the locals with these numbers.
abbrev pub kept_field : (method : List ℕ) → Variable → FieldTree
kept_field method x = field (kept_type x.ty) (saved_field method x.name)

abbrev pub field_if : (method : List ℕ) → Option Variable → List FieldTree
field_if method None = []
field_if method (Some x) = kept_field method x ∷ []

abbrev pub listed_fields : (method : List ℕ) → List Variable → List LocalId → List FieldTree
listed_fields method xs [] = []
listed_fields method xs (n ∷ ns) = field_if method (slice_get xs n.0) ++ listed_fields method xs ns

-- What a started statement has, by the method's name.
abbrev pub held_fields : (there : Bool) → (method : List ℕ) → List FieldTree
held_fields there method = if there then field (uint U64) (held_field method) ∷ [] else []

abbrev pub count_fields : (there : Bool) → (method : List ℕ) → List FieldTree
count_fields there method = if there then field (uint U8) (count_field method) ∷ [] else []

abbrev pub number_fields : (method : List ℕ) → StartedNumbers → List FieldTree
number_fields method started = held_fields started.held method ++ count_fields started.counted method

-- What a coroutine keeps, and what a method keeps in the struct with the number `s`.
abbrev pub kept_of : MethodTree → List FieldTree
kept_of m = field (uint U16) (point_field m.name) ∷ kept_fields m.name m.locals ++ number_fields m.name (started_of m)

abbrev pub method_fields : (s : ℕ) → MethodTree → List FieldTree
method_fields s m = if nat_eq m.of s then coroutine_fields m else []
