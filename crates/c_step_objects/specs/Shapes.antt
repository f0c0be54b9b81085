-- The structs of a text by number: those of the text are numbered from 1 on in its order, and 0 is the number of a struct
-- without fields, which every other name has. A struct is kept by its fields and by how many objects one of it is.
use Rattle.std.specs.Prelude.{◌≡◌, ℕ, suc, ◌+◌, if◌then◌else◌, nat_eq, List, [], ◌∷◌, ◌++◌, length, map, slice_get, Option, unwrap_or, bytes_eq}
use Rattle.std.specs.Option.{option_map_or}
use Rattle.c_text.specs.declared.kinds.CNumber.{CNumber}
use Rattle.c_text.specs.CTree.{FieldKind, plain, inside, FieldTree}
use Rattle.c_meaning.specs.CMemory.{Object, zero_field}
use Rattle.c_meaning.specs.CTypes.{StructDecl}
use Rattle.c_meaning.specs.CExprs.{cell_type}
use Rattle.c_meaning.specs.CRun.{count_of, laid_out, whole_object, no_fields, struct_objects}
use Rattle.c_mem.specs.declared.decls.FieldDecl.{FieldDecl}
use Rattle.c_mem.specs.declared.decls.FieldDecl.TheVariants.{Cells, Part}
use Rattle.c_mem.specs.FieldParts.{declared_field}
use Rattle.c_form_exprs.specs.Tables.{named}

-- The structs of a program are in the reverse order of the text; of two with one name the later one counts.
abbrev pub struct_number : List StructDecl → List ℕ → ℕ
struct_number [] name = 0
struct_number (s ∷ ss) name = if bytes_eq s.name name then suc (length ss) else struct_number ss name

-- The objects of the struct with a number, from a number on.
abbrev pub objects_of : List StructDecl → (number : ℕ) → (from : ℕ) → List Object
objects_of [] k = λ from. no_fields
objects_of (s ∷ ss) k = if nat_eq k (suc (length ss)) then (λ from. whole_object (laid_out (struct_objects ss) s.fields (from + 1))) else objects_of ss k

-- The objects of the structs with these numbers, one after the other.
abbrev pub objects_of_all : List StructDecl → (numbers : List ℕ) → (from : ℕ) → List Object
objects_of_all structs [] from = []
objects_of_all structs (k ∷ ks) from = objects_of structs k from ++ objects_of_all structs ks (from + length (objects_of structs k from))

-- A field as it is declared, but an object inside is told by the number of its struct.
abbrev pub field_by : (List ℕ → ℕ) → FieldKind → Option CNumber → FieldDecl
field_by number (plain t) count = Cells (cell_type t) (count_of count)
field_by number (inside name) count = Part (number name)

abbrev pub field_of : (List ℕ → ℕ) → FieldTree → FieldDecl
field_of number f = field_by number f.kind f.count

-- The numbers of the structs of which objects are inside.
abbrev pub inside_of : List FieldDecl → List ℕ
inside_of [] = []
inside_of (Cells type count ∷ fields) = inside_of fields
inside_of (Part k ∷ fields) = k ∷ inside_of fields

pub record ShapeView : Type 0 where
  pub fields : List FieldDecl
  pub size : ℕ

abbrev pub no_shape : ShapeView
no_shape = record { fields = []; size = 1 }

-- The fields of the struct with a number, and its size.
abbrev pub fields_at : List ShapeView → ℕ → List FieldDecl
fields_at shapes k = option_map_or (λ s. s.fields) (slice_get shapes k) []

abbrev pub size_at : List ShapeView → ℕ → ℕ
size_at shapes k = option_map_or (λ s. s.size) (slice_get shapes k) 1

-- How many objects are inside one with these fields.
abbrev pub size_inside : List ShapeView → FieldDecl → ℕ
size_inside shapes (Cells type count) = 0
size_inside shapes (Part k) = size_at shapes k

abbrev pub sizes_inside : List ShapeView → List FieldDecl → ℕ
sizes_inside shapes [] = 0
sizes_inside shapes (f ∷ fields) = size_inside shapes f + sizes_inside shapes fields

-- A struct after these, and all of them by number.
abbrev pub shape_of : List ShapeView → List FieldDecl → ShapeView
shape_of shapes fields = record { fields = fields; size = suc (sizes_inside shapes fields) }

abbrev pub own_fields : List StructDecl → List FieldTree → List FieldDecl
own_fields structs fields = map (field_of (struct_number structs)) fields

abbrev pub all_shapes : List StructDecl → List ShapeView
all_shapes [] = no_shape ∷ []
all_shapes (s ∷ ss) = all_shapes ss ++ shape_of (all_shapes ss) (own_fields ss s.fields) ∷ []

-- The fields of an object, where those inside it stand from a number on.
abbrev pub placed : List ShapeView → List FieldDecl → (at : ℕ) → List FieldDecl
placed shapes [] at = []
placed shapes (Cells type count ∷ fields) at = Cells type count ∷ placed shapes fields at
placed shapes (Part k ∷ fields) at = Part at ∷ placed shapes fields (at + size_at shapes k)

-- An object that is declared so, all zero.
abbrev pub zero_object : List FieldDecl → Object
zero_object fields = map zero_field (map declared_field fields)

-- A table of numbers by name; a name that it hasn't has 0.
abbrev pub number_in : List (List ℕ × ℕ) → List ℕ → ℕ
number_in entries name = unwrap_or (named entries name) 0

abbrev pub HasNumbers : List (List ℕ × ℕ) → List StructDecl → Type 0
HasNumbers entries structs = (name : List ℕ) → number_in entries name ≡ struct_number structs name
