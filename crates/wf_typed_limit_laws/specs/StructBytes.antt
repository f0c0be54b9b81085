-- How many bytes the fields of a struct have in a typed package.
use Rattle.std.specs.Prelude.{◌≡◌, ◌+◌, ◌*◌, ◌≤◌, ℕ, List, [], ◌∷◌, Option, Some, None, slice_get}
use Rattle.wf_text.specs.declared.numbers.StructId.{StructId}
use Rattle.wf_text.specs.declared.rules.Refusal.{Refusal}
use Rattle.wf_base.specs.BaseTable.{bytes_of}
use Rattle.wf_ast.specs.ParsedParts.{Parsed}
use Rattle.wf_ast.specs.declared.types.Ty.{Ty}
use Rattle.wf_ast.specs.declared.types.Ty.TheVariants as types
use Rattle.wf_ast.specs.TypedPackage.{Variable, StructTree, PackageTree}
use Rattle.wf_ast.specs.ReadPackage.{decls_of}
use Rattle.wf_parse.specs.Parsing.{IsParsed}
use Rattle.wf_names_rules.specs.Declarations.{declared}
use Rattle.wf_names_rules.specs.NameRules as names
use Rattle.wf_names_resolve.specs.Package.{resolved_package}
use Rattle.wf_types_rules.specs.TypeRules as types_rules
use Rattle.wf_typed_tree.specs.ElaboratedPackage.{typed_package}

-- The bytes of a field that holds no struct: a number has those of its width, a bool 1, a status 8, an array those of its elements.
-- No field has one of the other types.
abbrev pub field_bytes : Ty → Option ℕ
field_bytes (types.Num width lo hi) = Some (bytes_of width)
field_bytes types.Flag = Some 1
field_bytes types.Status = Some 8
field_bytes (types.Array width lo hi count) = Some (count * bytes_of width)
field_bytes ty = None

-- Fields have so many bytes together, where these are a package's structs: a field that is a struct has 8 bytes, and those of that
-- struct's fields.
pub data HasBytes (structs : List StructTree) : List Variable → ℕ → Type 0 where
  nothing : HasBytes structs [] 0
  plain : (x : Variable) (xs : List Variable) (own n : ℕ) → field_bytes x.ty ≡ Some own → HasBytes structs xs n → HasBytes structs (x ∷ xs) (own + n)
  part : (x : Variable) (xs : List Variable) (s : StructId) (it : StructTree) (inner n : ℕ) → x.ty ≡ types.Part s → slice_get structs s.0 ≡ Some it → HasBytes structs it.fields inner
      → HasBytes structs xs n → HasBytes structs (x ∷ xs) (8 + inner + n)

-- Fields don't have two numbers of bytes.
abbrev pub BytesAreOne : Type 0
BytesAreOne = (structs : List StructTree) (xs : List Variable) (n m : ℕ) → HasBytes structs xs n → HasBytes structs xs m → n ≡ m

-- The fields of a struct have a number of bytes, which isn't above 1,048,576.
pub record IsSmall (p : PackageTree) (it : StructTree) : Type 0 where
  pub bytes : ℕ
  pub has : HasBytes p.structs it.fields bytes
  pub few : bytes ≤ 1048576

abbrev pub HasSmallStructs : PackageTree → Type 0
HasSmallStructs p = (s : ℕ) (it : StructTree) → slice_get p.structs s ≡ Some it → IsSmall p it

-- So it is with each struct in the typed package of a package that is read and keeps the rules of names, and of types, in whatever
-- order its methods stand.
abbrev pub ReadStructsAreSmall : Type 0
ReadStructsAreSmall =
    (name : List ℕ) (files : List (List ℕ)) (read : Parsed) → IsParsed name files read → ((refusal : Refusal) → names.Breaks (declared read.texts (decls_of read)) refusal → ⊥)
    → ((refusal : Refusal) → types_rules.Breaks (resolved_package read.name read.texts (decls_of read) [] []) refusal → ⊥)
    → (order struct_order : List ℕ) → HasSmallStructs (typed_package (resolved_package read.name read.texts (decls_of read) order struct_order))
