-- The struct states of a struct, one after the other: its own, and then those of the structs in its fields; and how many
-- they are, by the number of the struct.
use Rattle.std.specs.Prelude.{◌≡◌, ℕ, suc, ◌+◌, ◌<◌, nat_eq, true, drop, List, [], ◌∷◌, ◌++◌, length, map, slice_get, replicate, None, unwrap_or}
use Rattle.std.specs.List.{IsDistinct}
use Rattle.wf_ast.specs.declared.types.Ty.{Ty}
use Rattle.wf_ast.specs.declared.types.Ty.TheVariants as types
use Rattle.wf_ast.specs.TypedPackage.{PackageTree}
use Rattle.wf_ast.specs.WellTyped.{is_among, structs_in_front}
use Rattle.wf_meaning.specs.SourceState.{Held, Object, fields_of, fresh_field, raw, raw_objects}

-- The types of the fields of the struct with this number.
abbrev pub field_types : PackageTree → (s : ℕ) → List Ty
field_types p s = map (λ x. x.ty) (fields_of p s)

-- The struct states of a struct, with all levels.
abbrev pub states_of : PackageTree → (s n : ℕ) → List Object
states_of p s n = raw_objects p (suc (length p.structs)) s n

-- Those of the structs with these numbers, one after the other, the first of them numbered `n`.
abbrev pub states_of_all : PackageTree → List ℕ → (n : ℕ) → List Object
states_of_all p [] n = []
states_of_all p (s ∷ ss) n = states_of p s n ++ states_of_all p ss (n + length (states_of p s n))

-- The numbers of the structs in fields of these types.
abbrev pub struct_in : Ty → List ℕ
struct_in (types.Part s) = s.0 ∷ []
struct_in ty = []

abbrev pub structs_in : List Ty → List ℕ
structs_in [] = []
structs_in (ty ∷ tys) = struct_in ty ++ structs_in tys

-- The size of the struct with a number, where `sizes` has those of all structs; a number that none has is that of a struct
-- without fields.
abbrev pub size_at : (sizes : List ℕ) → (s : ℕ) → ℕ
size_at sizes s = unwrap_or (slice_get sizes s) 1

abbrev pub size_inside : (sizes : List ℕ) → Ty → ℕ
size_inside sizes (types.Part s) = size_at sizes s.0
size_inside sizes ty = 0

abbrev pub sizes_inside : (sizes : List ℕ) → List Ty → ℕ
sizes_inside sizes [] = 0
sizes_inside sizes (ty ∷ tys) = size_inside sizes ty + sizes_inside sizes tys

abbrev pub AreSizes : PackageTree → (sizes : List ℕ) → Type 0
AreSizes p sizes = (s n : ℕ) → size_at sizes s ≡ length (states_of p s n)

-- The sizes of those structs are known that stand before the place `i` in an order of structs: `front` has their numbers.
pub record HaveSizes (p : PackageTree) (sizes order : List ℕ) (i : ℕ) : Type 0 where
  pub front : List ℕ
  pub count : length front ≡ i
  pub rest : structs_in_front p front (drop i order) ≡ true
  pub distinct : IsDistinct nat_eq front
  pub below : (s : ℕ) → is_among front s ≡ true → s < length p.structs
  pub long : length sizes ≡ length p.structs
  pub sized : (s n : ℕ) → is_among front s ≡ true → size_at sizes s ≡ length (states_of p s n)

-- What stands at first in fields of these types, where the struct states inside them are numbered from `n` on.
abbrev pub fields_from : (sizes : List ℕ) → (n : ℕ) → List Ty → List Held
fields_from sizes n [] = []
fields_from sizes n (ty ∷ tys) = fresh_field n ty ∷ fields_from sizes (n + size_inside sizes ty) tys

-- A struct state that was never made ready.
abbrev pub raw_with : PackageTree → List Held → Object
raw_with p fields = record { life = raw; fields = fields; active = None; remaining = replicate (length p.methods) None }
