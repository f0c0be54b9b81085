-- The names of a C text for a package. Each begins with a word of its own and keeps the source's name whole, so no two of
-- them meet: `v_c` is a local, `a_src` an argument, `f_val` a field, `p_src` and `e_src` the place in a buffer and its
-- end, `b_src` the pointer to its bytes, `vp_t` and `vl_t` a slice's pointer and length. No name of C or of its headers is spelt so.
use Rattle.std.specs.Prelude.{ℕ, List, [], ◌++◌, map, unwrap_or, option_map, slice_get, codes, decimal}
use Rattle.wf_ast.specs.TypedPackage.{PackageTree, MethodTree}

-- The names that stand in a method's body: of its struct's fields, its arguments and its locals, by number.
pub record Names : Type 0 where
  pub fields : List (List ℕ)
  pub args : List (List ℕ)
  pub locals : List (List ℕ)

abbrev pub named : List (List ℕ) → ℕ → List ℕ
named names n = unwrap_or (slice_get names n) []

-- The name of the struct with this number, and those of its fields.
abbrev pub struct_called : PackageTree → (s : ℕ) → List ℕ
struct_called p s = unwrap_or (option_map (λ it. it.name) (slice_get p.structs s)) []

abbrev pub fields_called : PackageTree → (s : ℕ) → List (List ℕ)
fields_called p s = unwrap_or (option_map (λ it. map (λ x. x.name) it.fields) (slice_get p.structs s)) []

abbrev pub names_of : PackageTree → MethodTree → Names
names_of p m = record { fields = fields_called p m.of; args = map (λ x. x.name) m.args; locals = map (λ x. x.name) m.locals }

-- Variables of a function's body.
abbrev pub local_name : Names → ℕ → List ℕ
local_name names n = codes "v_" ++ named names.locals n

abbrev pub local_pointer : Names → ℕ → List ℕ
local_pointer names n = codes "vp_" ++ named names.locals n

abbrev pub local_length : Names → ℕ → List ℕ
local_length names n = codes "vl_" ++ named names.locals n

abbrev pub arg_name : Names → ℕ → List ℕ
arg_name names n = codes "a_" ++ named names.args n

abbrev pub arg_pointer : Names → ℕ → List ℕ
arg_pointer names n = codes "ap_" ++ named names.args n

abbrev pub arg_length : Names → ℕ → List ℕ
arg_length names n = codes "al_" ++ named names.args n

-- The next byte of a reader or writer, and the end of those that are there, or of the room.
abbrev pub io_place : Names → ℕ → List ℕ
io_place names n = codes "p_" ++ named names.args n

abbrev pub io_end : Names → ℕ → List ℕ
io_end names n = codes "e_" ++ named names.args n

-- The pointer to a reader's or writer's bytes. It never changes in a call.
abbrev pub io_bytes : Names → ℕ → List ℕ
io_bytes names n = codes "b_" ++ named names.args n

-- Fields of a struct: those of the source, and what a coroutine keeps: the number of the point where it goes on, each
-- local, what a started statement has, and how many bytes that is.
abbrev pub field_name : Names → ℕ → List ℕ
field_name names n = codes "f_" ++ named names.fields n

abbrev pub point_field : (method : List ℕ) → List ℕ
point_field method = codes "r_" ++ method

abbrev pub saved_field : (method local : List ℕ) → List ℕ
saved_field method local = codes "s_" ++ (method ++ (codes "__" ++ local))

abbrev pub held_field : (method : List ℕ) → List ℕ
held_field method = codes "h_" ++ method

abbrev pub count_field : (method : List ℕ) → List ℕ
count_field method = codes "n_" ++ method

-- Items: a struct, a method as its callers outside see it, its body, and a status.
abbrev pub struct_type : PackageTree → (s : ℕ) → List ℕ
struct_type p s = codes "wuffs_" ++ (p.package_name ++ (codes "__" ++ struct_called p s))

abbrev pub entry_name : PackageTree → MethodTree → List ℕ
entry_name p m = struct_type p m.of ++ (codes "__" ++ m.name)

abbrev pub initialize_name : PackageTree → (s : ℕ) → List ℕ
initialize_name p s = struct_type p s ++ codes "__initialize"

abbrev pub body_name : PackageTree → MethodTree → List ℕ
body_name p m = codes "body_" ++ (struct_called p m.of ++ (codes "__" ++ m.name))

abbrev pub status_name : ℕ → List ℕ
status_name n = codes "status_" ++ decimal n

-- Labels: the end of a loop's body, and what follows the loop.
abbrev pub again_label : (loop : ℕ) → List ℕ
again_label w = codes "again_" ++ decimal w

abbrev pub behind_label : (loop : ℕ) → List ℕ
behind_label w = codes "behind_" ++ decimal w
