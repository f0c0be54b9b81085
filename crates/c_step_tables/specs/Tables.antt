-- What a machine keeps of a package's public structs and methods: the numbers of their functions.
use Rattle.std.specs.Prelude.{◌≡◌, ℕ, List, [], ◌∷◌, Option, Some, None, find, nat_eq}
use Rattle.wf_text.specs.Surface.{Surface, PublicStruct, PublicMethod}
use Rattle.wf_bufs.specs.SurfaceViews.{answer_kind_of}
use Rattle.c_meaning.specs.CCall.{Program}
use Rattle.c_meaning.specs.CRun.{initialize_name, function_name}
use Rattle.c_step_exprs.specs.Resolving.{function_number}
use Rattle.c_step_tables.specs.declared.tables.MethodEntry.{MethodEntry}
use Rattle.c_step_tables.specs.declared.tables.StructEntry.{StructEntry}

pub record IsMethod (p : Program) (s : Surface) (of : PublicStruct) (m : PublicMethod) (e : MethodEntry) : Type 0 where
  pub number : e.number.0 ≡ m.number
  pub kind : answer_kind_of e.kind ≡ m.answers
  pub function : e.function ≡ function_number p.functions (function_name s of m.name)

-- One after the other.
abbrev pub AreMethods : Program → Surface → PublicStruct → List PublicMethod → List MethodEntry → Type 0
AreMethods p s of [] [] = Unit {0}
AreMethods p s of (m ∷ ms) (e ∷ es) = IsMethod p s of m e × AreMethods p s of ms es
AreMethods p s of ms es = ⊥

pub record IsStruct (p : Program) (s : Surface) (it : PublicStruct) (e : StructEntry) : Type 0 where
  pub number : e.number.0 ≡ it.number
  pub initialize : e.initialize ≡ function_number p.functions (initialize_name s it)
  pub methods : AreMethods p s it it.methods e.methods.items

abbrev pub AreStructs : Program → Surface → List PublicStruct → List StructEntry → Type 0
AreStructs p s [] [] = Unit {0}
AreStructs p s (it ∷ structs) (e ∷ es) = IsStruct p s it e × AreStructs p s structs es
AreStructs p s structs es = ⊥

-- Both are there, one as the other, or neither is.
abbrev pub FoundAlike : {A B : Type 0} → (A → B → Type 0) → Option A → Option B → Type 0
FoundAlike P (Some x) (Some y) = P x y
FoundAlike P None None = Unit {0}
FoundAlike P x y = ⊥

-- The first entry with a number.
abbrev pub method_at : List MethodEntry → ℕ → Option MethodEntry
method_at es k = find (λ (e : MethodEntry). nat_eq e.number.0 k) es

abbrev pub struct_at : List StructEntry → ℕ → Option StructEntry
struct_at es k = find (λ (e : StructEntry). nat_eq e.number.0 k) es
