-- Entries, one after the other.
use Rattle.std.proofs.Common.{◌≡◌, ℕ, ◌+◌, ◌<◌, List, [], ◌∷◌, ◌++◌, length, take, get_or, Some, sym, ap, ◌∙◌, subst}
use Rattle.std.specs.Prelude.{codes}
use Rattle.std.proofs.lemmas.Option.{slice_get-get_or}
use Rattle.wf_text.specs.Surface.{Surface, PublicStruct, PublicMethod}
use Rattle.wf_bufs.specs.SurfaceViews.{answer_kind_of}
use Rattle.c_meaning.specs.CCall.{Program}
use Rattle.c_meaning.specs.CRun.{struct_name}
use Rattle.c_form_exprs.proofs.GrowLemmas.{take_one_more}
use Rattle.c_step_exprs.specs.Resolving.{function_number}
use Rattle.c_step_tables.specs.declared.tables.MethodEntry.{MethodEntry}
use Rattle.c_step_tables.specs.declared.tables.StructEntry.{StructEntry}
use Rattle.c_step_tables.specs.Tables.{IsMethod, AreMethods, IsStruct, AreStructs}

-- The elements up to one of them.
pub up_to : {A : Type 0} (xs : List A) (k : ℕ) (x : A) → k < length xs → x ≡ get_or xs k x → take (k + 1) xs ≡ take k xs ++ x ∷ []
up_to xs k x within is = take_one_more xs k x (slice_get-get_or xs k x within ∙ ap Some (sym is))

methods_more : (p : Program) (s : Surface) (of : PublicStruct) (ms : List PublicMethod) (es : List MethodEntry) (m : PublicMethod) (e : MethodEntry) → AreMethods p s of ms es → IsMethod p s of m e → AreMethods p s of (ms ++ m ∷ []) (es ++ e ∷ [])
methods_more p s of [] [] m e h one = (one, tt)
methods_more p s of [] (y ∷ es) m e h one = absurd h
methods_more p s of (x ∷ ms) [] m e h one = absurd h
methods_more p s of (x ∷ ms) (y ∷ es) m e h one = (h.0, methods_more p s of ms es m e h.1 one)

pub method_added : (p : Program) (s : Surface) (of : PublicStruct) (ms : List PublicMethod) (k : ℕ) (m : PublicMethod) (es new : List MethodEntry) (e : MethodEntry)
    → k < length ms → m ≡ get_or ms k m → new ≡ es ++ e ∷ [] → IsMethod p s of m e → AreMethods p s of (take k ms) es → AreMethods p s of (take (k + 1) ms) new
method_added p s of ms k m es new e within is more one h =
    subst (λ (xs : List PublicMethod). AreMethods p s of xs new) (sym (up_to ms k m within is))
    (subst (λ (ys : List MethodEntry). AreMethods p s of (take k ms ++ m ∷ []) ys) (sym more) (methods_more p s of (take k ms) es m e h one))

structs_more : (p : Program) (s : Surface) (its : List PublicStruct) (es : List StructEntry) (it : PublicStruct) (e : StructEntry) → AreStructs p s its es → IsStruct p s it e → AreStructs p s (its ++ it ∷ []) (es ++ e ∷ [])
structs_more p s [] [] it e h one = (one, tt)
structs_more p s [] (y ∷ es) it e h one = absurd h
structs_more p s (x ∷ its) [] it e h one = absurd h
structs_more p s (x ∷ its) (y ∷ es) it e h one = (h.0, structs_more p s its es it e h.1 one)

pub struct_added : (p : Program) (s : Surface) (its : List PublicStruct) (k : ℕ) (it : PublicStruct) (es new : List StructEntry) (e : StructEntry)
    → k < length its → it ≡ get_or its k it → new ≡ es ++ e ∷ [] → IsStruct p s it e → AreStructs p s (take k its) es → AreStructs p s (take (k + 1) its) new
struct_added p s its k it es new e within is more one h =
    subst (λ (xs : List PublicStruct). AreStructs p s xs new) (sym (up_to its k it within is))
    (subst (λ (ys : List StructEntry). AreStructs p s (take k its ++ it ∷ []) ys) (sym more) (structs_more p s (take k its) es it e h one))

-- One entry.
pub method_is : (p : Program) (s : Surface) (of : PublicStruct) (m : PublicMethod) (e : MethodEntry) (type name : List ℕ) → type ≡ struct_name s of → name ≡ m.name → e.number.0 ≡ m.number → answer_kind_of e.kind ≡ m.answers
    → e.function ≡ function_number p.functions (type ++ (codes "__" ++ name)) → IsMethod p s of m e
method_is p s of m e type name is spelt number kind function = record {
  number = number;
  kind = kind;
  function = function ∙ (ap (λ (t : List ℕ). function_number p.functions (t ++ (codes "__" ++ name))) is ∙ ap (λ (n : List ℕ). function_number p.functions (struct_name s of ++ (codes "__" ++ n))) spelt);
}

pub type_is : (s : Surface) (it : PublicStruct) (type owner name : List ℕ) → type ≡ codes "wuffs_" ++ (owner ++ (codes "__" ++ name)) → owner ≡ s.package_name → name ≡ it.name → type ≡ struct_name s it
type_is s it type owner name is owned spelt =
    is ∙ (ap (λ (p : List ℕ). codes "wuffs_" ++ (p ++ (codes "__" ++ name))) owned ∙ ap (λ (n : List ℕ). codes "wuffs_" ++ (s.package_name ++ (codes "__" ++ n))) spelt)

pub struct_is : (p : Program) (s : Surface) (it : PublicStruct) (e : StructEntry) (type : List ℕ) (methods : List PublicMethod) → type ≡ struct_name s it → methods ≡ it.methods → e.number.0 ≡ it.number
    → e.initialize ≡ function_number p.functions (type ++ (codes "__" ++ codes "initialize")) → AreMethods p s it methods e.methods.items → IsStruct p s it e
struct_is p s it e type methods is same number initialize entries = record {
  number = number;
  initialize = initialize ∙ ap (λ (t : List ℕ). function_number p.functions (t ++ (codes "__" ++ codes "initialize"))) is;
  methods = subst (λ (ms : List PublicMethod). AreMethods p s it ms e.methods.items) same entries;
}
