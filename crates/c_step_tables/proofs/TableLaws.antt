-- What is found in the tables of a machine.
use Rattle.std.proofs.Common.{◌≡◌, ℕ, Bool, true, false, List, [], ◌∷◌, Option, Some, sym, subst, ap}
use Rattle.std.specs.Prelude.{find, nat_eq, if◌then◌else◌}
use Rattle.wf_text.specs.Surface.{Surface, PublicStruct, PublicMethod}
use Rattle.wf_base.specs.LawfulActions.{struct_numbered, method_numbered}
use Rattle.c_meaning.specs.CCall.{Program}
use Rattle.c_step_tables.specs.declared.tables.MethodEntry.{MethodEntry}
use Rattle.c_step_tables.specs.declared.tables.StructEntry.{StructEntry}
use Rattle.c_step_tables.specs.Tables.{IsMethod, AreMethods, IsStruct, AreStructs, FoundAlike, method_at, struct_at}

one_of_two : {A B : Type 0} (P : A → B → Type 0) (a b : Bool) (x : A) (y : B) (xs : Option A) (ys : Option B) → b ≡ a → P x y → FoundAlike P xs ys → FoundAlike P (if a then Some x else xs) (if b then Some y else ys)
one_of_two P true true x y xs ys e h k = h
one_of_two P true false x y xs ys e h k = absurd (cc (e))
one_of_two P false true x y xs ys e h k = absurd (cc (e))
one_of_two P false false x y xs ys e h k = k

pub method_found : (p : Program) (s : Surface) (of : PublicStruct) (ms : List PublicMethod) (es : List MethodEntry) (k : ℕ) → AreMethods p s of ms es
    → FoundAlike (IsMethod p s of) (find (λ it. nat_eq it.number k) ms) (find (λ (e : MethodEntry). nat_eq e.number.0 k) es)
method_found p s of [] [] k h = tt
method_found p s of [] (e ∷ es) k h = absurd h
method_found p s of (m ∷ ms) [] k h = absurd h
method_found p s of (m ∷ ms) (e ∷ es) k h =
    one_of_two (IsMethod p s of) (nat_eq m.number k) (nat_eq e.number.0 k) m e (find (λ it. nat_eq it.number k) ms) (find (λ (e : MethodEntry). nat_eq e.number.0 k) es)
    (ap (λ (n : ℕ). nat_eq n k) h.0.number) h.0 (method_found p s of ms es k h.1)

pub struct_found : (p : Program) (s : Surface) (ss : List PublicStruct) (es : List StructEntry) (k : ℕ) → AreStructs p s ss es
    → FoundAlike (IsStruct p s) (find (λ it. nat_eq it.number k) ss) (find (λ (e : StructEntry). nat_eq e.number.0 k) es)
struct_found p s [] [] k h = tt
struct_found p s [] (e ∷ es) k h = absurd h
struct_found p s (x ∷ ss) [] k h = absurd h
struct_found p s (x ∷ ss) (e ∷ es) k h =
    one_of_two (IsStruct p s) (nat_eq x.number k) (nat_eq e.number.0 k) x e (find (λ it. nat_eq it.number k) ss) (find (λ (e : StructEntry). nat_eq e.number.0 k) es)
    (ap (λ (n : ℕ). nat_eq n k) h.0.number) h.0 (struct_found p s ss es k h.1)

-- What was looked up is as what the surface has.
pub struct_alike : (p : Program) (s : Surface) (es : List StructEntry) (k : ℕ) (o : Option StructEntry) → AreStructs p s s.structs es → o ≡ struct_at es k → FoundAlike (IsStruct p s) (struct_numbered s k) o
struct_alike p s es k o h e = subst (λ (x : Option StructEntry). FoundAlike (IsStruct p s) (struct_numbered s k) x) (sym e) (struct_found p s s.structs es k h)

pub method_alike : (p : Program) (s : Surface) (of : PublicStruct) (es : List MethodEntry) (k : ℕ) (o : Option MethodEntry) → AreMethods p s of of.methods es → o ≡ method_at es k → FoundAlike (IsMethod p s of) (method_numbered k of) o
method_alike p s of es k o h e = subst (λ (x : Option MethodEntry). FoundAlike (IsMethod p s of) (method_numbered k of) x) (sym e) (method_found p s of of.methods es k h)
