-- What a package's surface tells of its structs and methods.
use Rattle.std.proofs.Common.{◌≡◌, ℕ, suc, ◌+◌, Bool, true, false, ◌&&◌, List, [], ◌∷◌, map, Some, refl, sym, ap, ◌∙◌, nat_eq, arith}
use Rattle.std.specs.Prelude.{slice_get, find, cond, if◌then◌else◌}
use Rattle.std.proofs.lemmas.Bool.{and_parts}
use Rattle.std.proofs.lemmas.Bool.Decides.{nat_tests}
use Rattle.wf_text.specs.Surface.{PublicArg, PublicMethod, PublicStruct}
use Rattle.wf_ast.specs.TypedPackage.{Variable, StructTree, MethodTree, kind_of, public_method, public_methods, public_structs}

-- What a host knows of arguments.
abbrev pub kinds_of : List Variable → List PublicArg
kinds_of xs = map (λ x. record { name = x.name; kind = kind_of x.ty }) xs

pub struct-found : (methods : List MethodTree) (n : ℕ) (ss : List StructTree) (k : ℕ) (it : PublicStruct) → find (λ it. nat_eq it.number k) (public_structs methods n ss) ≡ Some it → it.methods ≡ public_methods k 0 methods
struct-found methods n [] k it e = absurd (cc (e))
struct-found methods n (s ∷ ss) k it e = by s.public (λ h. struct-found methods (suc n) ss k it h) e
  where
    mine : PublicStruct
    mine = record { number = n; name = s.name; methods = public_methods n 0 methods }

    found : (t : Bool) → nat_eq n k ≡ t → (find (λ it. nat_eq it.number k) (public_structs methods (suc n) ss) ≡ Some it → it.methods ≡ public_methods k 0 methods)
        → cond t (Some mine) (find (λ it. nat_eq it.number k) (public_structs methods (suc n) ss)) ≡ Some it → it.methods ≡ public_methods k 0 methods
    found true i further h =
        let same : mine ≡ it = cc (h) in
        let number : n ≡ k = grind (arith, nat_tests, i) in
        ap (λ (it : PublicStruct). it.methods) (sym same) ∙ ap (λ n. public_methods n 0 methods) number
    found false i further h = further h

    by : (t : Bool) → (find (λ it. nat_eq it.number k) (public_structs methods (suc n) ss) ≡ Some it → it.methods ≡ public_methods k 0 methods)
        → find (λ it. nat_eq it.number k) (if t then mine ∷ public_structs methods (suc n) ss else public_structs methods (suc n) ss) ≡ Some it → it.methods ≡ public_methods k 0 methods
    by true further h = found (nat_eq n k) refl further h
    by false further h = further h

pub record MethodFound (s n : ℕ) (ms : List MethodTree) (k : ℕ) (it : PublicMethod) : Type 0 where
  pub m : MethodTree
  pub place : ℕ
  pub at : slice_get ms place ≡ Some m
  pub number : k ≡ n + place
  pub of : m.of ≡ s
  pub args : it.args ≡ kinds_of m.args

pub method-found : (s n : ℕ) (ms : List MethodTree) (k : ℕ) (it : PublicMethod) → find (λ method. nat_eq method.number k) (public_methods s n ms) ≡ Some it → MethodFound s n ms k it
method-found s n [] k it e = absurd (cc (e))
method-found s n (x ∷ ms) k it e = by (x.public && nat_eq x.of s) refl (λ h. later (method-found s (suc n) ms k it h)) e
  where
    later : MethodFound s (suc n) ms k it → MethodFound s n (x ∷ ms) k it
    later f = record { m = f.m; place = suc f.place; at = f.at; number = omega (arith, f.number); of = f.of; args = f.args }

    found : (t : Bool) → nat_eq n k ≡ t → nat_eq x.of s ≡ true → (find (λ method. nat_eq method.number k) (public_methods s (suc n) ms) ≡ Some it → MethodFound s n (x ∷ ms) k it)
        → cond t (Some (public_method n x)) (find (λ method. nat_eq method.number k) (public_methods s (suc n) ms)) ≡ Some it → MethodFound s n (x ∷ ms) k it
    found true i o further h =
        let same : public_method n x ≡ it = cc (h) in
        record { m = x; place = 0; at = refl; number = grind (arith, nat_tests, i); of = grind (arith, nat_tests, o); args = ap (λ (it : PublicMethod). it.args) (sym same) }
    found false i o further h = further h

    by : (t : Bool) → (x.public && nat_eq x.of s) ≡ t → (find (λ method. nat_eq method.number k) (public_methods s (suc n) ms) ≡ Some it → MethodFound s n (x ∷ ms) k it)
        → find (λ method. nat_eq method.number k) (if t then public_method n x ∷ public_methods s (suc n) ms else public_methods s (suc n) ms) ≡ Some it → MethodFound s n (x ∷ ms) k it
    by true i further h = found (nat_eq n k) refl (and_parts x.public _ i).1 further h
    by false i further h = further h
