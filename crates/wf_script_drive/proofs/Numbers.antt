-- The methods of a package's public surface have numbers of their own.
use Rattle.std.proofs.Common.{◌≡◌, ℕ, suc, ◌≤◌, List, [], ◌∷◌, map, ◌&&◌, nat_eq, arith, All}
use Rattle.std.proofs.lemmas.Bool.{cond_both}
use Rattle.std.proofs.lemmas.List.Elements.{All-nil, All-cons, All-weaker}
use Rattle.wf_text.specs.Surface.{PublicStruct, PublicMethod}
use Rattle.wf_base.specs.LawfulActions.{AreDistinct}
use Rattle.wf_ast.specs.TypedPackage.{PackageTree, MethodTree, StructTree, public_method, public_methods, public_structs, surface_of}
use Rattle.wf_script_drive.specs.Lawful.{HasOwnNumbers}

from_here : (s n : ℕ) (ms : List MethodTree) → All (λ (k : ℕ). n ≤ k) (map (λ (m : PublicMethod). m.number) (public_methods s n ms))
from_here s n [] = All-nil (λ (k : ℕ). n ≤ k)
from_here s n (m ∷ ms) =
    let rest = All-weaker (λ (k : ℕ). suc n ≤ k) (λ (k : ℕ). n ≤ k) (λ k h. omega (arith, h)) (map (λ (m : PublicMethod). m.number) (public_methods s (suc n) ms)) (from_here s (suc n) ms) in
    cond_both (m.public && nat_eq m.of s) (public_method n m ∷ public_methods s (suc n) ms) (public_methods s (suc n) ms) (λ l. All (λ (k : ℕ). n ≤ k) (map (λ (m : PublicMethod). m.number) l)) (λ hit. All-cons (λ (k : ℕ). n ≤ k) n (map (λ (m : PublicMethod). m.number) (public_methods s (suc n) ms)) (omega arith) rest) (λ miss. rest)

apart_from : (s n : ℕ) (ms : List MethodTree) → AreDistinct (map (λ (m : PublicMethod). m.number) (public_methods s n ms))
apart_from s n [] = tt
apart_from s n (m ∷ ms) =
    cond_both (m.public && nat_eq m.of s) (public_method n m ∷ public_methods s (suc n) ms) (public_methods s (suc n) ms) (λ l. AreDistinct (map (λ (m : PublicMethod). m.number) l)) (λ hit. (All-weaker (λ (k : ℕ). suc n ≤ k) (λ (k : ℕ). n ≡ k → ⊥) (λ k h same. absurd (omega (arith, h, same))) (map (λ (m : PublicMethod). m.number) (public_methods s (suc n) ms)) (from_here s (suc n) ms), apart_from s (suc n) ms)) (λ miss. apart_from s (suc n) ms)

structs_apart : (methods : List MethodTree) (n : ℕ) (ss : List StructTree) → All (λ (it : PublicStruct). AreDistinct (map (λ (m : PublicMethod). m.number) it.methods)) (public_structs methods n ss)
structs_apart methods n [] = All-nil (λ (it : PublicStruct). AreDistinct (map (λ (m : PublicMethod). m.number) it.methods))
structs_apart methods n (s ∷ ss) =
    cond_both s.public ((record { number = n; name = s.name; methods = public_methods n 0 methods }) ∷ public_structs methods (suc n) ss) (public_structs methods (suc n) ss) (λ l. All (λ (it : PublicStruct). AreDistinct (map (λ (m : PublicMethod). m.number) it.methods)) l) (λ hit. All-cons (λ (it : PublicStruct). AreDistinct (map (λ (m : PublicMethod). m.number) it.methods)) (record { number = n; name = s.name; methods = public_methods n 0 methods }) (public_structs methods (suc n) ss) (apart_from n 0 methods) (structs_apart methods (suc n) ss)) (λ miss. structs_apart methods (suc n) ss)

pub own_numbers : (p : PackageTree) → HasOwnNumbers (surface_of p)
unfolding surface_of
own_numbers p = structs_apart p.methods 0 p.structs
