-- Walks over the methods and the structs of a package.
use Rattle.std.proofs.Common.{◌≡◌, ℕ, zero, suc, ◌+◌, ◌≤◌, Bool, true, false, ◌&&◌, List, [], ◌∷◌, ◌++◌, length, map, take, drop, Some, refl, sym, ap, ◌∙◌, subst, nat_eq, arith}
use Rattle.std.specs.Prelude.{slice_get, option_map, if◌then◌else◌}
use Rattle.std.proofs.lemmas.Option.{slice_get-map}
use Rattle.wf_text.specs.Surface.{PublicMethod, PublicStruct}
use Rattle.wf_ast.specs.declared.declarations.Method.{Method}
use Rattle.wf_ast.specs.declared.declarations.Struct.{Struct}
use Rattle.wf_ast.specs.declared.typed_code.Block.{Block}
use Rattle.wf_ast.specs.declared.typed_nodes.TypedNodes.{TypedNodes}
use Rattle.wf_ast.specs.TypedInvariant.{IsTyped}
use Rattle.wf_ast.specs.TypedTrees.{text_of}
use Rattle.wf_ast.specs.TypedPackage.{method_of, methods_of, package_of, public_method, public_methods, public_structs, struct_of}

to-suc : (n : ℕ) → n + 1 ≡ suc n
to-suc n = omega arith

app-assoc : {X : Type 0} (xs ys zs : List X) → (xs ++ ys) ++ zs ≡ xs ++ (ys ++ zs)
app-assoc [] ys zs = refl
app-assoc (x ∷ xs) ys zs = ap (λ rest. x ∷ rest) (app-assoc xs ys zs)

app-none : {X : Type 0} (xs : List X) → xs ++ [] ≡ xs
app-none [] = refl
app-none (x ∷ xs) = ap (λ rest. x ∷ rest) (app-none xs)

map-app : {X A : Type 0} (f : X → A) (xs : List X) (x : X) → map f (xs ++ x ∷ []) ≡ map f xs ++ f x ∷ []
map-app f [] x = refl
map-app f (y ∷ ys) x = ap (λ rest. f y ∷ rest) (map-app f ys x)

take-next : {X : Type 0} (n : ℕ) (xs : List X) (x : X) → slice_get xs n ≡ Some x → take (suc n) xs ≡ take n xs ++ x ∷ []
take-next n [] x e = absurd (cc (e))
take-next zero (y ∷ ys) x e = let same : y ≡ x = cc (e) in ap (λ z. z ∷ []) same
take-next (suc n) (y ∷ ys) x e = ap (λ rest. y ∷ rest) (take-next n ys x e)

-- One item more of a list that is copied.
pub pushed : {X A : Type 0} (f : X → A) (xs : List X) (x : X) (ys : List A) (n : ℕ) (y : A) → map f xs ≡ take n ys → slice_get ys n ≡ Some y → f x ≡ y → map f (xs ++ x ∷ []) ≡ take (n + 1) ys
pushed {A = A} f xs x ys n y h e same =
    let P : ℕ → Type 0 = λ k. map f (xs ++ x ∷ []) ≡ take k ys in
    subst P (sym (to-suc n)) (map-app f xs x ∙ ap (λ (front : List A). front ++ f x ∷ []) h ∙ ap (λ (z : A). take n ys ++ z ∷ []) same ∙ sym (take-next n ys y e))

drop-next : {X : Type 0} (n : ℕ) (xs : List X) (x : X) → slice_get xs n ≡ Some x → drop n xs ≡ x ∷ drop (suc n) xs
drop-next n [] x e = absurd (cc (e))
drop-next zero (y ∷ ys) x e = let same : y ≡ x = cc (e) in ap (λ z. z ∷ ys) same
drop-next (suc n) (y ∷ ys) x e = drop-next n ys x e

drop-over : {X : Type 0} (n : ℕ) (xs : List X) → length xs ≤ n → drop n xs ≡ []
drop-over zero [] h = refl
drop-over (suc n) [] h = refl
drop-over zero (x ∷ xs) h = absurd (omega (arith, h))
drop-over (suc n) (x ∷ xs) h = drop-over n xs (omega (arith, h))

-- A walk that takes an item or passes it over.
module _ {X A : Type 0} (walk : ℕ → List X → List A) (whole : List A) (xs : List X) (n : ℕ) (all : List A) where
  takes : (x : X) (a : A) → slice_get xs n ≡ Some x → walk n (x ∷ drop (suc n) xs) ≡ a ∷ walk (suc n) (drop (suc n) xs) → whole ≡ all ++ walk n (drop n xs) → whole ≡ (all ++ a ∷ []) ++ walk (n + 1) (drop (n + 1) xs)
  takes x a e s h =
      let P : ℕ → Type 0 = λ k. whole ≡ (all ++ a ∷ []) ++ walk k (drop k xs) in
      subst P (sym (to-suc n)) (h ∙ ap (λ ys. all ++ walk n ys) (drop-next n xs x e) ∙ ap (λ ys. all ++ ys) s ∙ sym (app-assoc all (a ∷ []) (walk (suc n) (drop (suc n) xs))))

  passes : (x : X) → slice_get xs n ≡ Some x → walk n (x ∷ drop (suc n) xs) ≡ walk (suc n) (drop (suc n) xs) → whole ≡ all ++ walk n (drop n xs) → whole ≡ all ++ walk (n + 1) (drop (n + 1) xs)
  passes x e s h =
      let P : ℕ → Type 0 = λ k. whole ≡ all ++ walk k (drop k xs) in
      subst P (sym (to-suc n)) (h ∙ ap (λ ys. all ++ walk n ys) (drop-next n xs x e) ∙ ap (λ ys. all ++ ys) s)

  ends : length xs ≤ n → walk n [] ≡ [] → whole ≡ all ++ walk n (drop n xs) → all ≡ whole
  ends l e h = sym (h ∙ ap (λ ys. all ++ walk n ys) (drop-over n xs l) ∙ ap (λ ys. all ++ ys) e ∙ app-none all)

-- The methods of a package.
method-tree : (nodes : TypedNodes) (ms : List Method) (bodies : List Block) (n : ℕ) (m : Method) → length bodies ≡ length ms → slice_get ms n ≡ Some m → (body : Block) × (slice_get (methods_of nodes ms bodies) n ≡ Some (method_of nodes m body))
method-tree nodes [] bodies n m l e = absurd (cc (e))
method-tree nodes (x ∷ ms) [] n m l e = absurd (omega (arith, l))
method-tree nodes (x ∷ ms) (body ∷ bodies) zero m l e = let same : x ≡ m = cc (e) in (body, ap (λ y. Some (method_of nodes y body)) same)
method-tree nodes (x ∷ ms) (body ∷ bodies) (suc n) m l e = method-tree nodes ms bodies n m (omega (arith, l)) e

methods-long : (nodes : TypedNodes) (ms : List Method) (bodies : List Block) → length (methods_of nodes ms bodies) ≤ length ms
methods-long nodes [] bodies = omega arith
methods-long nodes (m ∷ ms) [] = omega arith
methods-long nodes (m ∷ ms) (body ∷ bodies) = let h = methods-long nodes ms bodies in omega (arith, h)

if-true : {X : Type 0} (t : Bool) (x y : X) → t ≡ true → (if t then x else y) ≡ x
if-true true x y e = refl
if-true false x y e = absurd (cc (e))

if-false : {X : Type 0} (t : Bool) (x y : X) → t ≡ false → (if t then x else y) ≡ y
if-false false x y e = refl
if-false true x y e = absurd (cc (e))

module _ (nodes : TypedNodes) (typed : IsTyped nodes) (s n : ℕ) (all : List PublicMethod) where
  abbrev pub Walked : ℕ → List PublicMethod → Type 0
  Walked k all = public_methods s 0 (package_of nodes).methods ≡ all ++ public_methods s k (drop k (package_of nodes).methods)

  pub method-taken : (m : Method) (it : PublicMethod) → slice_get nodes.methods n ≡ Some m → (m.public && nat_eq m.of.0 s) ≡ true → ((body : Block) → it ≡ public_method n (method_of nodes m body)) → Walked n all → Walked (n + 1) (all ++ it ∷ [])
  unfolding package_of
  method-taken m it e t is h =
      let x = method-tree nodes nodes.methods nodes.bodies n m typed.bodied e in
      takes (public_methods s) (public_methods s 0 (package_of nodes).methods) (package_of nodes).methods n all (method_of nodes m x.0) it x.1
      (if-true (m.public && nat_eq m.of.0 s) _ _ t ∙ ap (λ a. a ∷ public_methods s (suc n) (drop (suc n) (package_of nodes).methods)) (sym (is x.0))) h

  pub method-passed : (m : Method) → slice_get nodes.methods n ≡ Some m → (m.public && nat_eq m.of.0 s) ≡ false → Walked n all → Walked (n + 1) all
  unfolding package_of
  method-passed m e t h =
      let x = method-tree nodes nodes.methods nodes.bodies n m typed.bodied e in
      passes (public_methods s) (public_methods s 0 (package_of nodes).methods) (package_of nodes).methods n all (method_of nodes m x.0) x.1 (if-false (m.public && nat_eq m.of.0 s) _ _ t) h

  pub methods-ended : length nodes.methods ≤ n → Walked n all → all ≡ public_methods s 0 (package_of nodes).methods
  unfolding package_of
  methods-ended l h = ends (public_methods s) (public_methods s 0 (package_of nodes).methods) (package_of nodes).methods n all (let k = methods-long nodes nodes.methods nodes.bodies in omega (arith, k, l)) refl h

-- The structs of a package.
struct-tree : (nodes : TypedNodes) (n : ℕ) (it : Struct) → slice_get nodes.structs n ≡ Some it → slice_get (map (struct_of nodes) nodes.structs) n ≡ Some (struct_of nodes it)
struct-tree nodes n it e = slice_get-map (struct_of nodes) nodes.structs n ∙ ap (option_map (struct_of nodes)) e

map-long : {X A : Type 0} (f : X → A) (xs : List X) → length (map f xs) ≡ length xs
map-long f [] = refl
map-long f (x ∷ xs) = ap suc (map-long f xs)

module _ (nodes : TypedNodes) (n : ℕ) (all : List PublicStruct) where
  abbrev pub StructsWalked : ℕ → List PublicStruct → Type 0
  StructsWalked k all = public_structs (package_of nodes).methods 0 (package_of nodes).structs ≡ all ++ public_structs (package_of nodes).methods k (drop k (package_of nodes).structs)

  pub struct-taken : (it : Struct) (made : PublicStruct) → slice_get nodes.structs n ≡ Some it → it.public ≡ true → made ≡ record { number = n; name = text_of nodes it.name; methods = public_methods n 0 (package_of nodes).methods } → StructsWalked n all → StructsWalked (n + 1) (all ++ made ∷ [])
  unfolding package_of
  struct-taken it made e t is h =
      takes (public_structs (package_of nodes).methods) (public_structs (package_of nodes).methods 0 (package_of nodes).structs) (package_of nodes).structs n all (struct_of nodes it) made (struct-tree nodes n it e)
      (if-true it.public _ _ t ∙ ap (λ a. a ∷ public_structs (package_of nodes).methods (suc n) (drop (suc n) (package_of nodes).structs)) (sym is)) h

  pub struct-passed : (it : Struct) → slice_get nodes.structs n ≡ Some it → it.public ≡ false → StructsWalked n all → StructsWalked (n + 1) all
  unfolding package_of
  struct-passed it e t h =
      passes (public_structs (package_of nodes).methods) (public_structs (package_of nodes).methods 0 (package_of nodes).structs) (package_of nodes).structs n all (struct_of nodes it) (struct-tree nodes n it e) (if-false it.public _ _ t) h

  pub structs-ended : length nodes.structs ≤ n → StructsWalked n all → all ≡ public_structs (package_of nodes).methods 0 (package_of nodes).structs
  unfolding package_of
  structs-ended l h = ends (public_structs (package_of nodes).methods) (public_structs (package_of nodes).methods 0 (package_of nodes).structs) (package_of nodes).structs n all (let k = map-long (struct_of nodes) nodes.structs in omega (arith, k, l)) refl h
