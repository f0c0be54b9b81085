-- What is refused of the nodes that typing makes of a package is what is refused of the package.
use Rattle.std.proofs.Common.{◌≡◌, ℕ, zero, suc, List, [], ◌∷◌, ◌++◌, map, slice_get, Option, None, Some, option_map, option_and_then, refl, sym, ap, ◌∙◌, subst}
use Rattle.std.specs.Prelude.{unwrap_or}
use Rattle.std.proofs.lemmas.Option.{slice_get-map}
use Rattle.wf_text.specs.declared.place.Place.{Place}
use Rattle.wf_text.specs.Precedence.{Decides}
use Rattle.wf_ast.specs.declared.declarations.Method.{Method}
use Rattle.wf_ast.specs.declared.declarations.Var.{Var}
use Rattle.wf_ast.specs.declared.typed_nodes.TypedNodes.{TypedNodes}
use Rattle.wf_ast.specs.TypedTrees.{no_place}
use Rattle.wf_ast.specs.TypedPackage.{Variable, MethodTree, PackageTree, package_of}
use Rattle.wf_named.specs.declared.declarations.NamedMethod.{NamedMethod}
use Rattle.wf_named.specs.declared.declarations.NamedVar.{NamedVar}
use Rattle.wf_named.specs.NamedParts.{NamedParts, exprs_of, stmts_of, named_package}
use Rattle.wf_named.specs.NamedTree.{VarTree, NamedMethodTree}
use Rattle.wf_named.specs.NamedTrees.{var_made, method_made}
use Rattle.wf_types_rules.specs.declared.settings.Role.TheVariants as roles
use Rattle.wf_types_rules.specs.DeclaredTypes.{types_in}
use Rattle.wf_types.specs.Bodies.{without_bodies}
use Rattle.wf_types.specs.DeclaredNodes.{variables_with, declared_method, declared_nodes}
use Rattle.wf_points.specs.PointNumbers.{HasTooMany}
use Rattle.wf_facts_exprs.specs.Claims.{Claim}
use Rattle.wf_facts_exprs.specs.Demands.{or_else}
use Rattle.wf_bounds_stmts.specs.Statements.{body_of}
use Rattle.wf_bounds_stmts.specs.FactRules.{through_body}
use Rattle.wf_bounds_stmts.specs.MethodRules.{zero_fact, zero_facts, around_body, through_method, refusal_in, methods_refusal, local_at, facts_refusal}
use Rattle.wf_bounds_laws.specs.BoundsRules.{name_of_local, bounds_refusal}
use Rattle.wf_bounds_laws.specs.BoundsLaws.{TypingKeepsBounds, TypingKeepsPoints}

-- Names of locals that stand at the same places.
zeros-same : (f g : ℕ → Place) → ((n : ℕ) → f n ≡ g n) → (n : ℕ) (xs : List Variable) → zero_facts f n xs ≡ zero_facts g n xs
zeros-same f g same n [] = refl
zeros-same f g same n (x ∷ xs) =
    ap (λ at. zero_fact at n x.ty ++ zero_facts f (suc n) xs) (same n) ∙ ap (λ fs. zero_fact (g n) n x.ty ++ fs) (zeros-same f g same (suc n) xs)

methods-same : (f g : ℕ → ℕ → Place) → ((m n : ℕ) → f m n ≡ g m n) → (p : PackageTree) (n : ℕ) (ms : List MethodTree) → methods_refusal f p n ms ≡ methods_refusal g p n ms
methods-same f g same p n [] = refl
methods-same f g same p n (m ∷ ms) =
    ap (λ (fs : List Claim). or_else (refusal_in (through_body (around_body p m) fs (body_of m.body))) (methods_refusal f p (suc n) ms)) (zeros-same (f n) (g n) (same n) 0 m.locals)
    ∙ ap (or_else (refusal_in (through_method (g n) p m))) (methods-same f g same p (suc n) ms)

-- The place of a local by its number, in lists that tell the same places.
local-same : (q : NamedParts) (xs : List NamedVar) (n : ℕ)
    → option_map (λ (x : Var). x.at) (slice_get (variables_with xs (types_in (named_package q) roles.Local (map (var_made q.texts (exprs_of q)) xs))) n)
    ≡ option_map (λ (x : VarTree). x.name.at) (slice_get (map (var_made q.texts (exprs_of q)) xs) n)
local-same q [] n = refl
local-same q (x ∷ xs) zero = refl
local-same q (x ∷ xs) (suc n) = local-same q xs n

method-same : (q : NamedParts) (m : Option NamedMethod) (n : ℕ)
    → option_map (λ (x : Var). x.at) (option_and_then (λ (it : Method). slice_get it.locals n) (option_map (declared_method q) m))
    ≡ option_map (λ (x : VarTree). x.name.at) (option_and_then (λ (it : NamedMethodTree). slice_get it.locals n) (option_map (method_made q.texts (exprs_of q) (stmts_of q)) m))
method-same q None n = refl
method-same q (Some m) n = local-same q m.locals n

methods-are : (q : NamedParts) → (named_package q).methods ≡ map (method_made q.texts (exprs_of q) (stmts_of q)) q.methods
unfolding named_package
methods-are q = refl

declared-are : (q : NamedParts) → (declared_nodes q).methods ≡ map (declared_method q) q.methods
unfolding declared_nodes
declared-are q = refl

module _ (q : NamedParts) (nodes : TypedNodes) (declared : without_bodies nodes ≡ declared_nodes q) where
  nodes-are : nodes.methods ≡ map (declared_method q) q.methods
  nodes-are = ap (λ (x : TypedNodes). x.methods) declared ∙ declared-are q

  place-same : (m n : ℕ) → local_at nodes m n ≡ name_of_local (named_package q) m n
  place-same m n =
      let L : Option Method → Option Place = λ it. option_map (λ (x : Var). x.at) (option_and_then (λ (it : Method). slice_get it.locals n) it) in
      let N : Option NamedMethodTree → Option Place = λ it. option_map (λ (x : VarTree). x.name.at) (option_and_then (λ (it : NamedMethodTree). slice_get it.locals n) it) in
      let made = method_made q.texts (exprs_of q) (stmts_of q) in
      ap (λ (found : Option Place). unwrap_or found no_place)
      (ap (λ (ms : List Method). L (slice_get ms m)) nodes-are ∙ ap L (slice_get-map (declared_method q) q.methods m) ∙ method-same q (slice_get q.methods m) n
      ∙ sym (ap N (slice_get-map made q.methods m)) ∙ sym (ap (λ (ms : List NamedMethodTree). N (slice_get ms m)) (methods-are q)))

pub typing_keeps_bounds : TypingKeepsBounds
unfolding facts_refusal bounds_refusal
typing_keeps_bounds named typed is =
    methods-same (local_at typed) (name_of_local (named_package named)) (place-same named typed is.declared) (package_of typed) 0 (package_of typed).methods
    ∙ ap (λ (p : PackageTree). methods_refusal (name_of_local (named_package named)) p 0 p.methods) is.tree

pub typing_keeps_points : TypingKeepsPoints
typing_keeps_points named typed is found h =
    let D : PackageTree → Type 0 = λ p. Decides (HasTooMany p) found in
    subst D is.tree h
