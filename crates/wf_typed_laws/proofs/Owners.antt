-- The struct of each method is declared, so it has a number below how many there are.
use Rattle.std.proofs.Common.{◌≡◌, ◌∙◌, ◌+◌, ◌<◌, ℕ, suc, Bool, true, false, List, [], ◌∷◌, length, map, Option, Some, None, refl, sym, ap, subst, arith}
use Rattle.std.specs.Prelude.{cond}
use Rattle.std.specs.List.{AllByRecursion, position_from}
use Rattle.std.proofs.lemmas.List.{length-map}
use Rattle.wf_text.specs.declared.rules.Refusal.{Refusal}
use Rattle.wf_ast.specs.ParsedParts.{AreDistinct}
use Rattle.wf_ast.specs.ParsedTree as parsed
use Rattle.wf_ast.specs.ParsedTree.{DeclTree}
use Rattle.wf_ast.specs.ReadPackage.{decls_of}
use Rattle.wf_parse.proofs.OneReadings.{parsed_distinct}
use Rattle.wf_names_rules.specs.Declarations.{Declared, Structure, Method, declared, structs_of, methods_of, is_spelt, struct_named}
use Rattle.wf_names_rules.specs.NameRules.{Breaks}
use Rattle.wf_names_resolve.specs.Package.{resolved_structs, resolved_package}
use Rattle.wf_names_resolve.specs.Resolved.{number_or}
use Rattle.wf_typed_tree.specs.ElaboratedPackage.{typed_struct, typed_package}
use Rattle.wf_typed_laws.specs.Owners.{HasOwners, ReadMethodsHaveOwners}
use Rattle.wf_typed_laws.proofs.ListLemmas.{all-from}
use Rattle.wf_typed_laws.proofs.ReadNames.{names-spelt}
use Rattle.wf_typed_laws.proofs.KeptNames.{StructureHas, MethodHas}
use Rattle.wf_typed_laws.proofs.TypedNames.{NameIsSpelt, spelt-structs, spelt-methods}
use Rattle.wf_typed_laws.proofs.ApartNames.{methods-kept, owner-known}

position-below : (test : Structure → Bool) (k : ℕ) (ss : List Structure) (n : ℕ) → position_from test k ss ≡ Some n → n < k + length ss
position-below test k [] n e = absurd (cc e)
position-below test k (s ∷ ss) n e = by (test s) e (position-below test (k + 1) ss n)
  where
    by : (b : Bool) → cond b (Some k) (position_from test (k + 1) ss) ≡ Some n → (position_from test (k + 1) ss ≡ Some n → n < (k + 1) + length ss) → n < k + length (s ∷ ss)
    by true e more = let same : k ≡ n = cc e in omega (arith, same)
    by false e more = let below = more e in omega (arith, below)

-- As many structs are resolved as are declared.
structs-counted : (d : Declared) (decls : List DeclTree) → length (resolved_structs d decls) ≡ length (structs_of decls)
structs-counted d [] = refl
structs-counted d (parsed.status public text at ∷ decls) = structs-counted d decls
structs-counted d (parsed.constant public name of value at ∷ decls) = structs-counted d decls
structs-counted d (parsed.structure public name mark fs at ∷ decls) = ap suc (structs-counted d decls)
structs-counted d (parsed.method public owner name mark args result body at ∷ decls) = structs-counted d decls

module _ (d : Declared) where
  abbrev IsOwned : Method → Type 0
  IsOwned m = number_or (struct_named d m.owner.text.0) < length d.structs

  owned : (m : Method) → (struct_named d m.owner.text.0 ≡ None → ⊥) → IsOwned m
  owned m known = by (struct_named d m.owner.text.0) refl
    where
      by : (found : Option ℕ) → struct_named d m.owner.text.0 ≡ found → IsOwned m
      by None e = absurd (known e)
      by (Some n) e =
          let P : Option ℕ → Type 0 = λ it. number_or it < length d.structs in
          let below = position-below (λ s. is_spelt m.owner.text.0 s.name) 0 d.structs n e in
          let within : n < length d.structs = omega (arith, below) in
          subst P (sym e) within

have-owners : (name : List ℕ) (texts : List (List ℕ)) (decls : List DeclTree) (order struct_order : List ℕ) → AreDistinct texts → ((refusal : Refusal) → Breaks (declared texts decls) refusal → ⊥)
    → AllByRecursion (StructureHas (NameIsSpelt texts)) (structs_of decls) → AllByRecursion (MethodHas (NameIsSpelt texts)) (methods_of decls) → HasOwners (typed_package (resolved_package name texts decls order struct_order))
unfolding typed_package
have-owners name texts decls order struct_order distinct kept ss ms =
    let d = declared texts decls in
    let p = resolved_package name texts decls order struct_order in
    let count : length (map (typed_struct p) (resolved_structs d decls)) ≡ length (structs_of decls) = length-map (resolved_structs d decls) (typed_struct p) ∙ structs-counted d decls in
    let all = all-from (IsOwned d) (methods_of decls) (λ i m e. owned d m (owner-known d distinct kept ss ms i m e)) in
    methods-kept d distinct kept ss ms p (IsOwned d) (λ m. m.of < length (map (typed_struct p) (resolved_structs d decls)))
    (λ mark m n h. subst (λ (k : ℕ). number_or (struct_named d m.owner.text.0) < k) (sym count) h) 0 decls all

pub read_methods_have_owners : ReadMethodsHaveOwners
read_methods_have_owners name files read is kept order struct_order =
    let spelt = names-spelt name files read is in
    have-owners read.name read.texts (decls_of read) order struct_order (parsed_distinct name files read is) kept (spelt-structs read.texts (decls_of read) spelt) (spelt-methods read.texts (decls_of read) spelt)
