-- Where no rule is broken no method has too many arguments or locals.
use Rattle.std.proofs.Common.{◌≡◌, ℕ, zero, suc, ◌≤◌, true, List, [], ◌∷◌, map, length, Some, None, slice_get, nat_le, refl, ap, ◌∙◌, arith}
use Rattle.std.specs.List.{list_all}
use Rattle.std.proofs.lemmas.Bool.Decides.{nat_tests}
use Rattle.std.proofs.lemmas.List.{length-map}
use Rattle.wf_text.specs.declared.rules.Refusal.{Refusal}
use Rattle.wf_text.specs.declared.rules.Rule.TheVariants.{L7}
use Rattle.wf_text.specs.Precedence.{Decides}
use Rattle.wf_ast.specs.declared.parsed.WrittenMark.{WrittenMark}
use Rattle.wf_ast.specs.ParsedTree.{DeclTree}
use Rattle.wf_named.specs.WellNamed.{has_few_variables}
use Rattle.wf_names_rules.specs.Declarations.{Variable, Method, Declared, declared}
use Rattle.wf_names_rules.specs.Uses.{method_scope}
use Rattle.wf_names_rules.specs.NameRules.{Breaks, by_declaration, too_many_locals, too_many_args}
use Rattle.wf_names_uses.proofs.FoundLemmas.{both-so}
use Rattle.wf_names_resolve.specs.Standing.{standing_at}
use Rattle.wf_names_resolve.specs.Package.{resolved_variable, method_in, resolved_methods}
use Rattle.wf_names_laws.proofs.ListLemmas.{list-all-so}
use Rattle.wf_names_laws.proofs.PackageLemmas.{method-made}

-- Where no item stands after so many, there are no more.
few : {X : Type 0} (xs : List X) (n : ℕ) → ((x : X) → slice_get xs n ≡ Some x → ⊥) → length xs ≤ n
few [] n none = omega arith
few (x ∷ xs) zero none = absurd (none x refl)
few (x ∷ xs) (suc n) none = let k = few xs n none in omega (arith, k)

at-most : (m n : ℕ) → m ≤ n → nat_le m n ≡ true
at-most m n h = grind (arith, nat_tests, h)

module _ (texts : List (List ℕ)) (decls : List DeclTree) (h : Decides (Breaks (declared texts decls)) None) where
  abbrev given : Declared
  given = declared texts decls

  few-args : (n : ℕ) (m : Method) → slice_get given.methods n ≡ Some m → length m.args ≤ 64
  few-args n m e = few m.args 64 (λ v a. let s : Refusal = record { rule = L7; at = v.name.at } in h s (by_declaration s (too_many_args m v (n, e) a)))

  few-locals : (n : ℕ) (m : Method) → slice_get given.methods n ≡ Some m → length m.locals ≤ 256
  few-locals n m e = few m.locals 256 (λ v a. let s : Refusal = record { rule = L7; at = v.name.at } in h s (by_declaration s (too_many_locals m v (n, e) a)))

  method-few : (mark : WrittenMark) (n : ℕ) (m : Method) → slice_get given.methods n ≡ Some m → has_few_variables (method_in given mark m) ≡ true
  method-few mark n m e =
      let made : Variable → _ = resolved_variable (standing_at given (method_scope given m)) in
      let args = length-map m.args made in
      let locals = length-map m.locals made in
      both-so (nat_le (length (map made m.args)) 64) (nat_le (length (map made m.locals)) 256)
      (at-most (length (map made m.args)) 64 (let k = few-args n m e in omega (arith, args, k)))
      (at-most (length (map made m.locals)) 256 (let k = few-locals n m e in omega (arith, locals, k)))

  pub methods-few : list_all has_few_variables (resolved_methods given decls) ≡ true
  methods-few = list-all-so has_few_variables (resolved_methods given decls) (λ i x e. let r = method-made given decls i x e in ap has_few_variables r.same ∙ method-few r.mark i r.it r.is)
