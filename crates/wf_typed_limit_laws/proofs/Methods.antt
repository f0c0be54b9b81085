-- A package that keeps the rules of names has at most 1,024 methods.
use Rattle.std.proofs.Common.{◌≡◌, ◌∙◌, ◌+◌, ◌≤◌, ℕ, zero, suc, List, [], ◌∷◌, length, Option, Some, None, slice_get, refl, sym, ap, subst, arith}
use Rattle.wf_text.specs.declared.rules.Refusal.{Refusal}
use Rattle.wf_text.specs.declared.rules.Rule.TheVariants.{L6}
use Rattle.wf_ast.specs.ParsedTree as parsed
use Rattle.wf_ast.specs.ParsedTree.{DeclTree}
use Rattle.wf_ast.specs.ReadPackage.{decls_of}
use Rattle.wf_named.specs.NamedTree.{NamedMethodTree, NamedPackageTree}
use Rattle.wf_names_rules.specs.Declarations.{Declared, Method, declared, methods_of}
use Rattle.wf_names_rules.specs.NameRules.{Breaks, by_declaration, too_many_methods}
use Rattle.wf_names_resolve.specs.Package.{resolved_methods, resolved_package}
use Rattle.wf_typed_tree.specs.ElaboratedPackage.{typed_methods, typed_package}
use Rattle.wf_typed_tree.specs.ElaboratedStmts.{count_block}
use Rattle.wf_typed_limit_laws.specs.FewMethods.{HasFewMethods, ReadMethodsAreFew}

-- A list that has nothing at a place isn't longer.
no-longer : {X : Type 0} (xs : List X) (n : ℕ) → slice_get xs n ≡ None → length xs ≤ n
no-longer [] n e = omega arith
no-longer (x ∷ xs) zero e = absurd (cc e)
no-longer (x ∷ xs) (suc n) e = let rest = no-longer xs n e in omega (arith, rest)

-- As many methods are resolved as are declared, and as many are typed.
methods-resolved : (d : Declared) (decls : List DeclTree) → length (resolved_methods d decls) ≡ length (methods_of decls)
methods-resolved d [] = refl
methods-resolved d (parsed.status public text at ∷ decls) = methods-resolved d decls
methods-resolved d (parsed.constant public name of value at ∷ decls) = methods-resolved d decls
methods-resolved d (parsed.structure public name mark fields at ∷ decls) = methods-resolved d decls
methods-resolved d (parsed.method public owner name mark args result body at ∷ decls) = ap suc (methods-resolved d decls)

methods-typed : (p : NamedPackageTree) (n : ℕ) (ms : List NamedMethodTree) → length (typed_methods p n ms) ≡ length ms
methods-typed p n [] = refl
methods-typed p n (m ∷ ms) = ap suc (methods-typed p (n + count_block m.body) ms)

-- Where no rule of names is broken few are declared.
few-declared : (d : Declared) → ((refusal : Refusal) → Breaks d refusal → ⊥) → length d.methods ≤ 1024
few-declared d kept = by (slice_get d.methods 1024) refl
  where
    by : (o : Option Method) → slice_get d.methods 1024 ≡ o → length d.methods ≤ 1024
    by None e = no-longer d.methods 1024 e
    by (Some m) e =
        let refusal : Refusal = record { rule = L6; at = m.name.at } in
        absurd (kept refusal (by_declaration refusal (too_many_methods m e)))

few-methods : (name : List ℕ) (texts : List (List ℕ)) (decls : List DeclTree) (order struct_order : List ℕ) → ((refusal : Refusal) → Breaks (declared texts decls) refusal → ⊥)
    → HasFewMethods (typed_package (resolved_package name texts decls order struct_order))
unfolding typed_package
few-methods name texts decls order struct_order kept =
    let d = declared texts decls in
    let p = resolved_package name texts decls order struct_order in
    let count : length (typed_methods p 0 (resolved_methods d decls)) ≡ length (methods_of decls) = methods-typed p 0 (resolved_methods d decls) ∙ methods-resolved d decls in
    subst (λ (n : ℕ). n ≤ 1024) (sym count) (few-declared d kept)

pub read_methods_are_few : ReadMethodsAreFew
read_methods_are_few name files read is kept order struct_order = few-methods read.name read.texts (decls_of read) order struct_order kept
