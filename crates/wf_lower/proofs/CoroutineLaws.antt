-- Flags of structs are set by their coroutines, and a struct without one keeps nothing of its methods.
use Rattle.std.proofs.Common.{◌≡◌, ◌∙◌, ap, sym, ℕ, ◌<◌, Bool, true, false, ◌&&◌, ◌||◌, List, [], ◌∷◌, ◌++◌, length, Some, nat_eq, get_or, unwrap_or, refl, arith}
use Rattle.std.specs.Prelude.{nat_lt, slice_get}
use Rattle.std.specs.List.{list_all, list_any}
use Rattle.std.proofs.lemmas.Bool.Decides.{nat_tests}
use Rattle.wf_ast.specs.declared.declarations.Method.{Method}
use Rattle.wf_ast.specs.declared.typed_nodes.TypedNodes.{TypedNodes}
use Rattle.wf_ast.specs.TypedInvariant.{IsTyped}
use Rattle.wf_ast.specs.TypedPackage.{MethodTree, PackageTree, method_of, package_of}
use Rattle.wf_ast.specs.WellTyped.{all_structs_whole, well_method, well_typed}
use Rattle.wf_ast.proofs.Arena.{both_true}
use Rattle.wf_exprs.proofs.Prefixes.{list_all-at}
use Rattle.wf_lower.specs.Coroutines.{HaveCoroutines, has_coroutine, is_coroutine_of}
use Rattle.wf_lower.specs.Flags.{Sets, is_set}
use Rattle.wf_lower.specs.Unit.{methods_fields}
use Rattle.wf_lower.proofs.FlagLaws.{or_false}
use Rattle.wf_lower.proofs.Known.{count_same, made_there}
use Rattle.wf_lower.proofs.PartLaws.{method_alone, method_keeps_none, methods_cons}
use Rattle.wf_lower.proofs.Walks.{here}

methods_lawful : (p : PackageTree) → well_typed p ≡ true → list_all (well_method p) p.methods ≡ true
unfolding well_typed
methods_lawful p h = (both_true (list_all (well_method p) p.methods) _ (both_true (all_structs_whole p 0 p.structs) _ h).1).0

-- The struct of a method is there.
pub struct_of_method : (nodes : TypedNodes) → IsTyped nodes → (n : ℕ) (m : Method) → slice_get nodes.methods n ≡ Some m → m.of.0 < length nodes.structs
struct_of_method nodes typed n m is =
    let p = package_of nodes in
    let made = made_there nodes typed n m is in
    let lawful = list_all-at (well_method p) p.methods n (method_of nodes m made.0) (methods_lawful p typed.rules) made.1 in
    let known = (both_true (nat_lt m.of.0 (length p.structs)) _ lawful).0 in
    let same = count_same nodes in
    grind (arith, nat_tests, known, same)

and_true : (a : Bool) → (a && true) ≡ a
and_true true = refl
and_true false = refl

and_false : (a : Bool) → (a && false) ≡ false
and_false true = refl
and_false false = refl

-- A method sets the flag of the struct with the number `of`, or none.
pub sets_struct : (of : ℕ) (old new : List Bool) (coroutine : Bool) → coroutine ≡ true → Sets (λ s. nat_eq of s) old new → Sets (λ s. nat_eq of s && coroutine) old new
sets_struct of old new coroutine is sets = λ s. sets s ∙ ap (λ b. is_set old s || b) (sym (ap (λ b. nat_eq of s && b) is ∙ and_true (nat_eq of s)))

pub sets_no_struct : (of : ℕ) (flags : List Bool) (coroutine : Bool) → coroutine ≡ false → Sets (λ s. nat_eq of s && coroutine) flags flags
sets_no_struct of flags coroutine is = λ s. sym (ap (λ b. is_set flags s || b) (ap (λ b. nat_eq of s && b) is ∙ and_false (nat_eq of s)) ∙ or_false (is_set flags s))

-- The flag of a struct.
module _ (nodes : TypedNodes) (flags : List Bool) (have : HaveCoroutines (package_of nodes) flags) (s : ℕ) (known : s < length nodes.structs) where
  pub flag_there : s < length flags
  flag_there =
      let sized = have.sized in
      let same = count_same nodes in
      omega (arith, sized, same, known)

  pub flag_tells : (d : Bool) → get_or flags s d ≡ has_coroutine (package_of nodes) s
  flag_tells d = sym (ap (λ o. unwrap_or o false) (here flags s d flag_there)) ∙ have.are s

-- What the methods keep in a struct without a coroutine.
either_false : (a b : Bool) → (a || b) ≡ false → (a ≡ false) × (b ≡ false)
either_false true b h = absurd (cc h)
either_false false b h = (refl, h)

pub none_kept : (s : ℕ) (ms : List MethodTree) → list_any (is_coroutine_of s) ms ≡ false → methods_fields s ms ≡ []
none_kept s [] h = refl
none_kept s (m ∷ ms) h =
    let none = either_false (is_coroutine_of s m) (list_any (is_coroutine_of s) ms) h in
    methods_cons s 0 m ms ∙ ap (λ l. l ++ methods_fields s ms) (sym (method_alone s m) ∙ sym (method_keeps_none s m none.0)) ∙ none_kept s ms none.1
