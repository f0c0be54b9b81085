-- The declarations of a resolved package are those of the package, each resolved.
use Rattle.std.proofs.Common.{◌≡◌, ℕ, zero, suc, Bool, List, [], ◌∷◌, ◌++◌, length, Some, slice_get, refl, sym, ap}
use Rattle.wf_ast.specs.declared.parsed.WrittenMark.{WrittenMark}
use Rattle.wf_ast.specs.ParsedTree as tree
use Rattle.wf_ast.specs.ParsedTree.{DeclTree}
use Rattle.wf_named.specs.NamedTree.{NamedStructTree, NamedMethodTree}
use Rattle.wf_names_rules.specs.Declarations.{Variable, Constant, Structure, Method, Declared, variables, locals_of, structs_of, methods_of, as_variable}
use Rattle.wf_names_rules.specs.Uses.{constant_scope}
use Rattle.wf_names_resolve.specs.Standing.{standing_at}
use Rattle.wf_names_resolve.specs.Package.{resolved_const, resolved_consts, struct_in, resolved_structs, method_in, resolved_methods}
use Rattle.wf_names_laws.proofs.ListLemmas.{same-inner}

-- A resolved struct is made of one of the package.
pub record MadeStruct (d : Declared) (all : List Structure) (i : ℕ) (made : NamedStructTree) : Type 0 where
  pub public : Bool
  pub it : Structure
  pub is : slice_get all i ≡ Some it
  pub same : made ≡ struct_in d public it

pub struct-made : (d : Declared) (decls : List DeclTree) (i : ℕ) (made : NamedStructTree) → slice_get (resolved_structs d decls) i ≡ Some made → MadeStruct d (structs_of decls) i made
struct-made d [] i made e = absurd (cc e)
struct-made d (tree.status public text at ∷ decls) i made e = struct-made d decls i made e
struct-made d (tree.constant public name of value at ∷ decls) i made e = struct-made d decls i made e
struct-made d (tree.structure public name mark fields at ∷ decls) zero made e =
    let it : Structure = record { name = name; fields = variables fields } in
    record { public = public; it = it; is = refl; same = sym (same-inner (struct_in d public it) made e) }
struct-made d (tree.structure public name mark fields at ∷ decls) (suc i) made e =
    let r = struct-made d decls i made e in
    record { public = r.public; it = r.it; is = r.is; same = r.same }
struct-made d (tree.method public owner name mark args result body at ∷ decls) i made e = struct-made d decls i made e

pub struct-resolved : (d : Declared) (decls : List DeclTree) (i : ℕ) (it : Structure) → slice_get (structs_of decls) i ≡ Some it
    → (public : Bool) × (slice_get (resolved_structs d decls) i ≡ Some (struct_in d public it))
struct-resolved d [] i it e = absurd (cc e)
struct-resolved d (tree.status public text at ∷ decls) i it e = struct-resolved d decls i it e
struct-resolved d (tree.constant public name of value at ∷ decls) i it e = struct-resolved d decls i it e
struct-resolved d (tree.structure public name mark fields at ∷ decls) zero it e =
    let first : Structure = record { name = name; fields = variables fields } in
    (public, ap (λ x. Some (struct_in d public x)) (same-inner first it e))
struct-resolved d (tree.structure public name mark fields at ∷ decls) (suc i) it e = struct-resolved d decls i it e
struct-resolved d (tree.method public owner name mark args result body at ∷ decls) i it e = struct-resolved d decls i it e

pub structs-long : (d : Declared) (decls : List DeclTree) → length (resolved_structs d decls) ≡ length (structs_of decls)
structs-long d [] = refl
structs-long d (tree.status public text at ∷ decls) = structs-long d decls
structs-long d (tree.constant public name of value at ∷ decls) = structs-long d decls
structs-long d (tree.structure public name mark fields at ∷ decls) = ap suc (structs-long d decls)
structs-long d (tree.method public owner name mark args result body at ∷ decls) = structs-long d decls

-- And a resolved method of a method, whose locals are those that its body declares.
pub record MadeMethod (d : Declared) (all : List Method) (i : ℕ) (made : NamedMethodTree) : Type 0 where
  pub mark : WrittenMark
  pub it : Method
  pub is : slice_get all i ≡ Some it
  pub same : made ≡ method_in d mark it
  pub locals : it.locals ≡ locals_of it.body

pub method-made : (d : Declared) (decls : List DeclTree) (i : ℕ) (made : NamedMethodTree) → slice_get (resolved_methods d decls) i ≡ Some made → MadeMethod d (methods_of decls) i made
method-made d [] i made e = absurd (cc e)
method-made d (tree.status public text at ∷ decls) i made e = method-made d decls i made e
method-made d (tree.constant public name of value at ∷ decls) i made e = method-made d decls i made e
method-made d (tree.structure public name mark fields at ∷ decls) i made e = method-made d decls i made e
method-made d (tree.method public owner name mark args result body at ∷ decls) zero made e =
    let it : Method = record { public = public; owner = owner; name = name; args = variables args; result = result; locals = locals_of body; body = body } in
    record { mark = mark; it = it; is = refl; same = sym (same-inner (method_in d mark it) made e); locals = refl }
method-made d (tree.method public owner name mark args result body at ∷ decls) (suc i) made e =
    let r = method-made d decls i made e in
    record { mark = r.mark; it = r.it; is = r.is; same = r.same; locals = r.locals }

pub method-resolved : (d : Declared) (decls : List DeclTree) (i : ℕ) (it : Method) → slice_get (methods_of decls) i ≡ Some it
    → (mark : WrittenMark) × (slice_get (resolved_methods d decls) i ≡ Some (method_in d mark it))
method-resolved d [] i it e = absurd (cc e)
method-resolved d (tree.status public text at ∷ decls) i it e = method-resolved d decls i it e
method-resolved d (tree.constant public name of value at ∷ decls) i it e = method-resolved d decls i it e
method-resolved d (tree.structure public name mark fields at ∷ decls) i it e = method-resolved d decls i it e
method-resolved d (tree.method public owner name mark args result body at ∷ decls) zero it e =
    let first : Method = record { public = public; owner = owner; name = name; args = variables args; result = result; locals = locals_of body; body = body } in
    (mark, ap (λ x. Some (method_in d mark x)) (same-inner first it e))
method-resolved d (tree.method public owner name mark args result body at ∷ decls) (suc i) it e = method-resolved d decls i it e

-- And a resolved constant of a constant, with those before it known.
pub const-resolved : (d : Declared) (known : List Variable) (cs : List Constant) (i : ℕ) (c : Constant) → slice_get cs i ≡ Some c
    → (front : List Variable) × (slice_get (resolved_consts d known cs) i ≡ Some (resolved_const (standing_at d (constant_scope front)) c.name c.of c.value))
const-resolved d known [] i c e = absurd (cc e)
const-resolved d known (b ∷ cs) zero c e =
    (known, ap (λ (x : Constant). Some (resolved_const (standing_at d (constant_scope known)) x.name x.of x.value)) (same-inner b c e))
const-resolved d known (b ∷ cs) (suc i) c e = const-resolved d (known ++ as_variable b ∷ []) cs i c e

pub consts-long : (d : Declared) (known : List Variable) (cs : List Constant) → length (resolved_consts d known cs) ≡ length cs
consts-long d known [] = refl
consts-long d known (c ∷ cs) = ap suc (consts-long d (known ++ as_variable c ∷ []) cs)
