-- The names of a package that is read and keeps the rules of names are plain in its typed tree.
use Rattle.std.proofs.Common.{◌≡◌, ◌+◌, ℕ, false, List, [], ◌∷◌, map, refl, sym, ap, subst}
use Rattle.std.specs.List.{AllByRecursion}
use Rattle.wf_text.specs.declared.rules.Refusal.{Refusal}
use Rattle.wf_ast.specs.declared.parsed.Name.{Name}
use Rattle.wf_ast.specs.ParsedTree as parsed
use Rattle.wf_ast.specs.ParsedTree.{DeclTree}
use Rattle.wf_tokens.specs.Pieces.{IsName}
use Rattle.wf_ast.specs.ReadPackage.{decls_of}
use Rattle.wf_named.specs.NamedTree.{NamedPackageTree}
use Rattle.wf_types_rules.specs.declared.settings.Role.{Role}
use Rattle.wf_types_rules.specs.declared.settings.Role.TheVariants as roles
use Rattle.wf_names_rules.specs.Declarations.{Declared, Structure, Method, Variable, declared, variables, locals_of, structs_of, methods_of, bytes_in, text_of}
use Rattle.wf_names_rules.specs.NameRules.{Breaks}
use Rattle.wf_names_rules.specs.Reserved.{is_reserved}
use Rattle.wf_names_rules.specs.Uses.{struct_scope, method_scope}
use Rattle.wf_names_resolve.specs.Standing.{Standing, standing_at}
use Rattle.wf_names_resolve.specs.Package.{resolved_variable, resolved_structs, resolved_methods, resolved_package, method_in}
use Rattle.wf_typed_tree.specs.ElaboratedPackage.{typed_variable, typed_struct, typed_methods, typed_package}
use Rattle.wf_typed_tree.specs.ElaboratedStmts.{count_block}
use Rattle.wf_typed_laws.specs.PlainNames.{IsPlain, ArePlain, HasPlainFields, HasPlainVariables, HasPlainNames, ReadNamesArePlain}
use Rattle.wf_typed_laws.proofs.ListLemmas.{all-both}
use Rattle.wf_typed_laws.proofs.DeclNames.{DeclIsGood}
use Rattle.wf_typed_laws.proofs.ReadNames.{IsQuoted, IsSpelt, names-spelt}
use Rattle.wf_typed_laws.proofs.KeptNames.{VariablesHave, StructureHas, MethodHas, free-structs, free-methods}

abbrev pub NameIsSpelt : List (List ℕ) → Name → Type 0
NameIsSpelt texts name = IsSpelt texts name.text.0

abbrev NameIsFree : Declared → Name → Type 0
NameIsFree d name = is_reserved (text_of d name.text.0) ≡ false

abbrev NameIsPlain : Declared → Name → Type 0
NameIsPlain d name = IsPlain (text_of d name.text.0)

-- What is read, by structs and by methods.
pub spelt-structs : (texts : List (List ℕ)) (decls : List DeclTree) → AllByRecursion (DeclIsGood (IsSpelt texts) (IsQuoted texts)) decls → AllByRecursion (StructureHas (NameIsSpelt texts)) (structs_of decls)
spelt-structs texts [] a = tt
spelt-structs texts (parsed.status public text at ∷ decls) a = spelt-structs texts decls a.1
spelt-structs texts (parsed.constant public name of value at ∷ decls) a = spelt-structs texts decls a.1
spelt-structs texts (parsed.structure public name mark fields at ∷ decls) a = ((a.0.0, a.0.1), spelt-structs texts decls a.1)
spelt-structs texts (parsed.method public owner name mark args result body at ∷ decls) a = spelt-structs texts decls a.1

pub spelt-methods : (texts : List (List ℕ)) (decls : List DeclTree) → AllByRecursion (DeclIsGood (IsSpelt texts) (IsQuoted texts)) decls → AllByRecursion (MethodHas (NameIsSpelt texts)) (methods_of decls)
spelt-methods texts [] a = tt
spelt-methods texts (parsed.status public text at ∷ decls) a = spelt-methods texts decls a.1
spelt-methods texts (parsed.constant public name of value at ∷ decls) a = spelt-methods texts decls a.1
spelt-methods texts (parsed.structure public name mark fields at ∷ decls) a = spelt-methods texts decls a.1
spelt-methods texts (parsed.method public owner name mark args result body at ∷ decls) a = ((a.0.0, a.0.1, a.0.2), spelt-methods texts decls a.1)

module _ (d : Declared) where
  -- A name that is spelt and isn't reserved.
  name-plain : (name : Name) → NameIsSpelt d.texts name → NameIsFree d name → NameIsPlain d name
  name-plain name spelt free =
      let same : text_of d name.text.0 ≡ spelt.text = ap bytes_in spelt.there in
      record { spelt = subst IsName (sym same) spelt.spelt; free = free }

  variables-plain : (vs : List Variable) → VariablesHave (NameIsSpelt d.texts) vs → VariablesHave (NameIsFree d) vs → VariablesHave (NameIsPlain d) vs
  variables-plain vs a b = all-both (λ v. NameIsPlain d v.name) (λ v. NameIsSpelt d.texts v.name) (λ v. NameIsFree d v.name) (λ v. name-plain v.name) vs a b

  structure-plain : (s : Structure) → StructureHas (NameIsSpelt d.texts) s → StructureHas (NameIsFree d) s → StructureHas (NameIsPlain d) s
  structure-plain s a b = (name-plain s.name a.0 b.0, variables-plain s.fields a.1 b.1)

  method-plain : (m : Method) → MethodHas (NameIsSpelt d.texts) m → MethodHas (NameIsFree d) m → MethodHas (NameIsPlain d) m
  method-plain m a b = (name-plain m.name a.0 b.0, variables-plain m.args a.1 b.1, variables-plain m.locals a.2 b.2)

  module _ (p : NamedPackageTree) where
    typed-variables : (role : Role) (k : Standing) → k.bytes ≡ text_of d → (vs : List Variable) → VariablesHave (NameIsPlain d) vs → ArePlain (map (typed_variable p role) (map (resolved_variable k) vs))
    typed-variables role k by [] a = tt
    typed-variables role k by (v ∷ vs) a =
        let P : (ℕ → List ℕ) → Type 0 = λ bytes. IsPlain (bytes v.name.text.0) in
        (subst P (sym by) a.0, typed-variables role k by vs a.1)

    structs-plain : (decls : List DeclTree) → AllByRecursion (StructureHas (NameIsPlain d)) (structs_of decls) → AllByRecursion HasPlainFields (map (typed_struct p) (resolved_structs d decls))
    structs-plain [] a = tt
    structs-plain (parsed.status public text at ∷ decls) a = structs-plain decls a
    structs-plain (parsed.constant public name of value at ∷ decls) a = structs-plain decls a
    structs-plain (parsed.structure public name mark fields at ∷ decls) a =
        let s : Structure = record { name = name; fields = variables fields } in
        (record { name = a.0.0; fields = typed-variables roles.Field (standing_at d (struct_scope d s)) refl (variables fields) a.0.1 }, structs-plain decls a.1)
    structs-plain (parsed.method public owner name mark args result body at ∷ decls) a = structs-plain decls a

    methods-plain : (n : ℕ) (decls : List DeclTree) → AllByRecursion (MethodHas (NameIsPlain d)) (methods_of decls) → AllByRecursion HasPlainVariables (typed_methods p n (resolved_methods d decls))
    methods-plain n [] a = tt
    methods-plain n (parsed.status public text at ∷ decls) a = methods-plain n decls a
    methods-plain n (parsed.constant public name of value at ∷ decls) a = methods-plain n decls a
    methods-plain n (parsed.structure public name mark fields at ∷ decls) a = methods-plain n decls a
    methods-plain n (parsed.method public owner name mark args result body at ∷ decls) a =
        let m : Method = record { public = public; owner = owner; name = name; args = variables args; result = result; locals = locals_of body; body = body } in
        let k = standing_at d (method_scope d m) in
        (record { name = a.0.0; args = typed-variables roles.Arg k refl (variables args) a.0.1; locals = typed-variables roles.Local k refl (locals_of body) a.0.2 }, methods-plain (n + count_block (method_in d mark m).body) decls a.1)

plain-names : (name : List ℕ) (texts : List (List ℕ)) (decls : List DeclTree) (order struct_order : List ℕ) → AllByRecursion (DeclIsGood (IsSpelt texts) (IsQuoted texts)) decls
    → ((refusal : Refusal) → Breaks (declared texts decls) refusal → ⊥) → HasPlainNames (typed_package (resolved_package name texts decls order struct_order))
unfolding typed_package
plain-names name texts decls order struct_order spelt kept =
    let d = declared texts decls in
    let p = resolved_package name texts decls order struct_order in
    let structs = all-both (StructureHas (NameIsPlain d)) (StructureHas (NameIsSpelt texts)) (StructureHas (NameIsFree d)) (structure-plain d) d.structs (spelt-structs texts decls spelt) (free-structs d kept) in
    let methods = all-both (MethodHas (NameIsPlain d)) (MethodHas (NameIsSpelt texts)) (MethodHas (NameIsFree d)) (method-plain d) d.methods (spelt-methods texts decls spelt) (free-methods d kept) in
    record { structs = structs-plain d p decls structs; methods = methods-plain d p 0 decls methods }

pub read_names_are_plain : ReadNamesArePlain
read_names_are_plain name files read is kept order struct_order = plain-names read.name read.texts (decls_of read) order struct_order (names-spelt name files read is) kept
