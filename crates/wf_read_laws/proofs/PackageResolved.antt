-- Where the declarations of a package stand, there stands the resolved package.
use Rattle.std.proofs.Common.{ℕ, List, [], ◌∷◌, ◌++◌, map}
use Rattle.std.specs.List.{AllByRecursion}
use Rattle.wf_text.specs.declared.place.Place.{Place}
use Rattle.wf_ast.specs.declared.parsed.Name.{Name}
use Rattle.wf_ast.specs.ParsedTree as parsed
use Rattle.wf_ast.specs.ParsedTree.{ResultTree, DeclTree}
use Rattle.wf_names_rules.specs.Declarations.{Variable, Constant, Method, Structure, Declared, declared, variables, locals_of, structs_of, methods_of, as_variable, text_of}
use Rattle.wf_names_rules.specs.Uses.{constant_scope, struct_scope, method_scope}
use Rattle.wf_names_resolve.specs.Standing.{Standing, standing_at}
use Rattle.wf_names_resolve.specs.Resolved.{word_of}
use Rattle.wf_names_resolve.specs.Package.{resolved_variable, resolved_result, resolved_consts, resolved_structs, resolved_methods, resolved_package}
use Rattle.wf_read_laws.specs.Places as written
use Rattle.wf_read_laws.proofs.DeclaredPlaces as declaring
use Rattle.wf_read_laws.proofs.DeclaredPlaces.{declared-in}
use Rattle.wf_read_laws.proofs.ListLemmas.{all-mapped}
use Rattle.wf_read_laws.specs.NamedPlaces.{WordIsIn, VariableIsIn, VariablesAreIn, ConstantIsIn, StructIsIn, ResultIsIn, MethodIsIn, PackageIsIn}
use Rattle.wf_read_laws.specs.TypePlaceLaws.{Where, ResolvingKeepsPlaces}
use Rattle.wf_read_laws.proofs.ExprsResolved.{expr-in, type-in}
use Rattle.wf_read_laws.proofs.StmtsResolved.{block-in}

module _ (In : Place → Type 0) where
  variables-in : (k : Standing) (vs : List Variable) → declaring.VariablesAreIn In vs → VariablesAreIn In (map (resolved_variable k) vs)
  variables-in k vs a = all-mapped (VariableIsIn In) (declaring.VariableIsIn In) (resolved_variable k) (λ v h. (h.0, type-in In k v.of h.1)) vs a

  result-in : (k : Standing) (r : ResultTree) → written.ResultIsIn In r → ResultIsIn In (resolved_result k r)
  result-in k parsed.gives_nothing h = tt
  result-in k (parsed.gives of) h = type-in In k of h

  consts-in : (d : Declared) (known : List Variable) (cs : List Constant) → AllByRecursion (declaring.ConstantIsIn In) cs → AllByRecursion (ConstantIsIn In) (resolved_consts d known cs)
  consts-in d known [] a = tt
  consts-in d known (c ∷ cs) a =
      let k = standing_at d (constant_scope known) in
      ((a.0.0, type-in In k c.of a.0.1, expr-in In k c.value a.0.2), consts-in d (known ++ as_variable c ∷ []) cs a.1)

  structs-in : (d : Declared) (decls : List DeclTree) → AllByRecursion (declaring.StructureIsIn In) (structs_of decls) → AllByRecursion (StructIsIn In) (resolved_structs d decls)
  structs-in d [] a = tt
  structs-in d (parsed.status public text at ∷ decls) a = structs-in d decls a
  structs-in d (parsed.constant public name of value at ∷ decls) a = structs-in d decls a
  structs-in d (parsed.structure public name mark fields at ∷ decls) a =
      let s : Structure = record { name = name; fields = variables fields } in
      ((a.0.0, variables-in (standing_at d (struct_scope d s)) (variables fields) a.0.1), structs-in d decls a.1)
  structs-in d (parsed.method public owner name mark args result body at ∷ decls) a = structs-in d decls a

  methods-in : (d : Declared) (decls : List DeclTree) → AllByRecursion (declaring.MethodIsIn In) (methods_of decls) → AllByRecursion (MethodIsIn In) (resolved_methods d decls)
  methods-in d [] a = tt
  methods-in d (parsed.status public text at ∷ decls) a = methods-in d decls a
  methods-in d (parsed.constant public name of value at ∷ decls) a = methods-in d decls a
  methods-in d (parsed.structure public name mark fields at ∷ decls) a = methods-in d decls a
  methods-in d (parsed.method public owner name mark args result body at ∷ decls) a =
      let m : Method = record { public = public; owner = owner; name = name; args = variables args; result = result; locals = locals_of body; body = body } in
      let k = standing_at d (method_scope d m) in
      let h = a.0 in
      ((h.1, variables-in k (variables args) h.2, variables-in k (locals_of body) h.4, result-in k result h.3, block-in In k [] body h.5), methods-in d decls a.1)

  statuses-in : (bytes : ℕ → List ℕ) (names : List Name) → AllByRecursion (written.NameIsIn In) names → AllByRecursion (WordIsIn In) (map (word_of bytes) names)
  statuses-in bytes names a = all-mapped (WordIsIn In) (written.NameIsIn In) (word_of bytes) (λ n h. h) names a

  pub package-in : (name : List ℕ) (texts : List (List ℕ)) (decls : List DeclTree) (order struct_order : List ℕ) → AllByRecursion (written.DeclIsIn In) decls → PackageIsIn In (resolved_package name texts decls order struct_order)
  package-in name texts decls order struct_order a =
      let d = declared texts decls in
      let there = declared-in In texts decls a in
      record {
        consts = consts-in d [] d.constants there.constants;
        statuses = statuses-in (text_of d) d.statuses there.statuses;
        structs = structs-in d decls there.structs;
        methods = methods-in d decls there.methods;
      }

pub resolving_keeps_places : ResolvingKeepsPlaces
resolving_keeps_places test name texts decls order struct_order a = package-in (Where test) name texts decls order struct_order a
