-- The declarations of a package that breaks no rule of names are resolved to what their names mean.
use Rattle.std.proofs.Common.{◌≡◌, ℕ, Bool, List, [], ◌∷◌, ◌++◌, map, Some, None, slice_get, refl, sym, ◌∙◌, subst, append_assoc}
use Rattle.std.specs.List.{AllByRecursion, flat_map}
use Rattle.wf_text.specs.Precedence.{Decides}
use Rattle.wf_ast.specs.declared.parsed.WrittenMark.{WrittenMark}
use Rattle.wf_ast.specs.ParsedParts.{AreDistinct}
use Rattle.wf_ast.specs.ParsedTree as parsed
use Rattle.wf_ast.specs.ParsedTree.{ResultTree, BlockTree, StmtTree, DeclTree}
use Rattle.wf_ast.specs.ReadPackage.{decls_of}
use Rattle.wf_parse.proofs.OneReadings.{parsed_distinct}
use Rattle.wf_names_rules.specs.Declarations.{Variable, Constant, Structure, Method, Declared, declared, as_variable, local_of, locals_of, structs_of, methods_of}
use Rattle.wf_names_rules.specs.NameRules.{Breaks}
use Rattle.wf_names_rules.specs.Uses as uses
use Rattle.wf_names_rules.specs.Uses.{Use, Scope, uses_of, type_uses, stmt_uses, block_uses, result_uses, variable_uses, method_uses, constant_scope, struct_scope, method_scope, sites_in, constant_sites, struct_sites, method_sites}
use Rattle.wf_names_resolve.specs.Standing.{standing_at}
use Rattle.wf_names_resolve.specs.Package.{resolved_variable, resolved_consts, resolved_result, struct_in, resolved_structs, method_in, resolved_methods}
use Rattle.wf_names_laws.specs.Kept.{IsKept, AreKept, IsKeptSite, AreKeptSites}
use Rattle.wf_names_laws.proofs.ListLemmas.{all-front, all-behind, all-mapped, all-flat, all-from}
use Rattle.wf_names_laws.proofs.KeptLaws.{sites-kept, jumps-kept}
use Rattle.wf_names_scope_laws.specs.ResolvedPackages.{ResolvesVariables, ResolvesConsts, ResolvesStruct, ResolvesStructs, ResolvesResult, ResolvesMethod, ResolvesMethods, PackagesAreResolved, ReadPackagesAreResolved}
use Rattle.wf_names_scope_laws.proofs.Apart.{IsApart, constant-apart, struct-apart, method-apart}
use Rattle.wf_names_scope_laws.proofs.Exprs.{expr-is, type-is}
use Rattle.wf_names_scope_laws.proofs.Jumping.{none-labelled, labels-fresh}
use Rattle.wf_names_scope_laws.proofs.Stmts.{block-is}
use Rattle.wf_names_scope_laws.proofs.Variables.{struct-means}

module _ (d : Declared) (h : Decides (Breaks d) None) (distinct : AreDistinct d.texts) where
  scope-kept : (scope : Scope) (us : List Use) → AreKeptSites d (sites_in scope us) → AreKept d scope us
  scope-kept scope us a = all-mapped (IsKeptSite d) (λ usage. record { scope = scope; usage = usage }) us a

  -- The types of variables keep the rules.
  abbrev AreTypesKept : Scope → List Variable → Type 0
  AreTypesKept scope vs = AllByRecursion (λ (v : Variable). AreKept d scope (type_uses v.of)) vs

  types-kept : (scope : Scope) (vs : List Variable) → AreKept d scope (variable_uses vs) → AreTypesKept scope vs
  types-kept scope [] a = tt
  types-kept scope (v ∷ vs) a = (all-front (IsKept d scope) (type_uses v.of) (variable_uses vs) a, types-kept scope vs (all-behind (IsKept d scope) (type_uses v.of) (variable_uses vs) a))

  local-kept : (scope : Scope) (t : StmtTree) (others : List Variable) → AreKept d scope (stmt_uses t) → AreTypesKept scope others → AreTypesKept scope (local_of t ++ others)
  local-kept scope (parsed.var name of at) others a rest = (a, rest)
  local-kept scope (parsed.assign target op sign value at) others a rest = rest
  local-kept scope (parsed.keep target c at) others a rest = rest
  local-kept scope (parsed.do_call c at) others a rest = rest
  local-kept scope (parsed.branch arms at) others a rest = rest
  local-kept scope (parsed.loop label condition clauses body at) others a rest = rest
  local-kept scope (parsed.leave label at) others a rest = rest
  local-kept scope (parsed.again label at) others a rest = rest
  local-kept scope (parsed.back value at) others a rest = rest
  local-kept scope (parsed.suspend value at) others a rest = rest
  local-kept scope (parsed.claim goal by at) others a rest = rest

  locals-kept : (scope : Scope) (b : BlockTree) → AreKept d scope (block_uses b) → AreTypesKept scope (locals_of b)
  locals-kept scope (parsed.close at) a = tt
  locals-kept scope (parsed.more_stmts first others) a =
      local-kept scope first (locals_of others) (all-front (IsKept d scope) (stmt_uses first) (block_uses others) a) (locals-kept scope others (all-behind (IsKept d scope) (stmt_uses first) (block_uses others) a))

  variables-are : (scope : Scope) → IsApart d scope → (vs : List Variable) → AreTypesKept scope vs → ResolvesVariables d scope vs (map (resolved_variable (standing_at d scope)) vs)
  variables-are scope apart [] a = tt
  variables-are scope apart (v ∷ vs) a = (record { name = refl; of = type-is d h distinct scope apart v.of a.0 }, variables-are scope apart vs a.1)

  result-is : (scope : Scope) → IsApart d scope → (r : ResultTree) → AreKept d scope (result_uses r) → ResolvesResult d scope r (resolved_result (standing_at d scope) r)
  result-is scope apart parsed.gives_nothing a = tt
  result-is scope apart (parsed.gives of) a = type-is d h distinct scope apart of a

  -- Constants.
  known-longer : (known : List Variable) (c : Constant) (cs : List Constant) → known ++ map as_variable (c ∷ cs) ≡ map as_variable d.constants
      → (known ++ as_variable c ∷ []) ++ map as_variable cs ≡ map as_variable d.constants
  known-longer known c cs e = append_assoc known (as_variable c ∷ []) (map as_variable cs) ∙ e

  consts-are : (known : List Variable) (cs : List Constant) → known ++ map as_variable cs ≡ map as_variable d.constants → AreKeptSites d (constant_sites known cs) → ResolvesConsts d known cs (resolved_consts d known cs)
  consts-are known [] whole a = tt
  consts-are known (c ∷ cs) whole a =
      let scope = constant_scope known in
      let apart = constant-apart d h known (map as_variable (c ∷ cs)) whole in
      let used = type_uses c.of ++ uses_of c.value in
      let longer = known ++ as_variable c ∷ [] in
      let here = scope-kept scope used (all-front (IsKeptSite d) (sites_in scope used) (constant_sites longer cs) a) in (
        record {
          name = refl;
          of = type-is d h distinct scope apart c.of (all-front (IsKept d scope) (type_uses c.of) (uses_of c.value) here);
          value = expr-is d h distinct scope apart c.value (all-behind (IsKept d scope) (type_uses c.of) (uses_of c.value) here);
        },
        consts-are longer cs (known-longer known c cs whole) (all-behind (IsKeptSite d) (sites_in scope used) (constant_sites longer cs) a),
      )

  constants-kept : AreKeptSites d (constant_sites [] d.constants)
  constants-kept = all-front (IsKeptSite d) (constant_sites [] d.constants) (flat_map (struct_sites d) d.structs ++ flat_map (method_sites d) d.methods) (sites-kept d h)

  behind-constants : AreKeptSites d (flat_map (struct_sites d) d.structs ++ flat_map (method_sites d) d.methods)
  behind-constants = all-behind (IsKeptSite d) (constant_sites [] d.constants) (flat_map (struct_sites d) d.structs ++ flat_map (method_sites d) d.methods) (sites-kept d h)

  pub all-consts : ResolvesConsts d [] d.constants (resolved_consts d [] d.constants)
  all-consts = consts-are [] d.constants refl constants-kept

  -- Structs.
  struct-is : (n : ℕ) (s : Structure) → slice_get d.structs n ≡ Some s → (public : Bool) → ResolvesStruct d s (struct_in d public s)
  struct-is n s e public =
      let scope = struct_scope d s in
      let kept = scope-kept scope (variable_uses s.fields) (all-flat (IsKeptSite d) (struct_sites d) d.structs n s (all-front (IsKeptSite d) (flat_map (struct_sites d) d.structs) (flat_map (method_sites d) d.methods) behind-constants) e) in
      record { name = refl; fields = variables-are scope (struct-apart d h s) s.fields (types-kept scope s.fields kept) }

  -- Methods.
  method-is : (mark : WrittenMark) (n : ℕ) (m : Method) → slice_get d.methods n ≡ Some m → m.locals ≡ locals_of m.body → ResolvesMethod d m (method_in d mark m)
  method-is mark n m e locals =
      let scope = method_scope d m in
      let apart = method-apart d h n m e in
      let kept = scope-kept scope (uses.structure m.owner ∷ method_uses m) (all-flat (IsKeptSite d) (method_sites d) d.methods n m (all-behind (IsKeptSite d) (flat_map (struct_sites d) d.structs) (flat_map (method_sites d) d.methods) behind-constants) e) in
      let inner = all-behind (IsKept d scope) (variable_uses m.args) (result_uses m.result ++ block_uses m.body) kept.1 in
      let body = all-behind (IsKept d scope) (result_uses m.result) (block_uses m.body) inner in
      record {
        name = refl;
        of = struct-means d h m.owner.text.0 kept.0;
        public = refl;
        args = variables-are scope apart m.args (types-kept scope m.args (all-front (IsKept d scope) (variable_uses m.args) (result_uses m.result ++ block_uses m.body) kept.1));
        locals = variables-are scope apart m.locals (subst (λ vs. AreTypesKept scope vs) (sym locals) (locals-kept scope m.body body));
        result = result-is scope apart m.result (all-front (IsKept d scope) (result_uses m.result) (block_uses m.body) inner);
        body = block-is d h distinct scope apart [] m.body none-labelled body (jumps-kept d h m (n, e)) (labels-fresh d h m (n, e));
      }

module _ (d : Declared) where
  structs-are : (decls : List DeclTree) → AllByRecursion (λ (s : Structure). (public : Bool) → ResolvesStruct d s (struct_in d public s)) (structs_of decls) → ResolvesStructs d (structs_of decls) (resolved_structs d decls)
  structs-are [] a = tt
  structs-are (parsed.status public text at ∷ decls) a = structs-are decls a
  structs-are (parsed.constant public name of value at ∷ decls) a = structs-are decls a
  structs-are (parsed.structure public name mark fields at ∷ decls) a = (a.0 public, structs-are decls a.1)
  structs-are (parsed.method public owner name mark args result body at ∷ decls) a = structs-are decls a

  methods-are : (decls : List DeclTree) → AllByRecursion (λ (m : Method). (mark : WrittenMark) → m.locals ≡ locals_of m.body → ResolvesMethod d m (method_in d mark m)) (methods_of decls)
      → ResolvesMethods d (methods_of decls) (resolved_methods d decls)
  methods-are [] a = tt
  methods-are (parsed.status public text at ∷ decls) a = methods-are decls a
  methods-are (parsed.constant public name of value at ∷ decls) a = methods-are decls a
  methods-are (parsed.structure public name mark fields at ∷ decls) a = methods-are decls a
  methods-are (parsed.method public owner name mark args result body at ∷ decls) a = (a.0 mark refl, methods-are decls a.1)

pub packages-are-resolved : PackagesAreResolved
packages-are-resolved name texts decls order struct_order distinct h =
    let d = declared texts decls in
    record {
      consts = all-consts d h distinct;
      statuses = refl;
      structs = structs-are d decls (all-from (λ (s : Structure). (public : Bool) → ResolvesStruct d s (struct_in d public s)) d.structs (λ i s e. struct-is d h distinct i s e));
      methods = methods-are d decls (all-from (λ (m : Method). (mark : WrittenMark) → m.locals ≡ locals_of m.body → ResolvesMethod d m (method_in d mark m)) d.methods (λ i m e mark locals. method-is d h distinct mark i m e locals));
    }

pub read-packages-are-resolved : ReadPackagesAreResolved
read-packages-are-resolved name files read is kept order struct_order = packages-are-resolved read.name read.texts (decls_of read) order struct_order (parsed_distinct name files read is) kept
