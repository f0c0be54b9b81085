-- The declarations of a package that breaks no rule of names are named.
use Rattle.std.proofs.Common.{◌≡◌, ℕ, suc, ◌+◌, true, ◌&&◌, List, [], ◌∷◌, ◌++◌, map, length, Some, None, slice_get, nat_lt, refl, sym, ap, ◌∙◌, subst, arith, length-append, append_assoc}
use Rattle.std.specs.List.{AllByRecursion, flat_map, list_all}
use Rattle.wf_text.specs.Precedence.{Decides}
use Rattle.wf_ast.specs.declared.parsed.WrittenMark.{WrittenMark}
use Rattle.wf_ast.specs.ParsedTree as tree
use Rattle.wf_ast.specs.ParsedTree.{ResultTree, BlockTree, StmtTree, DeclTree}
use Rattle.wf_named.specs.NamedTree.{VarTree, NamedStructTree, NamedPackageTree}
use Rattle.wf_named.specs.WellNamed.{NamedScope as NamedScope, named_expr, named_type, named_block, scope_of_const, named_consts, scope_of_struct, named_structs, scope_of_method, named_result, named_method}
use Rattle.wf_names_rules.specs.Declarations.{Variable, Constant, Structure, Method, Declared, declared, as_variable, local_of, locals_of}
use Rattle.wf_names_rules.specs.Uses as uses
use Rattle.wf_names_rules.specs.Uses.{Use, Scope, uses_of, type_uses, stmt_uses, block_uses, result_uses, variable_uses, method_uses, constant_scope, struct_scope, method_scope, sites_in, constant_sites, struct_sites, method_sites, sites}
use Rattle.wf_names_rules.specs.NameRules.{Breaks}
use Rattle.wf_names_uses.proofs.FoundLemmas.{both-so}
use Rattle.wf_names_resolve.specs.Standing.{standing_at}
use Rattle.wf_names_resolve.specs.Resolved.{resolved_expr, resolved_type}
use Rattle.wf_names_resolve.specs.Package.{resolved_variable, resolved_consts, resolved_result, method_in, resolved_by}
use Rattle.wf_names_laws.specs.Kept.{IsKept, AreKept, IsKeptSite, AreKeptSites}
use Rattle.wf_names_laws.specs.ResolvedScopes.{IsScopeOf}
use Rattle.wf_names_laws.proofs.ListLemmas.{all-front, all-behind, all-mapped, all-flat, list-all-so}
use Rattle.wf_names_laws.proofs.KeptLaws.{sites-kept, jumps-kept}
use Rattle.wf_names_laws.proofs.ExprLaws.{struct-below, expr-named, type-named}
use Rattle.wf_names_laws.proofs.StmtLaws.{block-named}
use Rattle.wf_names_laws.proofs.PackageLemmas.{struct-made, method-made}
use Rattle.wf_names_laws.proofs.ScopeLemmas.{const-known, struct-known, method-known}

-- The uses of one scope.
scope-kept : (d : Declared) (scope : Scope) (us : List Use) → AreKeptSites d (sites_in scope us) → AreKept d scope us
scope-kept d scope us a = all-mapped (IsKeptSite d) (λ usage. record { scope = scope; usage = usage }) us a

module _ (d : Declared) (scope : Scope) where
  types-kept : (vs : List Variable) → AreKept d scope (variable_uses vs) → AllByRecursion (λ (v : Variable). AreKept d scope (type_uses v.of)) vs
  types-kept [] a = tt
  types-kept (v ∷ vs) a =
      (all-front (IsKept d scope) (type_uses v.of) (variable_uses vs) a, types-kept vs (all-behind (IsKept d scope) (type_uses v.of) (variable_uses vs) a))

  local-kept : (t : StmtTree) (others : List Variable) → AreKept d scope (stmt_uses t) → AllByRecursion (λ (v : Variable). AreKept d scope (type_uses v.of)) others
      → AllByRecursion (λ (v : Variable). AreKept d scope (type_uses v.of)) (local_of t ++ others)
  local-kept (tree.var name of at) others a rest = (a, rest)
  local-kept (tree.assign target op sign value at) others a rest = rest
  local-kept (tree.keep target c at) others a rest = rest
  local-kept (tree.do_call c at) others a rest = rest
  local-kept (tree.branch arms at) others a rest = rest
  local-kept (tree.loop label condition clauses body at) others a rest = rest
  local-kept (tree.leave label at) others a rest = rest
  local-kept (tree.again label at) others a rest = rest
  local-kept (tree.back value at) others a rest = rest
  local-kept (tree.suspend value at) others a rest = rest
  local-kept (tree.claim goal axiom_named at) others a rest = rest

  -- The locals of a body are among what it uses.
  locals-kept : (b : BlockTree) → AreKept d scope (block_uses b) → AllByRecursion (λ (v : Variable). AreKept d scope (type_uses v.of)) (locals_of b)
  locals-kept (tree.close at) a = tt
  locals-kept (tree.more_stmts first others) a =
      local-kept first (locals_of others) (all-front (IsKept d scope) (stmt_uses first) (block_uses others) a)
      (locals-kept others (all-behind (IsKept d scope) (stmt_uses first) (block_uses others) a))

module _ (d : Declared) (scope : Scope) (s : NamedScope) (known : IsScopeOf d scope s) where
  -- Variables of which the types are named.
  variables-named : (vs : List Variable) → AllByRecursion (λ (v : Variable). AreKept d scope (type_uses v.of)) vs
      → list_all (λ (x : VarTree). named_type s x.of) (map (resolved_variable (standing_at d scope)) vs) ≡ true
  variables-named [] a = refl
  variables-named (v ∷ vs) a =
      both-so (named_type s (resolved_type (standing_at d scope) v.of)) (list_all (λ (x : VarTree). named_type s x.of) (map (resolved_variable (standing_at d scope)) vs))
      (type-named d scope s known v.of a.0) (variables-named vs a.1)

  result-named : (r : ResultTree) → AreKept d scope (result_uses r) → named_result s (resolved_result (standing_at d scope) r) ≡ true
  result-named tree.gives_nothing a = refl
  result-named (tree.gives of) a = type-named d scope s known of a

known-longer : (all : List Constant) (known : List Variable) (c : Constant) (cs : List Constant) → known ++ map as_variable (c ∷ cs) ≡ map as_variable all
    → (known ++ as_variable c ∷ []) ++ map as_variable cs ≡ map as_variable all
known-longer all known c cs e = append_assoc known (as_variable c ∷ []) (map as_variable cs) ∙ e

module _ (name : List ℕ) (texts : List (List ℕ)) (decls : List DeclTree) (order struct_order : List ℕ) (h : Decides (Breaks (declared texts decls)) None) where
  abbrev given : Declared
  given = declared texts decls

  abbrev made : NamedPackageTree
  made = resolved_by given name decls order struct_order

  all-kept : AreKeptSites given (sites given)
  all-kept = sites-kept given h

  constants-kept : AreKeptSites given (constant_sites [] given.constants)
  constants-kept = all-front (IsKeptSite given) (constant_sites [] given.constants) (flat_map (struct_sites given) given.structs ++ flat_map (method_sites given) given.methods) all-kept

  behind-constants : AreKeptSites given (flat_map (struct_sites given) given.structs ++ flat_map (method_sites given) given.methods)
  behind-constants = all-behind (IsKeptSite given) (constant_sites [] given.constants) (flat_map (struct_sites given) given.structs ++ flat_map (method_sites given) given.methods) all-kept

  -- What the fields of a struct use.
  pub struct-kept : (n : ℕ) (it : Structure) → slice_get given.structs n ≡ Some it → AreKept given (struct_scope given it) (variable_uses it.fields)
  struct-kept n it e =
      scope-kept given (struct_scope given it) (variable_uses it.fields)
      (all-flat (IsKeptSite given) (struct_sites given) given.structs n it (all-front (IsKeptSite given) (flat_map (struct_sites given) given.structs) (flat_map (method_sites given) given.methods) behind-constants) e)

  pub struct-types-kept : (n : ℕ) (it : Structure) → slice_get given.structs n ≡ Some it → AllByRecursion (λ (v : Variable). AreKept given (struct_scope given it) (type_uses v.of)) it.fields
  struct-types-kept n it e = types-kept given (struct_scope given it) it.fields (struct-kept n it e)

  -- What a method uses, its struct first.
  method-kept : (n : ℕ) (m : Method) → slice_get given.methods n ≡ Some m → AreKept given (method_scope given m) (uses.structure m.owner ∷ method_uses m)
  method-kept n m e =
      scope-kept given (method_scope given m) (uses.structure m.owner ∷ method_uses m)
      (all-flat (IsKeptSite given) (method_sites given) given.methods n m (all-behind (IsKeptSite given) (flat_map (struct_sites given) given.structs) (flat_map (method_sites given) given.methods) behind-constants) e)

  -- Constants, each by those before it.
  consts-from : (known : List Variable) (cs : List Constant) (n : ℕ) → length known ≡ n → known ++ map as_variable cs ≡ map as_variable given.constants
      → AreKeptSites given (constant_sites known cs) → named_consts made n (resolved_consts given known cs) ≡ true
  consts-from known [] n long whole a = refl
  consts-from known (c ∷ cs) n long whole a =
      let scope = constant_scope known in
      let s = scope_of_const made n in
      let k = standing_at given scope in
      let is : IsScopeOf given scope s = subst (λ m. IsScopeOf given scope (scope_of_const made m)) long (const-known name texts decls order struct_order h known (c ∷ cs) whole) in
      let here = scope-kept given scope (type_uses c.of ++ uses_of c.value) (all-front (IsKeptSite given) (sites_in scope (type_uses c.of ++ uses_of c.value)) (constant_sites (known ++ as_variable c ∷ []) cs) a) in
      both-so (named_type s (resolved_type k c.of) && named_expr s (resolved_expr k c.value)) (named_consts made (suc n) (resolved_consts given (known ++ as_variable c ∷ []) cs))
      (both-so (named_type s (resolved_type k c.of)) (named_expr s (resolved_expr k c.value))
      (type-named given scope s is c.of (all-front (IsKept given scope) (type_uses c.of) (uses_of c.value) here))
      (expr-named given scope s is c.value (all-behind (IsKept given scope) (type_uses c.of) (uses_of c.value) here)))
      (consts-from (known ++ as_variable c ∷ []) cs (suc n) (omega (arith, long, length-append known (as_variable c ∷ []))) (known-longer given.constants known c cs whole)
      (all-behind (IsKeptSite given) (sites_in scope (type_uses c.of ++ uses_of c.value)) (constant_sites (known ++ as_variable c ∷ []) cs) a))

  pub consts-named : named_consts made 0 made.consts ≡ true
  consts-named = consts-from [] given.constants 0 refl refl constants-kept

  -- Structs.
  structs-from : (n : ℕ) (ss : List NamedStructTree) → ((i : ℕ) (x : NamedStructTree) → slice_get ss i ≡ Some x → list_all (λ (v : VarTree). named_type (scope_of_struct made (n + i)) v.of) x.fields ≡ true)
      → named_structs made n ss ≡ true
  structs-from n [] all = refl
  structs-from n (x ∷ ss) all =
      both-so (list_all (λ (v : VarTree). named_type (scope_of_struct made n) v.of) x.fields) (named_structs made (suc n) ss)
      (let same : n + 0 ≡ n = omega arith in subst (λ m. list_all (λ (v : VarTree). named_type (scope_of_struct made m) v.of) x.fields ≡ true) same (all 0 x refl))
      (structs-from (suc n) ss (λ i y e. let same : n + suc i ≡ suc n + i = omega arith in subst (λ m. list_all (λ (v : VarTree). named_type (scope_of_struct made m) v.of) y.fields ≡ true) same (all (suc i) y e)))

  struct-named : (n : ℕ) (x : NamedStructTree) → slice_get made.structs n ≡ Some x → list_all (λ (v : VarTree). named_type (scope_of_struct made n) v.of) x.fields ≡ true
  struct-named n x e =
      let r = struct-made given decls n x e in
      let is = struct-known name texts decls order struct_order h n r.it r.is in
      let scope = struct_scope given r.it in
      ap (λ (y : NamedStructTree). list_all (λ (v : VarTree). named_type (scope_of_struct made n) v.of) y.fields) r.same
      ∙ variables-named given scope (scope_of_struct made n) is r.it.fields (struct-types-kept n r.it r.is)

  pub structs-named : named_structs made 0 made.structs ≡ true
  structs-named = structs-from 0 made.structs (λ i x e. let same : i ≡ 0 + i = omega arith in subst (λ m. list_all (λ (v : VarTree). named_type (scope_of_struct made m) v.of) x.fields ≡ true) same (struct-named i x e))

  -- Methods.
  method-in-named : (mark : WrittenMark) (n : ℕ) (m : Method) → slice_get given.methods n ≡ Some m → m.locals ≡ locals_of m.body → named_method made (method_in given mark m) ≡ true
  method-in-named mark n m e locals =
      let x = method_in given mark m in
      let s = scope_of_method made x in
      let scope = method_scope given m in
      let k = standing_at given scope in
      let is = method-known name texts decls order struct_order h mark m in
      let kept = method-kept n m e in
      let inner = all-behind (IsKept given scope) (variable_uses m.args) (result_uses m.result ++ block_uses m.body) kept.1 in
      let body = all-behind (IsKept given scope) (result_uses m.result) (block_uses m.body) inner in
      let named = λ (v : VarTree). named_type s v.of in
      both-so (nat_lt x.of (length made.structs)) (list_all named x.args && (list_all named x.locals && (named_result s x.gives && named_block s 0 x.body)))
      (struct-below given scope s is m.owner.text.0 kept.0)
      (both-so (list_all named x.args) (list_all named x.locals && (named_result s x.gives && named_block s 0 x.body))
      (variables-named given scope s is m.args (types-kept given scope m.args (all-front (IsKept given scope) (variable_uses m.args) (result_uses m.result ++ block_uses m.body) kept.1)))
      (both-so (list_all named x.locals) (named_result s x.gives && named_block s 0 x.body)
      (variables-named given scope s is m.locals (subst (λ vs. AllByRecursion (λ (v : Variable). AreKept given scope (type_uses v.of)) vs) (sym locals) (locals-kept given scope m.body body)))
      (both-so (named_result s x.gives) (named_block s 0 x.body)
      (result-named given scope s is m.result (all-front (IsKept given scope) (result_uses m.result) (block_uses m.body) inner))
      (block-named given scope s is [] m.body body (jumps-kept given h m (n, e))))))

  pub methods-named : list_all (named_method made) made.methods ≡ true
  methods-named = list-all-so (named_method made) made.methods (λ i x e. let r = method-made given decls i x e in ap (named_method made) r.same ∙ method-in-named r.mark i r.it r.is r.locals)
