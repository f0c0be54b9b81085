-- The parts of a package stand where it stands.
use Rattle.std.proofs.Common.{ℕ, ◌+◌, List, [], ◌∷◌, ◌++◌, map, Option, None, Some}
use Rattle.std.specs.List.{AllByRecursion, flat_map}
use Rattle.wf_text.specs.declared.place.Place.{Place}
use Rattle.wf_base.specs.declared.marks.Mark.{Mark}
use Rattle.wf_ast.specs.declared.operators.Op.{Op}
use Rattle.wf_named.specs.declared.nodes.NamedCallee.{NamedCallee}
use Rattle.wf_named.specs.NamedTree as tree
use Rattle.wf_named.specs.NamedTree.{NamedExprTree, NamedPartTree, NamedLinkTrees, NamedArgTrees, NamedCallTree, NamedTypeTree, NamedBoundsTree, NamedTargetTree, NamedClauseTrees, LetterTrees, NamedViaTree, NamedStmtTree, NamedBlockTree, NamedArmTrees, VarTree, ConstTree, NamedMethodTree, NamedPackageTree}
use Rattle.wf_types_rules.specs.declared.meanings.Constant.{Constant}
use Rattle.wf_types_rules.specs.declared.settings.Role.{Role}
use Rattle.wf_types_rules.specs.declared.settings.Role.TheVariants as roles
use Rattle.wf_types_rules.specs.declared.settings.Setting.{Setting}
use Rattle.wf_types_rules.specs.DeclaredTypes.{among_constants, constant_made, for_types, in_method}
use Rattle.wf_types_rules.specs.Parts.{Part, expression, calling, argument, placed_type, type_part, constant_declared, status_declared, target, assigned, kept, condition, letter_value, returned, yielded, whole_body, Site, expr_parts, end_parts, links_parts, args_parts, type_parts, bounds_parts, whole_call_parts, value_parts, target_parts, condition_parts, clauses_parts, letters_parts, via_parts, stmt_parts, block_parts, arms_parts, at_sites, declared_parts, variables_parts, const_sites, result_parts, method_sites, sites}
use Rattle.wf_read_laws.proofs.ListLemmas.{all-append, all-mapped, all-flat}
use Rattle.wf_read_laws.specs.NamedPlaces.{WordIsIn, ExprIsIn, EndIsIn, LinksAreIn, ArgsAreIn, CallIsIn, TypeIsIn, BoundsAreIn, TargetIsIn, ClausesAreIn, LettersAreIn, ViaIsIn, StmtIsIn, BlockIsIn, ArmsAreIn, VariableIsIn, VariablesAreIn, ConstantIsIn, StructIsIn, ResultIsIn, MethodIsIn, PackageIsIn}

-- A part all of whose places lie in a region.
abbrev pub PartIsIn : (Place → Type 0) → Part → Type 0
PartIsIn In (expression e) = ExprIsIn In e
PartIsIn In (calling inside c) = CallIsIn In c
PartIsIn In (argument callee n e) = ExprIsIn In e
PartIsIn In (placed_type role t) = TypeIsIn In t
PartIsIn In (type_part t) = TypeIsIn In t
PartIsIn In (constant_declared c) = ConstantIsIn In c
PartIsIn In (status_declared w) = WordIsIn In w
PartIsIn In (target t) = TargetIsIn In t
PartIsIn In (assigned t op e) = TargetIsIn In t × ExprIsIn In e
PartIsIn In (kept t c) = TargetIsIn In t × CallIsIn In c
PartIsIn In (condition e) = ExprIsIn In e
PartIsIn In (letter_value e) = ExprIsIn In e
PartIsIn In (returned at e) = In at × EndIsIn In e
PartIsIn In (yielded at e) = In at × ExprIsIn In e
PartIsIn In (whole_body body) = BlockIsIn In body

abbrev pub PartsAreIn : (Place → Type 0) → List Part → Type 0
PartsAreIn In parts = AllByRecursion (PartIsIn In) parts

abbrev pub SiteIsIn : (Place → Type 0) → Site → Type 0
SiteIsIn In site = PartIsIn In site.part

abbrev pub SitesAreIn : (Place → Type 0) → List Site → Type 0
SitesAreIn In list = AllByRecursion (SiteIsIn In) list

module _ (In : Place → Type 0) where
  both : (xs ys : List Part) → PartsAreIn In xs → PartsAreIn In ys → PartsAreIn In (xs ++ ys)
  both xs ys a b = all-append (PartIsIn In) xs ys a b

  mutual
    expr-parts-in : (e : NamedExprTree) → ExprIsIn In e → PartsAreIn In (expr_parts e)
    expr-parts-in (tree.number value at) h = (h, tt)
    expr-parts-in (tree.status number at) h = (h, tt)
    expr-parts-in (tree.truth value at) h = (h, tt)
    expr-parts-in (tree.path path) h = (h, tt)
    expr-parts-in (tree.index p i at) h = (h, expr-parts-in i h.1)
    expr-parts-in (tree.slice p from to at) h = (h, both (end_parts from) (end_parts to) (end-parts-in from h.1) (end-parts-in to h.2))
    expr-parts-in (tree.answer (tree.call callee at mark args)) h = (h, args-parts-in callee 0 args h.2)
    expr-parts-in (tree.chain op first links at) h = (h, both (expr_parts first) (links_parts links) (expr-parts-in first h.0) (links-parts-in links h.1))
    expr-parts-in (tree.convert e t at) h = (h, (h.1, both (expr_parts e) (type_parts t) (expr-parts-in e h.0) (type-parts-in t h.1)))
    expr-parts-in (tree.negation e at) h = (h, expr-parts-in e h.0)

    end-parts-in : (e : NamedPartTree) → EndIsIn In e → PartsAreIn In (end_parts e)
    end-parts-in tree.absent h = tt
    end-parts-in (tree.present e) h = expr-parts-in e h

    links-parts-in : (ls : NamedLinkTrees) → LinksAreIn In ls → PartsAreIn In (links_parts ls)
    links-parts-in tree.no_link h = tt
    links-parts-in (tree.link sign e others) h = both (expr_parts e) (links_parts others) (expr-parts-in e h.1) (links-parts-in others h.2)

    args-parts-in : (callee : NamedCallee) (n : ℕ) (args : NamedArgTrees) → ArgsAreIn In args → PartsAreIn In (args_parts callee n args)
    args-parts-in callee n tree.no_arg h = tt
    args-parts-in callee n (tree.more_args e others) h = arg-parts-in callee n e others h.0 (expr-parts-in e h.0) (args-parts-in callee (n + 1) others h.1)

    -- an argument that is a path is no expression of its own
    arg-parts-in : (callee : NamedCallee) (n : ℕ) (e : NamedExprTree) (others : NamedArgTrees) → ExprIsIn In e → PartsAreIn In (expr_parts e) → PartsAreIn In (args_parts callee (n + 1) others)
        → PartsAreIn In (args_parts callee n (tree.more_args e others))
    arg-parts-in callee n (tree.path p) others h inner rest = (h, rest)
    arg-parts-in callee n (tree.number value at) others h inner rest = (h, both (expr_parts (tree.number value at)) (args_parts callee (n + 1) others) inner rest)
    arg-parts-in callee n (tree.status number at) others h inner rest = (h, both (expr_parts (tree.status number at)) (args_parts callee (n + 1) others) inner rest)
    arg-parts-in callee n (tree.truth value at) others h inner rest = (h, both (expr_parts (tree.truth value at)) (args_parts callee (n + 1) others) inner rest)
    arg-parts-in callee n (tree.index p i at) others h inner rest = (h, both (expr_parts (tree.index p i at)) (args_parts callee (n + 1) others) inner rest)
    arg-parts-in callee n (tree.slice p from to at) others h inner rest = (h, both (expr_parts (tree.slice p from to at)) (args_parts callee (n + 1) others) inner rest)
    arg-parts-in callee n (tree.answer c) others h inner rest = (h, both (expr_parts (tree.answer c)) (args_parts callee (n + 1) others) inner rest)
    arg-parts-in callee n (tree.chain op first links at) others h inner rest = (h, both (expr_parts (tree.chain op first links at)) (args_parts callee (n + 1) others) inner rest)
    arg-parts-in callee n (tree.convert e t at) others h inner rest = (h, both (expr_parts (tree.convert e t at)) (args_parts callee (n + 1) others) inner rest)
    arg-parts-in callee n (tree.negation e at) others h inner rest = (h, both (expr_parts (tree.negation e at)) (args_parts callee (n + 1) others) inner rest)

    type-parts-in : (t : NamedTypeTree) → TypeIsIn In t → PartsAreIn In (type_parts t)
    type-parts-in (tree.slice_of at element) h = (h, type-parts-in element h.1)
    type-parts-in (tree.array_of length at element) h = (h, both (expr_parts length) (type_parts element) (expr-parts-in length h.0) (type-parts-in element h.2))
    type-parts-in (tree.base_type of at bounds) h = (h, bounds-parts-in bounds h.1)
    type-parts-in (tree.struct_type n at) h = (h, tt)

    bounds-parts-in : (b : NamedBoundsTree) → BoundsAreIn In b → PartsAreIn In (bounds_parts b)
    bounds-parts-in tree.unrefined h = tt
    bounds-parts-in (tree.refined low high) h = both (end_parts low) (expr_parts high) (end-parts-in low h.0) (expr-parts-in high h.1)

  whole-call-in : (c : NamedCallTree) → CallIsIn In c → PartsAreIn In (whole_call_parts c)
  whole-call-in (tree.call callee at mark args) h = (h, args-parts-in callee 0 args h.2)

  value-in : (op : Option Op) (e : NamedExprTree) → ExprIsIn In e → PartsAreIn In (value_parts op e)
  value-in (Some op) e h = expr-parts-in e h
  value-in None (tree.answer c) h = whole-call-in c h
  value-in None (tree.number value at) h = expr-parts-in (tree.number value at) h
  value-in None (tree.status number at) h = expr-parts-in (tree.status number at) h
  value-in None (tree.truth value at) h = expr-parts-in (tree.truth value at) h
  value-in None (tree.path p) h = expr-parts-in (tree.path p) h
  value-in None (tree.index p i at) h = expr-parts-in (tree.index p i at) h
  value-in None (tree.slice p from to at) h = expr-parts-in (tree.slice p from to at) h
  value-in None (tree.chain op first links at) h = expr-parts-in (tree.chain op first links at) h
  value-in None (tree.convert e t at) h = expr-parts-in (tree.convert e t at) h
  value-in None (tree.negation e at) h = expr-parts-in (tree.negation e at) h

  target-in : (t : NamedTargetTree) → TargetIsIn In t → PartsAreIn In (target_parts t)
  target-in (tree.to_path p) h = (h, tt)
  target-in (tree.to_element p i at) h = (h, expr-parts-in (tree.index p i at) h)

  condition-in : (e : NamedExprTree) → ExprIsIn In e → PartsAreIn In (condition_parts e)
  condition-in e h = (h, expr-parts-in e h)

  clauses-in : (cs : NamedClauseTrees) → ClausesAreIn In cs → PartsAreIn In (clauses_parts cs)
  clauses-in tree.no_clause h = tt
  clauses-in (tree.more_clauses kind e at others) h = both (condition_parts e) (clauses_parts others) (condition-in e h.0) (clauses-in others h.2)

  letters-in : (ls : LetterTrees) → LettersAreIn In ls → PartsAreIn In (letters_parts ls)
  letters-in tree.no_letter h = tt
  letters-in (tree.more_letters letter e others) h = (h.1, both (expr_parts e) (letters_parts others) (expr-parts-in e h.1) (letters-in others h.2))

  via-in : (v : NamedViaTree) → ViaIsIn In v → PartsAreIn In (via_parts v)
  via-in tree.by_itself h = tt
  via-in (tree.via text given) h = letters-in given h.1

  mutual
    stmt-parts-in : (st : NamedStmtTree) → StmtIsIn In st → PartsAreIn In (stmt_parts st)
    stmt-parts-in (tree.assign t op sign e at) h = ((h.0, h.2), both (target_parts t) (value_parts op e) (target-in t h.0) (value-in op e h.2))
    stmt-parts-in (tree.keep t c at) h = ((h.0, h.1), both (target_parts t) (whole_call_parts c) (target-in t h.0) (whole-call-in c h.1))
    stmt-parts-in (tree.do_call c at) h = whole-call-in c h.0
    stmt-parts-in (tree.branch arms at) h = arms-parts-in arms h.0
    stmt-parts-in (tree.loop e clauses body at) h =
        both (condition_parts e) (clauses_parts clauses ++ block_parts body) (condition-in e h.0) (both (clauses_parts clauses) (block_parts body) (clauses-in clauses h.1) (block-parts-in body h.2))
    stmt-parts-in (tree.leave outwards at) h = tt
    stmt-parts-in (tree.again outwards at) h = tt
    stmt-parts-in (tree.back e at) h = ((h.1, h.0), end-parts-in e h.0)
    stmt-parts-in (tree.suspend e at) h = ((h.1, h.0), expr-parts-in e h.0)
    stmt-parts-in (tree.claim e by at) h = both (condition_parts e) (via_parts by) (condition-in e h.0) (via-in by h.1)

    block-parts-in : (b : NamedBlockTree) → BlockIsIn In b → PartsAreIn In (block_parts b)
    block-parts-in (tree.close at) h = tt
    block-parts-in (tree.more_stmts first others) h = both (stmt_parts first) (block_parts others) (stmt-parts-in first h.0) (block-parts-in others h.1)

    arms-parts-in : (arms : NamedArmTrees) → ArmsAreIn In arms → PartsAreIn In (arms_parts arms)
    arms-parts-in tree.no_else h = tt
    arms-parts-in (tree.otherwise body) h = block-parts-in body h
    arms-parts-in (tree.arm e body others) h =
        both (condition_parts e) (block_parts body ++ arms_parts others) (condition-in e h.0) (both (block_parts body) (arms_parts others) (block-parts-in body h.1) (arms-parts-in others h.2))

  -- The same in a setting, and throughout a package.
  at-sites-in : (s : Setting) (parts : List Part) → PartsAreIn In parts → SitesAreIn In (at_sites s parts)
  at-sites-in s parts a = all-mapped (SiteIsIn In) (PartIsIn In) (λ x. record { around = s; part = x }) (λ x h. h) parts a

  declared-in : (role : Role) (t : NamedTypeTree) → TypeIsIn In t → PartsAreIn In (declared_parts role t)
  declared-in role t h = (h, type-parts-in t h)

  variables-in : (role : Role) (xs : List VarTree) → VariablesAreIn In xs → PartsAreIn In (variables_parts role xs)
  variables-in role xs a = all-flat (PartIsIn In) (VariableIsIn In) (λ x. declared_parts role x.of) (λ x h. declared-in role x.of h.1) xs a

  consts-in : (known : List (Option Constant)) (cs : List ConstTree) → AllByRecursion (ConstantIsIn In) cs → SitesAreIn In (const_sites known cs)
  consts-in known [] a = tt
  consts-in known (c ∷ cs) a =
      let inner = both (declared_parts roles.Const c.of) (expr_parts c.value) (declared-in roles.Const c.of a.0.1) (expr-parts-in c.value a.0.2) in
      let parts : List Part = constant_declared c ∷ (declared_parts roles.Const c.of ++ expr_parts c.value) in
      all-append (SiteIsIn In) (at_sites (among_constants known) parts) (const_sites (known ++ constant_made known c ∷ []) cs)
      (at-sites-in (among_constants known) parts (a.0, inner)) (consts-in (known ++ constant_made known c ∷ []) cs a.1)

  result-in : (mark : Mark) (gives : Option NamedTypeTree) → ResultIsIn In gives → PartsAreIn In (result_parts mark gives)
  result-in mark None h = tt
  result-in mark (Some t) h = declared-in (roles.Result mark) t h

  method-in : (p : NamedPackageTree) (m : NamedMethodTree) → MethodIsIn In m → SitesAreIn In (method_sites p m)
  method-in p m h =
      let args = variables_parts roles.Arg m.args in
      let locals = variables_parts roles.Local m.locals in
      let result = result_parts m.mark m.gives in
      let parts : List Part = whole_body m.body ∷ block_parts m.body in
      all-append (SiteIsIn In) (at_sites (for_types p) (args ++ (locals ++ result))) (at_sites (in_method p m) parts)
      (at-sites-in (for_types p) (args ++ (locals ++ result))
      (both args (locals ++ result) (variables-in roles.Arg m.args h.1) (both locals result (variables-in roles.Local m.locals h.2) (result-in m.mark m.gives h.3))))
      (at-sites-in (in_method p m) parts (h.4, block-parts-in m.body h.4))

  pub sites-in : (p : NamedPackageTree) → PackageIsIn In p → SitesAreIn In (sites p)
  unfolding sites
  sites-in p h =
      let s = for_types p in
      let statuses = at_sites s (map status_declared p.statuses) in
      let fields = at_sites s (flat_map (λ x. variables_parts roles.Field x.fields) p.structs) in
      let methods = flat_map (method_sites p) p.methods in
      all-append (SiteIsIn In) (const_sites [] p.consts) (statuses ++ (fields ++ methods)) (consts-in [] p.consts h.consts)
      (all-append (SiteIsIn In) statuses (fields ++ methods)
      (at-sites-in s (map status_declared p.statuses) (all-mapped (PartIsIn In) (WordIsIn In) status_declared (λ w k. k) p.statuses h.statuses))
      (all-append (SiteIsIn In) fields methods
      (at-sites-in s (flat_map (λ x. variables_parts roles.Field x.fields) p.structs) (all-flat (PartIsIn In) (StructIsIn In) (λ x. variables_parts roles.Field x.fields) (λ x k. variables-in roles.Field x.fields k.1) p.structs h.structs))
      (all-flat (SiteIsIn In) (MethodIsIn In) (method_sites p) (λ m k. method-in p m k) p.methods h.methods)))
