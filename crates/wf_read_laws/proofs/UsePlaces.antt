-- The uses of names and the jumps of a package stand where its declarations stand.
use Rattle.std.proofs.Common.{Option, Some, None, List, [], ◌∷◌, ◌++◌}
use Rattle.std.specs.List.{AllByRecursion, flat_map}
use Rattle.wf_text.specs.declared.place.Place.{Place}
use Rattle.wf_ast.specs.declared.parsed.Name.{Name}
use Rattle.wf_ast.specs.declared.parsed.Receiver.{Receiver}
use Rattle.wf_ast.specs.declared.parsed.Receiver.TheVariants as receivers
use Rattle.wf_ast.specs.ParsedTree as tree
use Rattle.wf_ast.specs.ParsedTree.{ExprTree, PartTree, LinkTrees, GivenTrees, CallTree, TypeTree, BoundsTree, TargetTree, ClauseTrees, ViaTree, StmtTree, BlockTree, ArmTrees, ResultTree}
use Rattle.wf_names_rules.specs.Declarations.{Variable, Constant, Method, Declared, as_variable}
use Rattle.wf_names_rules.specs.Uses.{Use, own_status, base_status, variable, structure, method, receiver_uses, uses_of, part_uses, link_uses, given_uses, call_uses, type_uses, bounds_uses, target_uses, clause_uses, via_uses, stmt_uses, block_uses, arm_uses, result_uses, variable_uses, method_uses, Scope, constant_scope, struct_scope, method_scope, Site, sites_in, constant_sites, struct_sites, method_sites, sites}
use Rattle.wf_names_rules.specs.Jumps.{Jump, labelled, to_label, to_innermost, label_jumps, jump, stmt_jumps, block_jumps, arm_jumps}
use Rattle.wf_read_laws.specs.Places.{NameIsIn, PathIsIn, ReceiverIsIn, ExprIsIn, PartIsIn, LinksAreIn, GivenAreIn, CallIsIn, TypeIsIn, BoundsAreIn, TargetIsIn, ClausesAreIn, ViaIsIn, LabelIsIn, StmtIsIn, BlockIsIn, ArmsAreIn, ResultIsIn}
use Rattle.wf_read_laws.proofs.ListLemmas.{all-append, all-mapped, all-flat}
use Rattle.wf_read_laws.proofs.DeclaredPlaces.{VariableIsIn, VariablesAreIn, ConstantIsIn, StructureIsIn, MethodIsIn, DeclaredIsIn}

-- A use whose names stand in the region.
abbrev pub UseIsIn : (Place → Type 0) → Use → Type 0
UseIsIn In (own_status text) = NameIsIn In text
UseIsIn In (base_status text) = NameIsIn In text
UseIsIn In (variable path) = PathIsIn In path
UseIsIn In (structure name) = NameIsIn In name
UseIsIn In (method c) = CallIsIn In c

abbrev pub UsesAreIn : (Place → Type 0) → List Use → Type 0
UsesAreIn In uses = AllByRecursion (UseIsIn In) uses

abbrev pub SiteIsIn : (Place → Type 0) → Site → Type 0
SiteIsIn In site = UseIsIn In site.usage

abbrev pub SitesAreIn : (Place → Type 0) → List Site → Type 0
SitesAreIn In sites = AllByRecursion (SiteIsIn In) sites

-- A jump whose label, or else whose statement, stands there.
abbrev pub JumpIsIn : (Place → Type 0) → Jump → Type 0
JumpIsIn In (labelled loops label) = NameIsIn In label
JumpIsIn In (to_label loops label) = NameIsIn In label
JumpIsIn In (to_innermost loops at) = In at

abbrev pub JumpsAreIn : (Place → Type 0) → List Jump → Type 0
JumpsAreIn In jumps = AllByRecursion (JumpIsIn In) jumps

module _ (In : Place → Type 0) where
  both : (uses others : List Use) → UsesAreIn In uses → UsesAreIn In others → UsesAreIn In (uses ++ others)
  both uses others a b = all-append (UseIsIn In) uses others a b

  receiver-used : (on : Receiver) → ReceiverIsIn In on → UsesAreIn In (receiver_uses on)
  receiver-used (receivers.This at) h = tt
  receiver-used (receivers.Path path) h = (h, tt)

  mutual
    expr-used : (e : ExprTree) → ExprIsIn In e → UsesAreIn In (uses_of e)
    expr-used (tree.number value at) h = tt
    expr-used (tree.own_status text) h = (h, tt)
    expr-used (tree.base_status text at) h = (h.0, tt)
    expr-used (tree.fine at) h = tt
    expr-used (tree.truth value at) h = tt
    expr-used (tree.path path) h = (h, tt)
    expr-used (tree.index base place at) h = (h.0, expr-used place h.1)
    expr-used (tree.slice base from to at) h = (h.0, both (part_uses from) (part_uses to) (part-used from h.1) (part-used to h.2))
    expr-used (tree.answer c) h = call-used c h
    expr-used (tree.chain op first links at) h = both (uses_of first) (link_uses links) (expr-used first h.0) (links-used links h.1)
    expr-used (tree.convert of to at) h = both (uses_of of) (type_uses to) (expr-used of h.0) (type-used to h.1)
    expr-used (tree.negation of at) h = expr-used of h.0

    part-used : (p : PartTree) → PartIsIn In p → UsesAreIn In (part_uses p)
    part-used tree.absent h = tt
    part-used (tree.present part) h = expr-used part h

    links-used : (ls : LinkTrees) → LinksAreIn In ls → UsesAreIn In (link_uses ls)
    links-used tree.no_link h = tt
    links-used (tree.link sign operand others) h = both (uses_of operand) (link_uses others) (expr-used operand h.1) (links-used others h.2)

    given-used : (gs : GivenTrees) → GivenAreIn In gs → UsesAreIn In (given_uses gs)
    given-used tree.no_given h = tt
    given-used (tree.more_given name value others) h = both (uses_of value) (given_uses others) (expr-used value h.1) (given-used others h.2)

    call-used : (c : CallTree) → CallIsIn In c → UsesAreIn In (call_uses c)
    call-used (tree.call on name mark args) h =
        let itself : List Use = method (tree.call on name mark args) ∷ [] in
        both (receiver_uses on) (given_uses args ++ itself) (receiver-used on h.0) (both (given_uses args) itself (given-used args h.2) (h, tt))

    type-used : (t : TypeTree) → TypeIsIn In t → UsesAreIn In (type_uses t)
    type-used (tree.slice_of at element) h = type-used element h.1
    type-used (tree.array_of length at element) h = both (uses_of length) (type_uses element) (expr-used length h.0) (type-used element h.2)
    type-used (tree.base_type name at bounds) h = bounds-used bounds h.2
    type-used (tree.status_type at bounds) h = bounds-used bounds h.1
    type-used (tree.struct_type name) h = (h, tt)

    bounds-used : (b : BoundsTree) → BoundsAreIn In b → UsesAreIn In (bounds_uses b)
    bounds-used tree.unrefined h = tt
    bounds-used (tree.refined low high) h = both (part_uses low) (uses_of high) (part-used low h.0) (expr-used high h.1)

  target-used : (t : TargetTree) → TargetIsIn In t → UsesAreIn In (target_uses t)
  target-used (tree.to_path path) h = (h, tt)
  target-used (tree.to_element base place at) h = (h.0, expr-used place h.1)

  clauses-used : (cs : ClauseTrees) → ClausesAreIn In cs → UsesAreIn In (clause_uses cs)
  clauses-used tree.no_clause h = tt
  clauses-used (tree.more_clauses kind condition at others) h = both (uses_of condition) (clause_uses others) (expr-used condition h.0) (clauses-used others h.2)

  via-used : (v : ViaTree) → ViaIsIn In v → UsesAreIn In (via_uses v)
  via-used tree.by_itself h = tt
  via-used (tree.via axiom_name given) h = given-used given h.1

  mutual
    stmt-used : (s : StmtTree) → StmtIsIn In s → UsesAreIn In (stmt_uses s)
    stmt-used (tree.var name of at) h = type-used of h.1
    stmt-used (tree.assign target op sign value at) h = both (target_uses target) (uses_of value) (target-used target h.0) (expr-used value h.2)
    stmt-used (tree.keep target c at) h = both (target_uses target) (call_uses c) (target-used target h.0) (call-used c h.1)
    stmt-used (tree.do_call c at) h = call-used c h.0
    stmt-used (tree.branch arms at) h = arms-used arms h.0
    stmt-used (tree.loop label condition clauses body at) h =
        both (uses_of condition) (clause_uses clauses ++ block_uses body) (expr-used condition h.1)
        (both (clause_uses clauses) (block_uses body) (clauses-used clauses h.2) (block-used body h.3))
    stmt-used (tree.leave label at) h = tt
    stmt-used (tree.again label at) h = tt
    stmt-used (tree.back value at) h = part-used value h.0
    stmt-used (tree.suspend value at) h = expr-used value h.0
    stmt-used (tree.claim goal axiom_named at) h = both (uses_of goal) (via_uses axiom_named) (expr-used goal h.0) (via-used axiom_named h.1)

    block-used : (b : BlockTree) → BlockIsIn In b → UsesAreIn In (block_uses b)
    block-used (tree.close at) h = tt
    block-used (tree.more_stmts first others) h = both (stmt_uses first) (block_uses others) (stmt-used first h.0) (block-used others h.1)

    arms-used : (arms : ArmTrees) → ArmsAreIn In arms → UsesAreIn In (arm_uses arms)
    arms-used tree.no_else h = tt
    arms-used (tree.otherwise body) h = block-used body h
    arms-used (tree.arm condition body others) h =
        both (uses_of condition) (block_uses body ++ arm_uses others) (expr-used condition h.0)
        (both (block_uses body) (arm_uses others) (block-used body h.1) (arms-used others h.2))

  result-used : (r : ResultTree) → ResultIsIn In r → UsesAreIn In (result_uses r)
  result-used tree.gives_nothing h = tt
  result-used (tree.gives of) h = type-used of h

  variables-used : (vs : List Variable) → VariablesAreIn In vs → UsesAreIn In (variable_uses vs)
  variables-used vs a = all-flat (UseIsIn In) (VariableIsIn In) (λ v. type_uses v.of) (λ v h. type-used v.of h.1) vs a

  method-used : (m : Method) → MethodIsIn In m → UsesAreIn In (method_uses m)
  method-used m h =
      both (variable_uses m.args) (result_uses m.result ++ block_uses m.body) (variables-used m.args h.2)
      (both (result_uses m.result) (block_uses m.body) (result-used m.result h.3) (block-used m.body h.5))

  in-scope : (scope : Scope) (uses : List Use) → UsesAreIn In uses → SitesAreIn In (sites_in scope uses)
  in-scope scope uses a = all-mapped (SiteIsIn In) (UseIsIn In) (λ usage. record { scope = scope; usage = usage }) (λ usage h. h) uses a

  constants-used : (known : List Variable) (cs : List Constant) → AllByRecursion (ConstantIsIn In) cs → SitesAreIn In (constant_sites known cs)
  constants-used known [] a = tt
  constants-used known (c ∷ cs) a =
      let here = type_uses c.of ++ uses_of c.value in
      all-append (SiteIsIn In) (sites_in (constant_scope known) here) (constant_sites (known ++ as_variable c ∷ []) cs)
      (in-scope (constant_scope known) here (both (type_uses c.of) (uses_of c.value) (type-used c.of a.0.1) (expr-used c.value a.0.2)))
      (constants-used (known ++ as_variable c ∷ []) cs a.1)

  pub sites-are-in : (d : Declared) → DeclaredIsIn In d → SitesAreIn In (sites d)
  sites-are-in d h =
      let in_structs = all-flat (SiteIsIn In) (StructureIsIn In) (struct_sites d) (λ s k. in-scope (struct_scope d s) (variable_uses s.fields) (variables-used s.fields k.1)) d.structs h.structs in
      let in_methods = all-flat (SiteIsIn In) (MethodIsIn In) (method_sites d) (λ m k. in-scope (method_scope d m) (structure m.owner ∷ method_uses m) (k.0, method-used m k)) d.methods h.methods in
      all-append (SiteIsIn In) (constant_sites [] d.constants) (flat_map (struct_sites d) d.structs ++ flat_map (method_sites d) d.methods)
      (constants-used [] d.constants h.constants)
      (all-append (SiteIsIn In) (flat_map (struct_sites d) d.structs) (flat_map (method_sites d) d.methods) in_structs in_methods)

  label-jumps-in : (loops : List (Option Name)) (label : Option Name) → LabelIsIn In label → JumpsAreIn In (label_jumps loops label)
  label-jumps-in loops None h = tt
  label-jumps-in loops (Some label) h = (h, tt)

  jump-in : (loops : List (Option Name)) (label : Option Name) (at : Place) → LabelIsIn In label → In at → JumpIsIn In (jump loops label at)
  jump-in loops None at h here = here
  jump-in loops (Some label) at h here = h

  mutual
    stmt-jumps-in : (loops : List (Option Name)) (s : StmtTree) → StmtIsIn In s → JumpsAreIn In (stmt_jumps loops s)
    stmt-jumps-in loops (tree.var name of at) h = tt
    stmt-jumps-in loops (tree.assign target op sign value at) h = tt
    stmt-jumps-in loops (tree.keep target c at) h = tt
    stmt-jumps-in loops (tree.do_call c at) h = tt
    stmt-jumps-in loops (tree.branch arms at) h = arm-jumps-in loops arms h.0
    stmt-jumps-in loops (tree.loop label condition clauses body at) h =
        all-append (JumpIsIn In) (label_jumps loops label) (block_jumps (loops ++ label ∷ []) body) (label-jumps-in loops label h.0) (block-jumps-in (loops ++ label ∷ []) body h.3)
    stmt-jumps-in loops (tree.leave label at) h = (jump-in loops label at h.0 h.1, tt)
    stmt-jumps-in loops (tree.again label at) h = (jump-in loops label at h.0 h.1, tt)
    stmt-jumps-in loops (tree.back value at) h = tt
    stmt-jumps-in loops (tree.suspend value at) h = tt
    stmt-jumps-in loops (tree.claim goal axiom_named at) h = tt

    pub block-jumps-in : (loops : List (Option Name)) (b : BlockTree) → BlockIsIn In b → JumpsAreIn In (block_jumps loops b)
    block-jumps-in loops (tree.close at) h = tt
    block-jumps-in loops (tree.more_stmts first others) h = all-append (JumpIsIn In) (stmt_jumps loops first) (block_jumps loops others) (stmt-jumps-in loops first h.0) (block-jumps-in loops others h.1)

    arm-jumps-in : (loops : List (Option Name)) (arms : ArmTrees) → ArmsAreIn In arms → JumpsAreIn In (arm_jumps loops arms)
    arm-jumps-in loops tree.no_else h = tt
    arm-jumps-in loops (tree.otherwise body) h = block-jumps-in loops body h
    arm-jumps-in loops (tree.arm condition body others) h = all-append (JumpIsIn In) (block_jumps loops body) (arm_jumps loops others) (block-jumps-in loops body h.1) (arm-jumps-in loops others h.2)
