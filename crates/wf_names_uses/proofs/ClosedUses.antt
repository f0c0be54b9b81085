-- Where a call stands among the uses of a name, what it is made on and what the values of its arguments use stand there too.
use Rattle.std.specs.List.{flat_map}
use Rattle.std.proofs.Common.{◌≡◌, ◌⊎◌, ℕ, zero, suc, List, [], ◌∷◌, ◌++◌, Some, slice_get, refl, sym, ap, subst, inl, inr}
use Rattle.wf_ast.specs.declared.parsed.Name.{Name}
use Rattle.wf_ast.specs.declared.parsed.Path.{Path}
use Rattle.wf_ast.specs.declared.parsed.Receiver.{Receiver}
use Rattle.wf_ast.specs.declared.parsed.Receiver.TheVariants as receivers
use Rattle.wf_ast.specs.declared.parsed.WrittenMark.{WrittenMark}
use Rattle.wf_ast.specs.ParsedTree as tree
use Rattle.wf_ast.specs.ParsedTree.{ExprTree, PartTree, LinkTrees, GivenTrees, CallTree, TypeTree, BoundsTree, TargetTree, ClauseTrees, ViaTree, StmtTree, BlockTree, ArmTrees, ResultTree}
use Rattle.wf_names_rules.specs.Declarations.{Variable, Constant, Structure, Method, Declared, as_variable}
use Rattle.wf_names_rules.specs.Uses as uses
use Rattle.wf_names_rules.specs.Uses.{Use, Scope, Site, receiver_uses, uses_of, part_uses, link_uses, given_uses, call_uses, type_uses, bounds_uses, target_uses, clause_uses, via_uses, stmt_uses, block_uses, arm_uses, result_uses, variable_uses, method_uses, constant_scope, struct_scope, method_scope, sites_in, constant_sites, struct_sites, method_sites, sites}
use Rattle.wf_names_rules.specs.NameRules.{IsUsed}

-- An item of a list.
abbrev pub In : {X : Type 0} → X → List X → Type 0
In y [] = ⊥
In y (x ∷ xs) = (x ≡ y) ⊎ In y xs

pub in-front : {X : Type 0} (y : X) (xs ys : List X) → In y xs → In y (xs ++ ys)
in-front y [] ys h = absurd h
in-front y (x ∷ xs) ys (inl e) = inl e
in-front y (x ∷ xs) ys (inr h) = inr (in-front y xs ys h)

pub in-behind : {X : Type 0} (y : X) (xs ys : List X) → In y ys → In y (xs ++ ys)
in-behind y [] ys h = h
in-behind y (x ∷ xs) ys h = inr (in-behind y xs ys h)

pub in-parts : {X : Type 0} (y : X) (xs ys : List X) → In y (xs ++ ys) → In y xs ⊎ In y ys
in-parts y [] ys h = inr h
in-parts y (x ∷ xs) ys (inl e) = inl (inl e)
in-parts y (x ∷ xs) ys (inr h) = elim (in-parts y xs ys h) [ inl p ↦ inl (inr p) | inr q ↦ inr q ]

pub in-place : {X : Type 0} (y : X) (xs : List X) → In y xs → (i : ℕ) × (slice_get xs i ≡ Some y)
in-place y [] h = absurd h
in-place y (x ∷ xs) (inl e) = (0, ap (λ z. Some z) e)
in-place y (x ∷ xs) (inr h) = let r = in-place y xs h in (suc r.0, r.1)

pub place-in : {X : Type 0} (y : X) (xs : List X) (i : ℕ) → slice_get xs i ≡ Some y → In y xs
place-in y [] i e = absurd (cc e)
place-in y (x ∷ xs) zero e = inl (let same : x ≡ y = cc e in same)
place-in y (x ∷ xs) (suc i) e = inr (place-in y xs i e)

-- What is made of an item is among what is made of all.
pub in-flat : {X A : Type 0} (f : A → List X) (y : X) (all : List A) (a : A) → In a all → In y (f a) → In y (flat_map f all)
in-flat f y [] a h m = absurd h
in-flat f y (b ∷ bs) a (inl e) m = in-front y (f b) (flat_map f bs) (subst (λ c. In y (f c)) (sym e) m)
in-flat f y (b ∷ bs) a (inr h) m = in-behind y (f b) (flat_map f bs) (in-flat f y bs a h m)

-- What a call is made on, and what the values of its arguments use.
abbrev pub call_parts : CallTree → List Use
call_parts (tree.call on name mark args) = receiver_uses on ++ given_uses args

-- A list of uses has with each call its parts.
abbrev pub Closed : List Use → Type 0
Closed us = (c : CallTree) (u : Use) → In (uses.method c) us → In u (call_parts c) → In u us

closed-none : Closed []
closed-none c u m p = absurd m

closed-append : (us vs : List Use) → Closed us → Closed vs → Closed (us ++ vs)
closed-append us vs h k c u m p = elim (in-parts (uses.method c) us vs m) [ inl a ↦ in-front u us vs (h c u a p) | inr b ↦ in-behind u us vs (k c u b p) ]

closed-variable : (path : Path) → Closed (uses.variable path ∷ [])
closed-variable path c u (inl e) p = absurd (cc e)
closed-variable path c u (inr m) p = absurd m

closed-structure : (name : Name) → Closed (uses.structure name ∷ [])
closed-structure name c u (inl e) p = absurd (cc e)
closed-structure name c u (inr m) p = absurd m

closed-own_status : (text : Name) → Closed (uses.own_status text ∷ [])
closed-own_status text c u (inl e) p = absurd (cc e)
closed-own_status text c u (inr m) p = absurd m

closed-base_status : (text : Name) → Closed (uses.base_status text ∷ [])
closed-base_status text c u (inl e) p = absurd (cc e)
closed-base_status text c u (inr m) p = absurd m

no-call-on : (on : Receiver) (c : CallTree) → In (uses.method c) (receiver_uses on) → ⊥
no-call-on (receivers.This at) c m = m
no-call-on (receivers.Path path) c (inl e) = cc e
no-call-on (receivers.Path path) c (inr m) = m

closed-made : (on : Receiver) (name : Name) (mark : WrittenMark) (args : GivenTrees) → Closed (given_uses args) → Closed (call_uses (tree.call on name mark args))
closed-made on name mark args h c u m p = elim (in-parts (uses.method c) (receiver_uses on) (given_uses args ++ uses.method (tree.call on name mark args) ∷ []) m) [
  | inl a ↦ absurd (no-call-on on c a)
  | inr b ↦ elim (in-parts (uses.method c) (given_uses args) (uses.method (tree.call on name mark args) ∷ []) b) [
    | inl g ↦ in-behind u (receiver_uses on) (given_uses args ++ uses.method (tree.call on name mark args) ∷ []) (in-front u (given_uses args) (uses.method (tree.call on name mark args) ∷ []) (h c u g p))
    | inr last ↦ elim last [ inl e ↦ by_itself (let same : tree.call on name mark args ≡ c = cc e in same) | inr none ↦ absurd none ]
  ]
]
  where
    by_itself : tree.call on name mark args ≡ c → In u (receiver_uses on ++ (given_uses args ++ uses.method (tree.call on name mark args) ∷ []))
    by_itself same = elim (in-parts u (receiver_uses on) (given_uses args) (subst (λ x. In u (call_parts x)) (sym same) p)) [
      | inl r ↦ in-front u (receiver_uses on) (given_uses args ++ uses.method (tree.call on name mark args) ∷ []) r
      | inr g ↦ in-behind u (receiver_uses on) (given_uses args ++ uses.method (tree.call on name mark args) ∷ []) (in-front u (given_uses args) (uses.method (tree.call on name mark args) ∷ []) g)
    ]

mutual
  pub closed-expr : (e : ExprTree) → Closed (uses_of e)
  closed-expr (tree.number value at) = closed-none
  closed-expr (tree.own_status text) = closed-own_status text
  closed-expr (tree.base_status text at) = closed-base_status text
  closed-expr (tree.fine at) = closed-none
  closed-expr (tree.truth value at) = closed-none
  closed-expr (tree.path path) = closed-variable path
  closed-expr (tree.index base place at) = closed-append (uses.variable base ∷ []) (uses_of place) (closed-variable base) (closed-expr place)
  closed-expr (tree.slice base from to at) =
      closed-append (uses.variable base ∷ []) (part_uses from ++ part_uses to) (closed-variable base) (closed-append (part_uses from) (part_uses to) (closed-part from) (closed-part to))
  closed-expr (tree.answer c) = closed-call c
  closed-expr (tree.chain op first links at) = closed-append (uses_of first) (link_uses links) (closed-expr first) (closed-links links)
  closed-expr (tree.convert of to at) = closed-append (uses_of of) (type_uses to) (closed-expr of) (closed-type to)
  closed-expr (tree.negation of at) = closed-expr of

  pub closed-part : (p : PartTree) → Closed (part_uses p)
  closed-part tree.absent = closed-none
  closed-part (tree.present part) = closed-expr part

  pub closed-links : (ls : LinkTrees) → Closed (link_uses ls)
  closed-links tree.no_link = closed-none
  closed-links (tree.link sign operand others) = closed-append (uses_of operand) (link_uses others) (closed-expr operand) (closed-links others)

  pub closed-given : (gs : GivenTrees) → Closed (given_uses gs)
  closed-given tree.no_given = closed-none
  closed-given (tree.more_given name value others) = closed-append (uses_of value) (given_uses others) (closed-expr value) (closed-given others)

  pub closed-call : (c : CallTree) → Closed (call_uses c)
  closed-call (tree.call on name mark args) = closed-made on name mark args (closed-given args)

  pub closed-type : (t : TypeTree) → Closed (type_uses t)
  closed-type (tree.slice_of at element) = closed-type element
  closed-type (tree.array_of length at element) = closed-append (uses_of length) (type_uses element) (closed-expr length) (closed-type element)
  closed-type (tree.base_type name at bounds) = closed-bounds bounds
  closed-type (tree.status_type at bounds) = closed-bounds bounds
  closed-type (tree.struct_type name) = closed-structure name

  pub closed-bounds : (b : BoundsTree) → Closed (bounds_uses b)
  closed-bounds tree.unrefined = closed-none
  closed-bounds (tree.refined low high) = closed-append (part_uses low) (uses_of high) (closed-part low) (closed-expr high)

closed-target : (t : TargetTree) → Closed (target_uses t)
closed-target (tree.to_path path) = closed-variable path
closed-target (tree.to_element base place at) = closed-append (uses.variable base ∷ []) (uses_of place) (closed-variable base) (closed-expr place)

closed-clauses : (cs : ClauseTrees) → Closed (clause_uses cs)
closed-clauses tree.no_clause = closed-none
closed-clauses (tree.more_clauses kind condition at others) = closed-append (uses_of condition) (clause_uses others) (closed-expr condition) (closed-clauses others)

closed-via : (v : ViaTree) → Closed (via_uses v)
closed-via tree.by_itself = closed-none
closed-via (tree.via axiom_name given) = closed-given given

mutual
  closed-stmt : (s : StmtTree) → Closed (stmt_uses s)
  closed-stmt (tree.var name of at) = closed-type of
  closed-stmt (tree.assign target op sign value at) = closed-append (target_uses target) (uses_of value) (closed-target target) (closed-expr value)
  closed-stmt (tree.keep target c at) = closed-append (target_uses target) (call_uses c) (closed-target target) (closed-call c)
  closed-stmt (tree.do_call c at) = closed-call c
  closed-stmt (tree.branch arms at) = closed-arms arms
  closed-stmt (tree.loop label condition clauses body at) =
      closed-append (uses_of condition) (clause_uses clauses ++ block_uses body) (closed-expr condition) (closed-append (clause_uses clauses) (block_uses body) (closed-clauses clauses) (closed-block body))
  closed-stmt (tree.leave label at) = closed-none
  closed-stmt (tree.again label at) = closed-none
  closed-stmt (tree.back value at) = closed-part value
  closed-stmt (tree.suspend value at) = closed-expr value
  closed-stmt (tree.claim goal axiom_named at) = closed-append (uses_of goal) (via_uses axiom_named) (closed-expr goal) (closed-via axiom_named)

  closed-block : (b : BlockTree) → Closed (block_uses b)
  closed-block (tree.close at) = closed-none
  closed-block (tree.more_stmts first others) = closed-append (stmt_uses first) (block_uses others) (closed-stmt first) (closed-block others)

  closed-arms : (arms : ArmTrees) → Closed (arm_uses arms)
  closed-arms tree.no_else = closed-none
  closed-arms (tree.otherwise body) = closed-block body
  closed-arms (tree.arm condition body others) =
      closed-append (uses_of condition) (block_uses body ++ arm_uses others) (closed-expr condition) (closed-append (block_uses body) (arm_uses others) (closed-block body) (closed-arms others))

closed-result : (r : ResultTree) → Closed (result_uses r)
closed-result tree.gives_nothing = closed-none
closed-result (tree.gives of) = closed-type of

closed-variables : (vs : List Variable) → Closed (variable_uses vs)
closed-variables [] = closed-none
closed-variables (v ∷ vs) = closed-append (type_uses v.of) (variable_uses vs) (closed-type v.of) (closed-variables vs)

closed-method : (m : Method) → Closed (method_uses m)
closed-method m =
    closed-append (variable_uses m.args) (result_uses m.result ++ block_uses m.body) (closed-variables m.args)
    (closed-append (result_uses m.result) (block_uses m.body) (closed-result m.result) (closed-block m.body))

-- The same of places, each with what is known there.
abbrev pub site : Scope → Use → Site
site scope usage = record { scope = scope; usage = usage }

abbrev ClosedSites : List Site → Type 0
ClosedSites xs = (scope : Scope) (c : CallTree) (u : Use) → In (site scope (uses.method c)) xs → In u (call_parts c) → In (site scope u) xs

closed-sites-none : ClosedSites []
closed-sites-none scope c u m p = absurd m

closed-sites-append : (xs ys : List Site) → ClosedSites xs → ClosedSites ys → ClosedSites (xs ++ ys)
closed-sites-append xs ys h k scope c u m p = elim (in-parts (site scope (uses.method c)) xs ys m) [
  | inl a ↦ in-front (site scope u) xs ys (h scope c u a p)
  | inr b ↦ in-behind (site scope u) xs ys (k scope c u b p)
]

pub in-scope : (scope : Scope) (us : List Use) (u : Use) → In u us → In (site scope u) (sites_in scope us)
in-scope scope [] u h = absurd h
in-scope scope (v ∷ vs) u (inl e) = inl (ap (site scope) e)
in-scope scope (v ∷ vs) u (inr h) = inr (in-scope scope vs u h)

scope-cause : (scope : Scope) (us : List Use) (at : Scope) (u : Use) → In (site at u) (sites_in scope us) → (scope ≡ at) × In u us
scope-cause scope [] at u h = absurd h
scope-cause scope (v ∷ vs) at u (inl e) = (ap (λ (x : Site). x.scope) e, inl (ap (λ (x : Site). x.usage) e))
scope-cause scope (v ∷ vs) at u (inr h) = let r = scope-cause scope vs at u h in (r.0, inr r.1)

closed-in : (scope : Scope) (us : List Use) → Closed us → ClosedSites (sites_in scope us)
closed-in scope us h at c u m p =
    let r = scope-cause scope us at (uses.method c) m in
    subst (λ s. In (site s u) (sites_in scope us)) r.0 (in-scope scope us u (h c u r.1 p))

closed-constants : (known : List Variable) (cs : List Constant) → ClosedSites (constant_sites known cs)
closed-constants known [] = closed-sites-none
closed-constants known (c ∷ cs) =
    closed-sites-append (sites_in (constant_scope known) (type_uses c.of ++ uses_of c.value)) (constant_sites (known ++ as_variable c ∷ []) cs)
    (closed-in (constant_scope known) (type_uses c.of ++ uses_of c.value) (closed-append (type_uses c.of) (uses_of c.value) (closed-type c.of) (closed-expr c.value)))
    (closed-constants (known ++ as_variable c ∷ []) cs)

closed-structs : (d : Declared) (all : List Structure) → ClosedSites (flat_map (struct_sites d) all)
closed-structs d [] = closed-sites-none
closed-structs d (s ∷ ss) =
    closed-sites-append (struct_sites d s) (flat_map (struct_sites d) ss) (closed-in (struct_scope d s) (variable_uses s.fields) (closed-variables s.fields)) (closed-structs d ss)

closed-methods : (d : Declared) (all : List Method) → ClosedSites (flat_map (method_sites d) all)
closed-methods d [] = closed-sites-none
closed-methods d (m ∷ ms) =
    closed-sites-append (method_sites d m) (flat_map (method_sites d) ms)
    (closed-in (method_scope d m) (uses.structure m.owner ∷ method_uses m) (closed-append (uses.structure m.owner ∷ []) (method_uses m) (closed-structure m.owner) (closed-method m)))
    (closed-methods d ms)

closed-sites : (d : Declared) → ClosedSites (sites d)
closed-sites d =
    closed-sites-append (constant_sites [] d.constants) (flat_map (struct_sites d) d.structs ++ flat_map (method_sites d) d.methods) (closed-constants [] d.constants)
    (closed-sites-append (flat_map (struct_sites d) d.structs) (flat_map (method_sites d) d.methods) (closed-structs d d.structs) (closed-methods d d.methods))

-- The parts of a call that a package makes are used where the call stands.
pub parts-used : (d : Declared) (scope : Scope) (c : CallTree) (u : Use) → IsUsed d scope (uses.method c) → In u (call_parts c) → IsUsed d scope u
parts-used d scope c u used p =
    in-place (site scope u) (sites d) (closed-sites d scope c u (place-in (site scope (uses.method c)) (sites d) used.0 used.1) p)

-- The struct that is the type of a field is used in the declaration of the field's struct.
pub field-used : (d : Declared) (s : Structure) (v : Variable) (name : Name) → In s d.structs → In v s.fields → v.of ≡ tree.struct_type name → IsUsed d (struct_scope d s) (uses.structure name)
field-used d s v name is h of =
    let usage = uses.structure name in
    let here : In usage (type_uses v.of) = subst (λ t. In usage (type_uses t)) (sym of) (inl refl) in
    let inside : In usage (variable_uses s.fields) = in-flat (λ (w : Variable). type_uses w.of) usage s.fields v h here in
    let spot : In (site (struct_scope d s) usage) (struct_sites d s) = in-scope (struct_scope d s) (variable_uses s.fields) usage inside in
    let structs : In (site (struct_scope d s) usage) (flat_map (struct_sites d) d.structs) = in-flat (struct_sites d) (site (struct_scope d s) usage) d.structs s is spot in
    in-place (site (struct_scope d s) usage) (sites d)
    (in-behind (site (struct_scope d s) usage) (constant_sites [] d.constants) (flat_map (struct_sites d) d.structs ++ flat_map (method_sites d) d.methods)
    (in-front (site (struct_scope d s) usage) (flat_map (struct_sites d) d.structs) (flat_map (method_sites d) d.methods) structs))
