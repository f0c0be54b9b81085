-- Statements without blocks, by their nodes.
use Rattle.std.proofs.Common.{◌≡◌, ℕ, zero, suc, ◌<◌, ◌≤◌, Bool, true, false, ◌&&◌, ◌||◌, List, [], ◌∷◌, length, map, Option, Some, None, Result, Ok, Err, nat_lt, nat_le, nat_eq, refl, sym, ap, ◌∙◌, subst, arith}
use Rattle.std.specs.Prelude.{All, if◌then◌else◌, is_some, option_map, slice_get, unwrap_or}
use Rattle.std.specs.List.{list_all, list_any}
use Rattle.std.proofs.lemmas.Bool.{and_parts}
use Rattle.std.proofs.lemmas.Bool.Decides.{nat_tests}
use Rattle.std.proofs.lemmas.List.{length-map}
use Rattle.std.proofs.lemmas.List.Elements.{All-nil, All-cons, All-head, All-tail}
use Rattle.wf_text.specs.declared.place.Place.{Place}
use Rattle.wf_text.specs.declared.numbers.MethodId.{MethodId}
use Rattle.wf_text.specs.declared.rules.Refusal.{Refusal}
use Rattle.wf_ast.specs.declared.numbers.ExprId.{ExprId}
use Rattle.wf_ast.specs.declared.numbers.StmtId.{StmtId}
use Rattle.wf_ast.specs.declared.numbers.TextId.{TextId}
use Rattle.wf_ast.specs.declared.declarations.Method.{Method}
use Rattle.wf_ast.specs.declared.typed_code.AxiomRef.{AxiomRef}
use Rattle.wf_ast.specs.declared.typed_code.Callee.{Callee}
use Rattle.wf_ast.specs.declared.typed_code.Stmt.{Stmt}
use Rattle.wf_ast.specs.declared.typed_code.Stmt.TheVariants as stmts
use Rattle.wf_ast.specs.declared.typed_code.StmtNode.{StmtNode}
use Rattle.wf_ast.specs.declared.typed_nodes.TypedNodes.{TypedNodes}
use Rattle.wf_ast.specs.TypedTree.{Arith, NumTree, ValueTree, Target, Simple, assign, claim, Site, Head, Block, plain}
use Rattle.wf_ast.specs.TypedTrees.{no_place, no_statement, axiom_made, call_made, optional_target, stmt_made, text_of, tree_of}
use Rattle.wf_ast.specs.TypedInvariant.{IsTyped, axiom_exists, is_expr}
use Rattle.wf_ast.specs.TypedPackage.{method_of, methods_of, package_of, variable_of}
use Rattle.wf_ast.specs.WellTyped.{well_assigned, well_axiom, well_cond, well_num, well_simple}
use Rattle.wf_ast.specs.NodeKinds.{is_condition_at, node_cond, node_number}
use Rattle.wf_facts_exprs.specs.Claims.{Claim, claim_in, claims_in}
use Rattle.wf_facts_exprs.specs.Demands.{or_else, unless_refused}
use Rattle.wf_facts.specs.IndexedFacts.{FactList}
use Rattle.wf_axioms.specs.Bindings.{is_given_number}
use Rattle.wf_loops.specs.LoopNodes.{is_loop, head_at}
use Rattle.wf_loops.specs.LoopRules.{limit}
use Rattle.wf_loops.proofs.NodeLemmas.{condition_found}
use Rattle.wf_bounds_stmts.specs.AssertionNodes.{MayBeAxiomOf}
use Rattle.wf_bounds_stmts.specs.FactRules.{Known, Around, jump_refusal, known_behind, limit_behind, loop_numbered, single_refusal}
use Rattle.wf_bounds_stmts.specs.Targets.{written_by}
use Rattle.wf_bounds_stmts.specs.Outcomes.{Answers, Does, MayBeDropped, Settles, Told}
use Rattle.wf_bounds_stmts.specs.Passing.{AreLoopsOf, IsLoopOf, KeepsTypes, Passes, StandsIn, fits_receiver, has_few_locals, has_no_block, is_single, receiver_fits, simple_at, simple_of, site_at}
use Rattle.wf_bounds_stmts.proofs.OutcomeLemmas.{limit-kept}
use Rattle.wf_bounds_stmts.proofs.TypeLemmas.{both_hold, lt_from, number_found, target_few, assigned_there}
use Rattle.wf_bounds_stmts.proofs.CallLemmas.{call_there, method_declared}

-- What is answered of pieces, as it is told of any statement.
module _ (nodes : TypedNodes) (at : Place) (p : Option Refusal) (known : FactList) where
  pub settles-told : (gs : List Claim) (r : Result (Unit {0}) Refusal) → Settles nodes p gs r known → Told nodes at p (Some gs) r known
  settles-told gs (Ok done) h = (h.0, ap Some (sym h.1))
  settles-told gs (Err found) h = ap (λ q. or_else q (limit at gs)) h

  pub answers-told : (gs : List Claim) (r : Result (Unit {0}) Refusal) → Answers nodes at p gs r known → Told nodes at p (Some gs) r known
  answers-told gs (Ok done) h = (h.0, ap Some (sym h.2))
  answers-told gs (Err found) h = h

  pub does-told : (gs : Known) (r : Result (Unit {0}) Refusal) → Does nodes p gs r known → Told nodes at p gs r known
  does-told gs (Ok done) h = h
  does-told gs (Err found) h = ap (λ q. or_else q (limit_behind at gs)) h

  pub told-passes : (gs : Known) → length known.list ≤ 512 → Told nodes at p gs (Ok (tt {0})) known → Passes nodes at p gs (Ok true) known
  told-passes gs few h =
      let claims = claims_in nodes known.list in
      let small : length claims ≤ 512 = omega (arith, few, length-map known.list (claim_in nodes)) in
      let kept : limit_behind at gs ≡ None = ap (limit_behind at) h.1 ∙ limit-kept at claims small in
      (h.0, kept, h.1)

pub an-operator : (o : Option Arith) → is_some o ≡ true → (op : Arith) × (o ≡ Some op)
an-operator (Some op) h = (op, refl)
an-operator None h = absurd (cc (h))

-- A node by its number.
abbrev inner_in : Option StmtNode → Place
inner_in o = unwrap_or (option_map (λ node. node.inner) o) no_place

abbrev pub inner_at : TypedNodes → StmtId → Place
inner_at nodes s = inner_in (slice_get nodes.stmts s.0)

module _ (nodes : TypedNodes) (s : StmtId) where
  pub simple_is : (st : Stmt) → option_map (λ node. node.stmt) (slice_get nodes.stmts s.0) ≡ Some st → simple_at nodes s ≡ simple_of nodes (inner_at nodes s) st
  unfolding simple_at
  simple_is st h = by (slice_get nodes.stmts s.0) h
    where
      by : (o : Option StmtNode) → option_map (λ node. node.stmt) o ≡ Some st → unwrap_or (option_map (λ node. simple_of nodes node.inner node.stmt) o) no_statement ≡ simple_of nodes (inner_in o) st
      by (Some node) k = let same : node.stmt ≡ st = cc (k) in ap (simple_of nodes node.inner) same
      by None k = absurd (cc (k))

  pub site_is : (at : Place) → option_map (λ node. node.at) (slice_get nodes.stmts s.0) ≡ Some at → site_at nodes s ≡ record { number = s.0; at = at }
  unfolding site_at
  site_is at h = ap (λ o. record { number = s.0; at = unwrap_or o no_place }) h

  pub inner_is : (at : Place) → option_map (λ node. node.inner) (slice_get nodes.stmts s.0) ≡ Some at → inner_at nodes s ≡ at
  inner_is at h = ap (λ o. unwrap_or o no_place) h

  pub alone : (st : Stmt) → option_map (λ node. node.stmt) (slice_get nodes.stmts s.0) ≡ Some st → is_single nodes s ≡ true → has_no_block st ≡ true
  unfolding is_single
  alone st h k = by (slice_get nodes.stmts s.0) h k
    where
      by : (o : Option StmtNode) → option_map (λ node. node.stmt) o ≡ Some st → unwrap_or (option_map (λ node. has_no_block node.stmt) o) false ≡ true → has_no_block st ≡ true
      by (Some node) e f = let same : node.stmt ≡ st = cc (e) in let P : Stmt → Type 0 = λ it. has_no_block it ≡ true in subst P same f
      by None e f = absurd (cc (e))

  pub receiver_there : (st : Stmt) → option_map (λ node. node.stmt) (slice_get nodes.stmts s.0) ≡ Some st → fits_receiver nodes s ≡ true → receiver_fits nodes st ≡ true
  unfolding fits_receiver
  receiver_there st h k = by (slice_get nodes.stmts s.0) h k
    where
      by : (o : Option StmtNode) → option_map (λ node. node.stmt) o ≡ Some st → unwrap_or (option_map (λ node. receiver_fits nodes node.stmt) o) false ≡ true → receiver_fits nodes st ≡ true
      by (Some node) e f = let same : node.stmt ≡ st = cc (e) in let P : Stmt → Type 0 = λ it. receiver_fits nodes it ≡ true in subst P same f
      by None e f = absurd (cc (e))

  -- From the tree of a node to that by its number.
  module _ (fs : List Claim) (a : Around) (r : Result Bool Refusal) (known : FactList) where
    abbrev pub Goes : Site → Simple → Type 0
    Goes site simple = Passes nodes site.at (single_refusal a fs site simple) (known_behind fs simple) r known

    pub goes : (simple : Simple) (at : Place) → simple_at nodes s ≡ simple → option_map (λ node. node.at) (slice_get nodes.stmts s.0) ≡ Some at
        → Goes (record { number = s.0; at = at }) simple → Goes (site_at nodes s) (simple_at nodes s)
    goes simple at h k it =
        let P : Site → Type 0 = λ site. Goes site simple in
        let Q : Simple → Type 0 = λ simple. Goes (site_at nodes s) simple in
        subst Q (sym h) (subst P (sym (site_is at k)) it)

  pub call_is : (at : Place) (target : Option ExprId) (keep : Bool) (callee : Callee) (args es : List ExprId)
      → option_map (λ node. node.stmt) (slice_get nodes.stmts s.0) ≡ Some (stmts.Call target keep callee args) → option_map (λ node. node.inner) (slice_get nodes.stmts s.0) ≡ Some at → es ≡ args
      → simple_at nodes s ≡ call_made nodes (tree_of nodes) at (optional_target (tree_of nodes) target) keep callee (map (tree_of nodes) es)
  call_is at target keep callee args es h k l =
      simple_is (stmts.Call target keep callee args) h
      ∙ ap (λ (place : Place). call_made nodes (tree_of nodes) place (optional_target (tree_of nodes) target) keep callee (map (tree_of nodes) args)) (inner_is at k)
      ∙ ap (λ (xs : List ExprId). call_made nodes (tree_of nodes) at (optional_target (tree_of nodes) target) keep callee (map (tree_of nodes) xs)) (sym l)

-- A statement that never goes on.
pub stops-passes : (nodes : TypedNodes) (at : Place) (p : Option Refusal) (r : Result Bool Refusal) (known : FactList) → r ≡ unless_refused p false → Passes nodes at p None r known
stops-passes nodes at p r known h =
    let P : Result Bool Refusal → Type 0 = λ it. Passes nodes at p None it known in
    subst P (sym h) (by p)
  where
    by : (p : Option Refusal) → Passes nodes at p None (unless_refused p false) known
    by None = (refl, refl)
    by (Some q) = refl

-- Its loop's rule.
pub jump-by : (require : Head → Option Refusal) (found : Option Head) (head : Head) (r : Result Bool Refusal) → found ≡ Some head → r ≡ unless_refused (require head) false → r ≡ unless_refused (jump_refusal require found) false
jump-by require found head r h k = k ∙ ap (λ o. unless_refused (jump_refusal require o) false) (sym h)

-- The loops round a statement, by their numbers.
pub loop_there : (nodes : TypedNodes) (w : StmtId) (loops : List (ℕ × Head)) → AreLoopsOf nodes loops → list_any (nat_eq w.0) (map (λ l. l.0) loops) ≡ true
    → (is_loop nodes w ≡ true) × (loop_numbered loops w.0 ≡ Some (head_at nodes w))
loop_there nodes w [] all h = absurd (cc (h))
loop_there nodes w (l ∷ ls) all h =
    by (nat_eq w.0 l.0) refl (nat_eq l.0 w.0) refl h (loop_there nodes w ls (All-tail (IsLoopOf nodes) l ls all))
  where
    first : IsLoopOf nodes l
    first = All-head (IsLoopOf nodes) l ls all

    by : (b : Bool) → nat_eq w.0 l.0 ≡ b → (d : Bool) → nat_eq l.0 w.0 ≡ d → (b || list_any (nat_eq w.0) (map (λ l. l.0) ls)) ≡ true
        → (list_any (nat_eq w.0) (map (λ l. l.0) ls) ≡ true → (is_loop nodes w ≡ true) × (loop_numbered ls w.0 ≡ Some (head_at nodes w)))
        → (is_loop nodes w ≡ true) × ((if d then Some l.1 else loop_numbered ls w.0) ≡ Some (head_at nodes w))
    by true e true f k later =
        let same : l.0 ≡ w.0 = grind (arith, nat_tests, e) in
        let P : ℕ → Type 0 = λ n. is_loop nodes (record { 0 = n }) ≡ true in
        let Q : ℕ → Type 0 = λ n. l.1 ≡ head_at nodes (record { 0 = n }) in
        (subst P same first.is, ap Some (subst Q same first.head))
    by false e false f k later = later k
    by true e false f k later = absurd (grind (arith, nat_tests, e, f))
    by false e true f k later = absurd (grind (arith, nat_tests, e, f))

-- What stands there in a list.
there : {X : Type 0} (xs : List X) (i : ℕ) → i < length xs → (x : X) × (slice_get xs i ≡ Some x)
there [] i h = absurd (omega (arith, h))
there (x ∷ xs) zero h = (x, refl)
there (x ∷ xs) (suc i) h = there xs i (omega (arith, h))

methods_are : (nodes : TypedNodes) → (package_of nodes).methods ≡ methods_of nodes nodes.methods nodes.bodies
unfolding package_of
methods_are nodes = refl

few_declared : (nodes : TypedNodes) (m : MethodId) (method : Method) → slice_get nodes.methods m.0 ≡ Some method → has_few_locals nodes m ≡ true → length method.locals ≤ 256
unfolding has_few_locals
few_declared nodes m method h k =
    let e : nat_le (length method.locals) 256 ≡ true = rw h at k in grind (arith, nat_tests, e)

module _ (nodes : TypedNodes) (typed : IsTyped nodes) (m : MethodId) (s : StmtId) (a : Around) (stands : StandsIn nodes m a s) where
  pub method_is : (method : Method) → slice_get nodes.methods m.0 ≡ Some method → (b : _) × (a.context.method ≡ method_of nodes method b)
  method_is method h =
      method_declared nodes nodes.methods nodes.bodies m.0 method a.context.method h (ap (λ ms. slice_get ms m.0) (sym (methods_are nodes)) ∙ stands.method)

  few : m.0 < length nodes.methods → has_few_locals nodes m ≡ true → length a.context.method.locals ≤ 256
  few h k =
      let it = there nodes.methods m.0 h in
      let tree = method_is it.0 it.1 in
      let same : length a.context.method.locals ≡ length (map (variable_of nodes) it.0.locals) = ap (λ x. length x.locals) tree.1 in
      omega (arith, same, length-map it.0.locals (variable_of nodes), few_declared nodes m it.0 it.1 k)

  pub well_as : (simple : Simple) → simple_at nodes s ≡ simple → well_simple a.context (map (λ l. l.0) a.loops) simple ≡ true
  well_as simple h = let P : Simple → Type 0 = λ it. well_simple a.context (map (λ l. l.0) a.loops) it ≡ true in subst P h stands.well

  pub keeps : (simple : Simple) → simple_at nodes s ≡ simple → KeepsTypes nodes simple
  keeps simple h = record { context = a.context; loops = map (λ l. l.0) a.loops; within = stands.within; well = well_as simple h }

  well_value : (target : Target) (op : Option Arith) (v : ValueTree) → well_simple a.context (map (λ l. l.0) a.loops) (assign target op v) ≡ true → well_assigned a.context target v ≡ true
  well_value target None v h = h
  well_value target (Some op) v h = (and_parts (well_assigned a.context target v) _ h).0

  pub assign_few : (target : Target) (op : Option Arith) (v : ValueTree) → simple_at nodes s ≡ assign target op v → m.0 < length nodes.methods → has_few_locals nodes m ≡ true → MayBeDropped (written_by target)
  assign_few target op v h i k = target_few a.context target (few i k) (assigned_there a.context target v (well_value target op v (well_as (assign target op v) h)))

  pub call_few : (at : Place) (target : Target) (keep : Bool) (callee : Callee) (vs : List ValueTree) → simple_at nodes s ≡ call_made nodes (tree_of nodes) at target keep callee vs
      → m.0 < length nodes.methods → has_few_locals nodes m ≡ true → MayBeDropped (written_by target)
  call_few at target keep callee vs h i k =
      target_few a.context target (few i k) (call_there nodes a.context (map (λ l. l.0) a.loops) at target keep callee vs (well_as (call_made nodes (tree_of nodes) at target keep callee vs) h))

  pub goal_there : (goal : ExprId) (ax : Option AxiomRef) → simple_at nodes s ≡ claim (node_cond nodes goal) (axiom_made nodes (tree_of nodes) ax) → is_expr nodes goal ≡ true → is_condition_at nodes goal ≡ true
  goal_there goal ax h k =
      condition_found nodes typed a.context goal k (and_parts (well_cond a.context (node_cond nodes goal)) _ (well_as (claim (node_cond nodes goal) (axiom_made nodes (tree_of nodes) ax)) h)).0

  given_there : (gs : List (TextId × ExprId)) → list_all (λ (g : TextId × ExprId). nat_lt g.0.0 (length nodes.texts) && is_expr nodes g.1) gs ≡ true
      → list_all (λ (g : List ℕ × NumTree). well_num a.context g.1) (map (λ (g : TextId × ExprId). (text_of nodes g.0, node_number nodes g.1)) gs) ≡ true → All (λ g. is_given_number nodes g ≡ true) gs
  given_there [] h k = All-nil (λ (g : TextId × ExprId). is_given_number nodes g ≡ true)
  given_there (g ∷ gs) h k =
      let i = and_parts (nat_lt g.0.0 (length nodes.texts) && is_expr nodes g.1) _ h in
      let j = and_parts (nat_lt g.0.0 (length nodes.texts)) _ i.0 in
      let l = and_parts (well_num a.context (node_number nodes g.1)) _ k in
      All-cons (λ (g : TextId × ExprId). is_given_number nodes g ≡ true) g gs (both_hold (nat_lt g.0.0 (length nodes.texts)) _ j.0 (number_found nodes typed a.context g.1 j.1 l.0)) (given_there gs i.1 l.1)

  axiom_found : (ax : Option AxiomRef) → axiom_exists nodes ax ≡ true → well_axiom a.context (axiom_made nodes (tree_of nodes) ax) ≡ true → MayBeAxiomOf nodes ax
  axiom_found None h k = tt
  axiom_found (Some x) h k =
      let i = and_parts (nat_lt x.name.0 (length nodes.texts)) _ h in
      record { text = lt_from _ _ i.0; given = given_there x.given i.1 k }

  pub axiom_there : (goal : ExprId) (ax : Option AxiomRef) → simple_at nodes s ≡ claim (node_cond nodes goal) (axiom_made nodes (tree_of nodes) ax) → axiom_exists nodes ax ≡ true → MayBeAxiomOf nodes ax
  axiom_there goal ax h k =
      axiom_found ax k (and_parts (well_cond a.context (node_cond nodes goal)) _ (well_as (claim (node_cond nodes goal) (axiom_made nodes (tree_of nodes) ax)) h)).1

  -- A jump's loop.
  pub jump_there : (w : StmtId) → list_any (nat_eq w.0) (map (λ l. l.0) a.loops) ≡ true → (is_loop nodes w ≡ true) × (loop_numbered a.loops w.0 ≡ Some (head_at nodes w))
  jump_there w h = loop_there nodes w a.loops stands.loops h

-- A node by its number makes the tree that is found by it.
pub node_makes : (nodes : TypedNodes) (s : StmtId) (node : StmtNode) (inner : StmtId → Block → Block) (rest : Block) → slice_get nodes.stmts s.0 ≡ Some node → has_no_block node.stmt ≡ true
    → stmt_made nodes (tree_of nodes) inner s.0 node rest ≡ plain (site_at nodes s) (simple_at nodes s) rest
node_makes nodes s node inner rest h k =
    let site : Site = record { number = s.0; at = node.at } in
    let made : stmt_made nodes (tree_of nodes) inner s.0 node rest ≡ plain site (simple_of nodes node.inner node.stmt) rest = by node.stmt refl k in
    let tree : simple_at nodes s ≡ simple_of nodes node.inner node.stmt =
    simple_is nodes s node.stmt (ap (option_map (λ it. it.stmt)) h) ∙ ap (λ (place : Place). simple_of nodes place node.stmt) (inner_is nodes s node.inner (ap (option_map (λ it. it.inner)) h)) in
    let stands : site_at nodes s ≡ site = site_is nodes s node.at (ap (option_map (λ it. it.at)) h) in
    made ∙ ap (λ (it : Site). plain it (simple_of nodes node.inner node.stmt) rest) (sym stands) ∙ ap (λ (it : Simple). plain (site_at nodes s) it rest) (sym tree)
  where
    from : Stmt → StmtNode
    from st = record { stmt = st; at = node.at; inner = node.inner }

    by : (st : Stmt) → node.stmt ≡ st → has_no_block st ≡ true → stmt_made nodes (tree_of nodes) inner s.0 (from st) rest ≡ plain (record { number = s.0; at = node.at }) (simple_of nodes node.inner st) rest
    by (stmts.Assign target op value) e f = refl
    by (stmts.Call target keep callee args) e f = refl
    by (stmts.If arms otherwise) e f = absurd (cc (f))
    by (stmts.While head body) e f = absurd (cc (f))
    by (stmts.Break w) e f = refl
    by (stmts.Continue w) e f = refl
    by (stmts.Return None) e f = refl
    by (stmts.Return (Some v)) e f = refl
    by (stmts.Yield n) e f = refl
    by (stmts.Assert goal ax) e f = refl

pub node_alone : (nodes : TypedNodes) (s : StmtId) (node : StmtNode) → slice_get nodes.stmts s.0 ≡ Some node → is_single nodes s ≡ has_no_block node.stmt
unfolding is_single
node_alone nodes s node h = rw h refl

pub node_place : (nodes : TypedNodes) (s : StmtId) (node : StmtNode) → slice_get nodes.stmts s.0 ≡ Some node → (site_at nodes s).at ≡ node.at
node_place nodes s node h = ap (λ (it : Site). it.at) (site_is nodes s node.at (ap (option_map (λ it. it.at)) h))

pub node_receiver : (nodes : TypedNodes) (s : StmtId) (node : StmtNode) → slice_get nodes.stmts s.0 ≡ Some node → fits_receiver nodes s ≡ receiver_fits nodes node.stmt
unfolding fits_receiver
node_receiver nodes s node h = rw h refl
