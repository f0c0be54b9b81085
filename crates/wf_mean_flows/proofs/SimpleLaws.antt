-- Statements that stand by themselves, step by step.
use Rattle.std.proofs.Common.{◌≡◌, ℕ, zero, suc, ◌≤◌, Bool, true, false, List, [], ◌∷◌, length, Option, Some, None, refl, sym, ap, subst, arith}
use Rattle.std.specs.Prelude.{slice_get, unwrap_or}
use Rattle.turns.specs.Run.{Go, End, Fail}
use Rattle.wf_ast.specs.declared.declarations.Method.{Method}
use Rattle.wf_ast.specs.declared.typed_code.Block as typed_code
use Rattle.wf_ast.specs.declared.numbers.StmtId.{StmtId}
use Rattle.wf_ast.specs.declared.typed_nodes.TypedNodes.{TypedNodes}
use Rattle.wf_ast.specs.TypedTree.{Arith, Axiom, Block, CondTree, Simple, Site, Target, ValueTree, assign, claim, give_back, plain}
use Rattle.wf_ast.specs.TypedPackage.{method_of, methods_of, package_of}
use Rattle.wf_ast.specs.TypedInvariant.{IsTyped}
use Rattle.wf_ast.specs.Value.{Value, status_number, truth_of, value_of}
use Rattle.wf_ast.specs.WellTyped.{is_coroutine}
use Rattle.wf_meaning.specs.SourceState.{Behind, Done, untouched}
use Rattle.wf_meaning.specs.World.{Body, Vars, World, put_value}
use Rattle.wf_meaning.specs.SourceStep.{Callees, at_block, either, gives, given_back, is_result, returned_status, simple_step, where_true, with_some}
use Rattle.wf_mean_exprs.specs.MachineState.{no_method, sight}
use Rattle.wf_mean_stmts.specs.declared.stage.Stage.{Stage}
use Rattle.wf_mean_stmts.specs.Stages.{Comes, body_on, shape, sight_on, vars_on}
use Rattle.wf_mean_flows.specs.declared.flows.Flow.{Flow}
use Rattle.wf_mean_flows.specs.declared.flows.Flow.TheVariants.{Falls, Stuck}
use Rattle.wf_mean_flows.specs.Flows.{Flows, IsAt, Runs, calls_below, flow_steps, made_of, run_on, site_of}
use Rattle.wf_mean_flows.specs.Returns.{falls_if, returns_unless}
use Rattle.wf_mean_stmts.proofs.BodyLemmas.{same_body}
use Rattle.wf_mean_flows.proofs.RunLaws.{by_step}

-- A statement that comes to a flow by one step.
pub simple_runs : (nodes : TypedNodes) (level : ℕ) (s : StmtId) (st : Simple) (done : Done) (old new : Stage) (flow : Flow) → ((rest : Block) → made_of nodes s rest ≡ plain (site_of nodes s) st rest)
    → shape new ≡ shape old → new.turns ≡ old.turns → IsAt (site_of nodes s) st flow
    → ((rest : Block) (behind : Behind) → simple_step (body_on nodes old) (calls_below nodes level) old.turns done (site_of nodes s) st rest behind (vars_on nodes old) ≡ flow_steps (body_on nodes old) old.turns flow (plain (site_of nodes s) st rest) rest behind (vars_on nodes new))
    → Runs nodes level (made_of nodes s) done old new flow
simple_runs nodes level s st done old new flow made same turns at steps = λ rest behind.
    let P : Block → Type 0 = λ part. Flows nodes level part rest behind flow new (run_on nodes level old done part behind) in
    subst P (sym (made rest)) (by_step nodes level (site_of nodes s) st rest behind done old new flow (same_body nodes old new same) turns at (steps rest behind))

-- Where nothing changes.
pub still_runs : (nodes : TypedNodes) (level : ℕ) (s : StmtId) (st : Simple) (done : Done) (stage : Stage) (flow : Flow) → ((rest : Block) → made_of nodes s rest ≡ plain (site_of nodes s) st rest) → IsAt (site_of nodes s) st flow
    → ((rest : Block) (behind : Behind) → simple_step (body_on nodes stage) (calls_below nodes level) stage.turns done (site_of nodes s) st rest behind (vars_on nodes stage) ≡ flow_steps (body_on nodes stage) stage.turns flow (plain (site_of nodes s) st rest) rest behind (vars_on nodes stage))
    → Runs nodes level (made_of nodes s) done stage stage flow
still_runs nodes level s st done stage flow made at steps = simple_runs nodes level s st done stage stage flow made refl refl at steps

module _ (nodes : TypedNodes) (old : Stage) (calls : Callees) (n : ℕ) (site : Site) (here rest : Block) (behind : Behind) where
  by_put : (r : Bool) (o : Option Vars) (new : Vars) → Comes r o new → with_some o (λ after. Go (at_block rest behind after)) ≡ flow_steps (body_on nodes old) n (falls_if r) here rest behind new
  unfolding with_some
  by_put true (Some left) new h = rw h refl
  by_put false None new h = refl
  by_put true None new h = absurd h
  by_put false (Some left) new h = absurd h

  -- Assignments.
  pub assigned : (target : Target) (op : Option Arith) (value : ValueTree) (v : Value) (r : Bool) (new : Stage) → Some v ≡ value_of (sight_on nodes old) value
      → Comes r (put_value (body_on nodes old) target v (vars_on nodes old)) (vars_on nodes new)
      → simple_step (body_on nodes old) calls n untouched site (assign target op value) rest behind (vars_on nodes old) ≡ flow_steps (body_on nodes old) n (falls_if r) here rest behind (vars_on nodes new)
  unfolding sight
  assigned target op value v r new e h = rw (sym e) (by_put r _ (vars_on nodes new) h)

  pub assigned_stuck : (target : Target) (op : Option Arith) (value : ValueTree) (vars : Vars) → None ≡ value_of (sight_on nodes old) value
      → simple_step (body_on nodes old) calls n untouched site (assign target op value) rest behind (vars_on nodes old) ≡ flow_steps (body_on nodes old) n Stuck here rest behind vars
  unfolding sight with_some
  assigned_stuck target op value vars e = rw (sym e) refl

  -- Assertions.
  pub claimed : (goal : CondTree) (by : Option Axiom) → Some true ≡ truth_of (sight_on nodes old) goal
      → simple_step (body_on nodes old) calls n untouched site (claim goal by) rest behind (vars_on nodes old) ≡ flow_steps (body_on nodes old) n Falls here rest behind (vars_on nodes old)
  unfolding sight where_true
  claimed goal by e = rw (sym e) refl

  pub claimed_false : (goal : CondTree) (by : Option Axiom) → Some false ≡ truth_of (sight_on nodes old) goal
      → simple_step (body_on nodes old) calls n untouched site (claim goal by) rest behind (vars_on nodes old) ≡ flow_steps (body_on nodes old) n Stuck here rest behind (vars_on nodes old)
  unfolding sight where_true
  claimed_false goal by e = rw (sym e) refl

  pub claimed_stuck : (goal : CondTree) (by : Option Axiom) → None ≡ truth_of (sight_on nodes old) goal
      → simple_step (body_on nodes old) calls n untouched site (claim goal by) rest behind (vars_on nodes old) ≡ flow_steps (body_on nodes old) n Stuck here rest behind (vars_on nodes old)
  unfolding sight where_true
  claimed_stuck goal by e = rw (sym e) refl

  -- Returns.
  pub returned : (value : ValueTree) (v : Value) (flow : Flow) → Some v ≡ value_of (sight_on nodes old) value
      → given_back (body_on nodes old) n (vars_on nodes old).world v ≡ flow_steps (body_on nodes old) n flow here rest behind (vars_on nodes old)
      → simple_step (body_on nodes old) calls n untouched site (give_back (Some value)) rest behind (vars_on nodes old) ≡ flow_steps (body_on nodes old) n flow here rest behind (vars_on nodes old)
  unfolding sight with_some
  returned value v flow e h = rw (sym e) h

  pub returned_stuck : (value : ValueTree) → None ≡ value_of (sight_on nodes old) value
      → simple_step (body_on nodes old) calls n untouched site (give_back (Some value)) rest behind (vars_on nodes old) ≡ flow_steps (body_on nodes old) n Stuck here rest behind (vars_on nodes old)
  unfolding sight with_some
  returned_stuck value e = rw (sym e) refl

  pub returned_none : (coroutine : Bool) (flow : Flow) → coroutine ≡ is_coroutine (body_on nodes old).method.mark → flow ≡ returns_unless coroutine
      → simple_step (body_on nodes old) calls n untouched site (give_back None) rest behind (vars_on nodes old) ≡ flow_steps (body_on nodes old) n flow here rest behind (vars_on nodes old)
  unfolding where_true
  returned_none true flow e f = rw (sym e, f) refl
  returned_none false flow e f = rw (sym e, f) refl

-- The method of a body.
method_at : (nodes : TypedNodes) (ms : List Method) (bodies : List typed_code.Block) (i : ℕ) (m : Method) → length bodies ≡ length ms → slice_get ms i ≡ Some m → (b : typed_code.Block) × (slice_get (methods_of nodes ms bodies) i ≡ Some (method_of nodes m b))
method_at nodes [] bodies i m l e = absurd (cc (e))
method_at nodes (x ∷ ms) [] i m l e = absurd (omega (arith, l))
method_at nodes (x ∷ ms) (b ∷ bodies) zero m l e = let q : x ≡ m = cc in (b, ap (λ y. Some (method_of nodes y b)) q)
method_at nodes (x ∷ ms) (b ∷ bodies) (suc i) m l e = method_at nodes ms bodies i m (omega (arith, l)) e

none_past : (nodes : TypedNodes) (ms : List Method) (bodies : List typed_code.Block) (i : ℕ) → length ms ≤ i → slice_get (methods_of nodes ms bodies) i ≡ None
none_past nodes [] bodies i l = refl
none_past nodes (x ∷ ms) [] i l = refl
none_past nodes (x ∷ ms) (b ∷ bodies) zero l = absurd (omega (arith, l))
none_past nodes (x ∷ ms) (b ∷ bodies) (suc i) l = none_past nodes ms bodies i (omega (arith, l))

module _ (nodes : TypedNodes) (typed : IsTyped nodes) (i : ℕ) where
  pub own_method : (m : Method) → slice_get nodes.methods i ≡ Some m → (b : typed_code.Block) × (unwrap_or (slice_get (package_of nodes).methods i) no_method ≡ method_of nodes m b)
  unfolding package_of
  own_method m e = let it = method_at nodes nodes.methods nodes.bodies i m typed.bodied e in (it.0, ap (λ o. unwrap_or o no_method) it.1)

  pub own_none : length nodes.methods ≤ i → unwrap_or (slice_get (package_of nodes).methods i) no_method ≡ no_method
  unfolding package_of
  own_none h = ap (λ o. unwrap_or o no_method) (none_past nodes nodes.methods nodes.bodies i h)

-- What `return` does with a value.
module _ (b : Body) (n : ℕ) (w : World) where
  pub gives_coroutine : (s : ℕ) → true ≡ is_coroutine b.method.mark → given_back b n w (status_number s) ≡ End n (gives (Some (status_number (returned_status b s))), w)
  unfolding either
  gives_coroutine s e = rw (sym e) refl

  pub gives_status : (s : ℕ) → false ≡ is_coroutine b.method.mark → true ≡ is_result b.method.gives (status_number s) → given_back b n w (status_number s) ≡ End n (gives (Some (status_number s)), w)
  unfolding either where_true
  gives_status s e f = rw (sym e, sym f) refl

  pub no_status : (s : ℕ) → false ≡ is_coroutine b.method.mark → false ≡ is_result b.method.gives (status_number s) → given_back b n w (status_number s) ≡ Fail
  unfolding either where_true
  no_status s e f = rw (sym e, sym f) refl

  pub gives_plain : (v : Value) → true ≡ is_result b.method.gives v → where_true (is_result b.method.gives v) (End n (gives (Some v), w)) ≡ End n (gives (Some v), w)
  unfolding where_true
  gives_plain v f = rw (sym f) refl

  pub no_plain : (v : Value) → false ≡ is_result b.method.gives v → where_true (is_result b.method.gives v) (End n (gives (Some v), w)) ≡ Fail
  unfolding where_true
  no_plain v f = rw (sym f) refl
