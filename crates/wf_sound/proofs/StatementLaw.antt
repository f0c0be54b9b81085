-- The law of the step of a statement without blocks.
use Rattle.std.proofs.Common.{◌≡◌, ℕ, zero, suc, Bool, true, not, List, [], ◌∷◌, map, Option, Some, None, sym, ap, ◌∙◌}
use Rattle.std.specs.Prelude.{slice_get}
use Rattle.std.specs.List.{list_all}
use Rattle.std.proofs.lemmas.Bool.{and_parts}
use Rattle.wf_base.specs.declared.marks.Mark.{Mark}
use Rattle.wf_ast.specs.TypedTree.{Arith, CondTree, ValueTree, Target, Awaited, Written, Called, Simple, assign, await, perform, invoke, break_from, continue_in, give_back, yield, claim, Site, Block, plain}
use Rattle.wf_ast.specs.TypedTree as typed
use Rattle.wf_ast.specs.TypedPackage.{MethodTree, PackageTree}
use Rattle.wf_ast.specs.WellTyped.{is_pure, is_coroutine, may_be_arg, may_be_local, may_be_result, well_assigned, well_cond, well_simple, well_block, well_method, well_typed, all_structs_whole}
use Rattle.wf_facts_exprs.specs.Claims.{Claim, AllTrue}
use Rattle.wf_meaning.specs.SourceState.{Behind, Remaining, Done}
use Rattle.wf_meaning.specs.World.{Body, Vars}
use Rattle.wf_meaning.specs.SourceStep.{Callees, state_of, step, simple_step}
use Rattle.wf_bounds_stmts.specs.Statements.{single}
use Rattle.wf_bounds_stmts.specs.FactRules.{statement_refusal}
use Rattle.wf_sound.specs.Worlds.{Shape, context_of}
use Rattle.wf_sound.specs.Positions.{loops_round, around, well_here, hands_on_well}
use Rattle.wf_sound.specs.Callees.{CalleesRun}
use Rattle.wf_sound.specs.OneStep.{IsStarted, IsReached, afresh, resumed, ComesTo, IsLeftAt, Ends, LeadsTo, IsRunning, AreFactsOf}
use Rattle.wf_sound.proofs.AssignSteps.{assign-step}
use Rattle.wf_sound.proofs.ClaimSteps.{claim-step}
use Rattle.wf_sound.proofs.ControlSteps.{break-step, continue-step}
use Rattle.wf_sound.proofs.EndSteps.{yield-step, return-step}
use Rattle.wf_sound.proofs.PerformSteps.{perform-step}
use Rattle.wf_sound.proofs.AwaitSteps.{await-step}
use Rattle.wf_sound.proofs.InvokeSteps.{invoke-step}

pub item-holds : {X : Type 0} (test : X → Bool) (xs : List X) (k : ℕ) (x : X) → list_all test xs ≡ true → slice_get xs k ≡ Some x → test x ≡ true
item-holds test [] k x h e = absurd (cc (e))
item-holds test (y ∷ ys) zero x h e = let same : y ≡ x = cc (e) in ap test (sym same) ∙ (and_parts (test y) _ h).0
item-holds test (y ∷ ys) (suc k) x h e = item-holds test ys k x (and_parts (test y) _ h).1 e

-- What a method keeps.
pub record Declared (m : MethodTree) : Type 0 where
  pub locals : list_all (λ x. may_be_local x.ty) m.locals ≡ true
  pub result : may_be_result m.mark m.gives ≡ true

pub declared : (p : PackageTree) (m : MethodTree) → well_method p m ≡ true → Declared m
declared p m h =
    let a = and_parts _ _ h in
    let d = and_parts (list_all (λ x. may_be_arg x.ty) m.args) _ a.1 in
    let e = and_parts (list_all (λ x. may_be_local x.ty) m.locals) _ d.1 in
    let f = and_parts (may_be_result m.mark m.gives) _ e.1 in
    record { locals = e.0; result = f.0 }

pub methods-well : (p : PackageTree) → well_typed p ≡ true → list_all (well_method p) p.methods ≡ true
unfolding well_typed
methods-well p h =
    let a = and_parts (all_structs_whole p 0 p.structs) _ h in
    (and_parts (list_all (well_method p) p.methods) _ a.1).0

pub results-fit : (p : PackageTree) → well_typed p ≡ true → (k : ℕ) (m : MethodTree) → slice_get p.methods k ≡ Some m → may_be_result m.mark m.gives ≡ true
results-fit p h k m e = (declared p m (item-holds (well_method p) p.methods k m (methods-well p h) e)).result

only-afresh : (b : Body) (vars : Vars) (fs : List Claim) (s : Simple) (done : Done) → (IsStarted s done → ⊥) → IsReached b vars fs s done → AllTrue (state_of b vars) fs
only-afresh b vars fs s done never (afresh e h) = h
only-afresh b vars fs s done never (resumed e h) = absurd (never e)

module _ (R : (method : ℕ) → Remaining → Type 0) (shape : Shape) (b : Body) (calls : Callees) (turns : ℕ) (done : Done) (site : Site) (rest : Block) (behind : Behind) (vars : Vars) (fs : List Claim) (facts : AreFactsOf (context_of b) fs) where
  abbrev Law : Simple → Type 0
  Law s =
      IsRunning R shape b (plain site s rest) behind vars → hands_on_well s ≡ true → statement_refusal (around b behind) fs site (single s) ≡ None → IsReached b vars fs s done → CalleesRun calls b.within R shape s turns vars.world
      → ComesTo (LeadsTo R shape b s site rest behind fs) (Ends R shape b (IsLeftAt R shape b site s rest behind fs)) (simple_step b calls turns done site s rest behind vars)

  simple-well : (s : Simple) → IsRunning R shape b (plain site s rest) behind vars → well_simple (context_of b) (map (λ l. l.0) (loops_round behind)) s ≡ true
  simple-well s running =
      let p = and_parts (well_here (context_of b) (plain site s rest) behind) _ running.well in
      let q = and_parts (well_block (context_of b) (map (λ l. l.0) (loops_round behind)) (plain site s rest)) _ p.0 in
      (and_parts (well_simple (context_of b) (map (λ l. l.0) (loops_round behind)) s) _ q.0).0

  method-keeps : (s : Simple) → IsRunning R shape b (plain site s rest) behind vars → Declared b.method
  method-keeps s running = declared b.within b.method running.typed.method

  assigned-well : (target : Target) (op : Option Arith) (v : ValueTree) → well_simple (context_of b) (map (λ l. l.0) (loops_round behind)) (assign target op v) ≡ true → well_assigned (context_of b) target v ≡ true
  assigned-well target None v h = h
  assigned-well target (Some op) v h = (and_parts (well_assigned (context_of b) target v) _ h).0

  assign-law : (target : Target) (op : Option Arith) (v : ValueTree) → Law (assign target op v)
  assign-law target op v running on e ready runs =
      let known = only-afresh b vars fs (assign target op v) done (λ k. k) ready in
      assign-step R shape b vars running.lawful fs facts.well known target op v rest behind (Ends R shape b (IsLeftAt R shape b site (assign target op v) rest behind fs)) (assigned-well target op v (simple-well (assign target op v) running)) on e

  await-law : (at : _) (target : Target) (a : ℕ) (call : Awaited) → Law (await at target a call)
  await-law at target a call running on e ready runs =
      let w = and_parts (is_coroutine b.method.mark) _ (simple-well (await at target a call) running) in
      let m : Declared b.method = method-keeps (await at target a call) running in
      await-step R shape b vars running.lawful running.apart fs facts.well w.0 m.locals turns at site rest behind target a call done ready w.1 e

  perform-law : (at : _) (target : Target) (call : Written) → Law (perform at target call)
  perform-law at target call running on e ready runs =
      let known = only-afresh b vars fs (perform at target call) done (λ k. k) ready in
      let w = and_parts (not (is_pure b.method.mark)) _ (simple-well (perform at target call) running) in
      perform-step R shape b vars running.lawful running.apart fs facts.well known at target call rest behind (Ends R shape b (IsLeftAt R shape b site (perform at target call) rest behind fs)) w.1 on e

  invoke-law : (at : _) (target : Target) (keep : Bool) (mark : Mark) (called : Called) (vs : List ValueTree) → Law (invoke at target keep mark called vs)
  invoke-law at target keep mark called vs running on e ready runs =
      let w = simple-well (invoke at target keep mark called vs) running in
      let m : Declared b.method = method-keeps (invoke at target keep mark called vs) running in
      invoke-step R shape b vars running.lawful running.apart fs facts.well m.locals (results-fit b.within running.typed.whole) calls turns at site rest behind target keep mark called vs done ready w on e runs

  break-law : (w : ℕ) → Law (break_from w)
  break-law w running on e ready runs =
      let known = only-afresh b vars fs (break_from w) done (λ k. k) ready in
      break-step R shape b vars running.lawful fs facts.well known w site rest behind (Ends R shape b (IsLeftAt R shape b site (break_from w) rest behind fs)) running.well e

  continue-law : (w : ℕ) → Law (continue_in w)
  continue-law w running on e ready runs =
      let known = only-afresh b vars fs (continue_in w) done (λ k. k) ready in
      continue-step R shape b vars running.lawful fs facts.well known w site rest behind (Ends R shape b (IsLeftAt R shape b site (continue_in w) rest behind fs)) running.well e

  return-law : (v : Option ValueTree) → Law (give_back v)
  return-law None running on e ready runs =
      let known = only-afresh b vars fs (give_back None) done (λ k. k) ready in
      let m : Declared b.method = method-keeps (give_back None) running in
      return-step R shape b vars running.lawful fs facts.well known (LeadsTo R shape b (give_back None) site rest behind fs) (IsLeftAt R shape b site (give_back None) rest behind fs) turns None (simple-well (give_back None) running) m.result e
  return-law (Some v) running on e ready runs =
      let known = only-afresh b vars fs (give_back (Some v)) done (λ k. k) ready in
      let m : Declared b.method = method-keeps (give_back (Some v)) running in
      return-step R shape b vars running.lawful fs facts.well known (LeadsTo R shape b (give_back (Some v)) site rest behind fs) (IsLeftAt R shape b site (give_back (Some v)) rest behind fs) turns (Some v) (simple-well (give_back (Some v)) running) m.result e

  yield-law : (status : ℕ) → Law (yield status)
  yield-law status running on e ready runs =
      let w = and_parts (is_coroutine b.method.mark) _ (simple-well (yield status) running) in
      let m : Declared b.method = method-keeps (yield status) running in
      yield-step R shape b vars running.lawful turns status site rest behind fs done w.0 m.locals ready

  claim-law : (goal : CondTree) (by : Option typed.Axiom) → Law (claim goal by)
  claim-law goal by running on e ready runs =
      let known = only-afresh b vars fs (claim goal by) done (λ k. k) ready in
      let w = and_parts (well_cond (context_of b) goal) _ (simple-well (claim goal by) running) in
      claim-step R shape b vars running.lawful fs facts.well known site.at goal by rest behind (Ends R shape b (IsLeftAt R shape b site (claim goal by) rest behind fs)) w.0 w.1 e

  each : (s : Simple) → Law s
  each (assign target op v) = assign-law target op v
  each (await at target a call) = await-law at target a call
  each (perform at target call) = perform-law at target call
  each (invoke at target keep mark called vs) = invoke-law at target keep mark called vs
  each (break_from w) = break-law w
  each (continue_in w) = continue-law w
  each (give_back v) = return-law v
  each (yield status) = yield-law status
  each (claim goal by) = claim-law goal by

  pub statement-law : (s : Simple) → IsRunning R shape b (plain site s rest) behind vars → hands_on_well s ≡ true → statement_refusal (around b behind) fs site (single s) ≡ None → IsReached b vars fs s done → CalleesRun calls b.within R shape s turns vars.world
      → ComesTo (LeadsTo R shape b s site rest behind fs) (Ends R shape b (IsLeftAt R shape b site s rest behind fs)) (step b calls turns (record { done = done; block = plain site s rest; behind = behind; vars = vars }))
  unfolding step
  statement-law s running on e ready runs = each s running on e ready runs
