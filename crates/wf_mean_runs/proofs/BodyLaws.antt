-- The run of a whole body: where it begins, or goes on, and how it ends.
use Rattle.std.proofs.Common.{◌≡◌, ℕ, zero, suc, ◌<◌, Bool, true, false, List, [], ◌∷◌, length, map, Option, Some, None, refl, sym, ap, ◌∙◌, subst, arith}
use Rattle.std.specs.Prelude.{slice_get, option_map, option_and_then, unwrap_or, if◌then◌else◌}
use Rattle.turns.specs.Run.{Outcome, Got, More}
use Rattle.wf_text.specs.declared.place.Place.{Place}
use Rattle.wf_ast.specs.declared.declarations.Method.{Method}
use Rattle.wf_ast.specs.declared.declarations.Var.{Var}
use Rattle.wf_ast.specs.declared.typed_code.Block as typed_code
use Rattle.wf_ast.specs.declared.typed_nodes.TypedNodes.{TypedNodes}
use Rattle.wf_ast.specs.TypedTree.{Block, end}
use Rattle.wf_ast.specs.TypedTrees.{block_of}
use Rattle.wf_ast.specs.TypedPackage.{MethodTree, Variable, method_of, methods_of, package_of, variable_of}
use Rattle.wf_ast.specs.TypedInvariant.{IsTyped}
use Rattle.wf_ast.specs.Value.{Value, status_number}
use Rattle.wf_ast.specs.WellTyped.{is_coroutine}
use Rattle.wf_meaning.specs.SourceState.{Remaining, stop, untouched}
use Rattle.wf_meaning.specs.Remaining.{Items, points_in}
use Rattle.wf_meaning.specs.Entry.{ok, returned, suspended}
use Rattle.wf_meaning.specs.World.{World, kept_locals, with_object}
use Rattle.wf_meaning.specs.Laws.{Ascend}
use Rattle.wf_meaning.specs.SourceStep.{At, Call, Callees, Ending, at_block, suspends}
use Rattle.wf_meaning.specs.SourceCall.{begins, body_run, fresh_local, left_over, remaining_of, run_if, set_remaining, taken_up}
use Rattle.wf_mean_exprs.specs.declared.objects.Progress.{Progress}
use Rattle.wf_mean_exprs.specs.declared.values.Slot.{Slot}
use Rattle.wf_mean_exprs.specs.MachineState.{done_seen, no_method, slot_seen, standing_at}
use Rattle.wf_mean_stmts.specs.declared.stage.Stage.{Stage}
use Rattle.wf_mean_stmts.specs.Stages.{Shape, body_on, shape, vars_on}
use Rattle.wf_mean_stmts.proofs.BodyLemmas.{same_body}
use Rattle.wf_mean_flows.specs.declared.flows.Flow.{Flow}
use Rattle.wf_mean_flows.specs.Flows.{Flows, RunsBlock, StandsIn, calls_below, goes, run_on}
use Rattle.wf_mean_flows.proofs.RunLaws.{stepped}
use Rattle.wf_mean_runs.specs.Bodies.{call_on, end_value, remaining_at, whole_run}
use Rattle.wf_mean_runs.specs.Calls.{world_on}
use Rattle.wf_mean_runs.specs.Frames.{args_of}
use Rattle.wf_mean_runs.specs.Seeking.{SoughtBlock}
use Rattle.wf_mean_runs.proofs.PointLaws.{found_there}

-- The method with a number, by its declaration and its body.
both_at : (nodes : TypedNodes) (ms : List Method) (bodies : List typed_code.Block) (i : ℕ) (m : Method) (b : typed_code.Block) → slice_get ms i ≡ Some m → slice_get bodies i ≡ Some b → slice_get (methods_of nodes ms bodies) i ≡ Some (method_of nodes m b)
both_at nodes [] bodies i m b e f = absurd (cc (e))
both_at nodes (x ∷ ms) [] i m b e f = absurd (cc (f))
both_at nodes (x ∷ ms) (y ∷ bodies) zero m b e f =
    let p : x ≡ m = cc (e) in
    let q : y ≡ b = cc (f) in
    ap (λ z. Some (method_of nodes z y)) p ∙ ap (λ z. Some (method_of nodes m z)) q
both_at nodes (x ∷ ms) (y ∷ bodies) (suc i) m b e f = both_at nodes ms bodies i m b e f

pub method_is : (nodes : TypedNodes) (i : ℕ) (m : Method) (b : typed_code.Block) → slice_get nodes.methods i ≡ Some m → slice_get nodes.bodies i ≡ Some b → slice_get (package_of nodes).methods i ≡ Some (method_of nodes m b)
unfolding package_of
method_is nodes i m b e f = both_at nodes nodes.methods nodes.bodies i m b e f

method_made : (nodes : TypedNodes) (ms : List Method) (bodies : List typed_code.Block) (i : ℕ) (m : Method) → length bodies ≡ length ms → slice_get ms i ≡ Some m → (b : typed_code.Block) × (slice_get (methods_of nodes ms bodies) i ≡ Some (method_of nodes m b))
method_made nodes [] bodies i m l e = absurd (cc (e))
method_made nodes (x ∷ ms) [] i m l e = absurd (omega (arith, l))
method_made nodes (x ∷ ms) (y ∷ bodies) zero m l e = let p : x ≡ m = cc (e) in (y, ap (λ z. Some (method_of nodes z y)) p)
method_made nodes (x ∷ ms) (y ∷ bodies) (suc i) m l e = method_made nodes ms bodies i m (omega (arith, l)) e

-- By its declaration alone.
pub method_by : (nodes : TypedNodes) → IsTyped nodes → (i : ℕ) (m : Method) → slice_get nodes.methods i ≡ Some m → (b : typed_code.Block) × (slice_get (package_of nodes).methods i ≡ Some (method_of nodes m b))
unfolding package_of
method_by nodes typed i m e = method_made nodes nodes.methods nodes.bodies i m typed.bodied e

item_at : {X : Type 0} (xs : List X) (i : ℕ) → i < length xs → (x : X) × (slice_get xs i ≡ Some x)
item_at [] i h = absurd (omega (arith, h))
item_at (x ∷ xs) zero h = (x, refl)
item_at (x ∷ xs) (suc i) h = item_at xs i (omega (arith, h))

pub method_there : (nodes : TypedNodes) → IsTyped nodes → (i : ℕ) → i < length nodes.methods → (m : MethodTree) × (slice_get (package_of nodes).methods i ≡ Some m)
method_there nodes typed i h =
    let it = item_at nodes.methods i h in
    let made = method_by nodes typed i it.0 it.1 in
    (method_of nodes it.0 made.0, made.1)

-- What a declaration tells of its method.
pub args_are : (nodes : TypedNodes) → IsTyped nodes → (i : ℕ) (tree : MethodTree) → i < length nodes.methods → slice_get (package_of nodes).methods i ≡ Some tree → tree.args ≡ map (variable_of nodes) (args_of nodes i)
args_are nodes typed i tree h e =
    let it = item_at nodes.methods i h in
    let made = method_by nodes typed i it.0 it.1 in
    let same : method_of nodes it.0 made.0 ≡ tree = cc (made.1, e) in
    ap (λ (t : MethodTree). t.args) (sym same) ∙ ap (λ (o : Option Method). map (variable_of nodes) (unwrap_or (option_map (λ (m : Method). m.args) o) [])) (sym it.1)

pub mark_is : (nodes : TypedNodes) → IsTyped nodes → (i : ℕ) (tree : MethodTree) (m : Method) → slice_get nodes.methods i ≡ Some m → slice_get (package_of nodes).methods i ≡ Some tree → tree.mark ≡ m.mark
mark_is nodes typed i tree m h e =
    let made = method_by nodes typed i m h in
    let same : method_of nodes m made.0 ≡ tree = cc (made.1, e) in
    ap (λ (t : MethodTree). t.mark) (sym same)

pub gives_is : (nodes : TypedNodes) → IsTyped nodes → (i : ℕ) (tree : MethodTree) (m : Method) → slice_get nodes.methods i ≡ Some m → slice_get (package_of nodes).methods i ≡ Some tree → tree.gives ≡ m.gives
gives_is nodes typed i tree m h e =
    let made = method_by nodes typed i m h in
    let same : method_of nodes m made.0 ≡ tree = cc (made.1, e) in
    ap (λ (t : MethodTree). t.gives) (sym same)

-- The body on a stage.
pub body_is : (nodes : TypedNodes) (i : ℕ) (m : Method) (b : typed_code.Block) → slice_get nodes.methods i ≡ Some m → slice_get nodes.bodies i ≡ Some b → (unwrap_or (slice_get (package_of nodes).methods i) no_method).body ≡ block_of nodes b
body_is nodes i m b e f = ap (λ (o : Option MethodTree). (unwrap_or o no_method).body) (method_is nodes i m b e f)

fresh_map : (nodes : TypedNodes) (vs : List Var) → map (λ (x : Variable). fresh_local x.ty) (map (variable_of nodes) vs) ≡ map (λ (x : Var). fresh_local x.ty) vs
fresh_map nodes [] = refl
fresh_map nodes (v ∷ vs) = ap (λ xs. fresh_local v.ty ∷ xs) (fresh_map nodes vs)

pub fresh_locals : (nodes : TypedNodes) → IsTyped nodes → (i : ℕ) (m : Method) → slice_get nodes.methods i ≡ Some m → map (λ (x : Variable). fresh_local x.ty) (unwrap_or (slice_get (package_of nodes).methods i) no_method).locals ≡ map (λ (x : Var). fresh_local x.ty) m.locals
fresh_locals nodes typed i m e =
    let made = method_by nodes typed i m e in
    ap (λ (o : Option MethodTree). map (λ (x : Variable). fresh_local x.ty) (unwrap_or o no_method).locals) made.1 ∙ fresh_map nodes m.locals

-- The call whose body runs is told by what stays.
pub same_call : (old new : Stage) → shape new ≡ shape old → call_on new ≡ call_on old
same_call old new e = ap (λ (s : Shape). record { object = s.object; method = s.method.0; args = map slot_seen s.args }) e

module _ (nodes : TypedNodes) (level : ℕ) (old : Stage) where
  -- A body of which nothing is kept begins.
  pub begins_anew : (mid new : Stage) (flow : Flow) (part : Block) → remaining_of (world_on nodes old) (call_on old) ≡ None → shape mid ≡ shape old → mid.turns ≡ old.turns
      → vars_on nodes mid ≡ record { locals = map (λ (x : Variable). fresh_local x.ty) (body_on nodes old).method.locals; world = taken_up (call_on old) (world_on nodes old) }
      → (body_on nodes old).method.body ≡ part → RunsBlock nodes level part mid new flow → Flows nodes level (body_on nodes old).method.body end stop flow new (whole_run nodes level old)
  begins_anew mid new flow part none same turns vars is runs =
      let start : At = at_block (body_on nodes old).method.body stop (record { locals = map (λ (x : Variable). fresh_local x.ty) (body_on nodes old).method.locals; world = taken_up (call_on old) (world_on nodes old) }) in
      let e : whole_run nodes level old ≡ goes (body_on nodes old) (calls_below nodes level) old.turns start = ap (λ r. goes (body_on nodes old) (calls_below nodes level) old.turns (begins (body_on nodes old).method (taken_up (call_on old) (world_on nodes old)) r)) none in
      let f : run_on nodes level mid untouched (body_on nodes old).method.body stop ≡ goes (body_on nodes old) (calls_below nodes level) old.turns start =
      ap (λ b. goes b (calls_below nodes level) mid.turns (at_block (body_on nodes old).method.body stop (vars_on nodes mid))) (same_body nodes old mid same)
      ∙ ap (λ n. goes (body_on nodes old) (calls_below nodes level) n (at_block (body_on nodes old).method.body stop (vars_on nodes mid))) turns
      ∙ ap (λ v. goes (body_on nodes old) (calls_below nodes level) old.turns (at_block (body_on nodes old).method.body stop v)) vars in
      let P : Outcome (Ending × World) → Type 0 = λ o. Flows nodes level (body_on nodes old).method.body end stop flow new o in
      let Q : Block → Type 0 = λ b. Flows nodes level b end stop flow new (run_on nodes level mid untouched b stop) in
      subst P (f ∙ sym e) (subst Q (sym is) (runs stop))

  -- A body goes on at the point that is kept.
  pub goes_on_kept : (mid new : Stage) (flow : Flow) (part : Block) (at : Place) (done : Progress) (method : MethodTree) → slice_get (package_of nodes).methods old.frame.method.0 ≡ Some method
      → remaining_of (world_on nodes old) (call_on old) ≡ remaining_at (package_of nodes) old.frame.method.0 at done (map slot_seen mid.frame.locals.items)
      → shape mid ≡ shape old → mid.turns ≡ old.turns → world_on nodes mid ≡ taken_up (call_on old) (world_on nodes old)
      → (body_on nodes old).method.body ≡ part → SoughtBlock nodes level at (done_seen done) part mid (Some flow) new → Flows nodes level (body_on nodes old).method.body end stop flow new (whole_run nodes level old)
  goes_on_kept mid new flow part at done method there kept same turns world is sought =
      let own : (body_on nodes old).method ≡ method = ap (λ o. unwrap_or o no_method) there in
      let found = sought stop in
      let items = found.0 in
      let locals = map slot_seen mid.frame.locals.items in
      let r : Remaining = record { done = done_seen done; block = items.block; behind = items.behind; locals = locals } in
      let standing : standing_at at method.body stop ≡ Some items = ap (λ b. standing_at at b stop) (sym (ap (λ (m : MethodTree). m.body) own) ∙ is) ∙ found.1 in
      let left : remaining_of (world_on nodes old) (call_on old) ≡ Some r =
      kept ∙ ap (λ o. option_and_then (λ (method : MethodTree). option_map (λ (items : Items). record { done = done_seen done; block = items.block; behind = items.behind; locals = locals }) (standing_at at method.body stop)) o) there
      ∙ ap (option_map (λ (items : Items). record { done = done_seen done; block = items.block; behind = items.behind; locals = locals })) standing in
      let here : At = record { done = done_seen done; block = items.block; behind = items.behind; vars = record { locals = locals; world = taken_up (call_on old) (world_on nodes old) } } in
      let e : whole_run nodes level old ≡ goes (body_on nodes old) (calls_below nodes level) old.turns here = ap (λ o. goes (body_on nodes old) (calls_below nodes level) old.turns (begins (body_on nodes old).method (taken_up (call_on old) (world_on nodes old)) o)) left in
      let f : run_on nodes level mid (done_seen done) items.block items.behind ≡ goes (body_on nodes old) (calls_below nodes level) old.turns here =
      ap (λ b. goes b (calls_below nodes level) mid.turns (record { done = done_seen done; block = items.block; behind = items.behind; vars = vars_on nodes mid })) (same_body nodes old mid same)
      ∙ ap (λ n. goes (body_on nodes old) (calls_below nodes level) n (record { done = done_seen done; block = items.block; behind = items.behind; vars = vars_on nodes mid })) turns
      ∙ ap (λ w. goes (body_on nodes old) (calls_below nodes level) old.turns (record { done = done_seen done; block = items.block; behind = items.behind; vars = record { locals = locals; world = w } })) world in
      let P : Outcome (Ending × World) → Type 0 = λ o. Flows nodes level (body_on nodes old).method.body end stop flow new o in
      let Q : Block → Type 0 = λ b. Flows nodes level b end stop flow new (run_on nodes level mid (done_seen done) items.block items.behind) in
      subst P (f ∙ sym e) (subst Q (sym is) found.2)

  -- Where no point stands at the kept place, nothing is kept.
  pub none_there : (part : Block) (at : Place) (done : Progress) (locals : List Value) (mid new : Stage) → (body_on nodes old).method.body ≡ part → SoughtBlock nodes level at (done_seen done) part mid None new
      → remaining_at (package_of nodes) old.frame.method.0 at done locals ≡ None
  none_there part at done locals mid new is sought = by_method (slice_get (package_of nodes).methods old.frame.method.0) is
    where
      by_method : (o : Option MethodTree) → (unwrap_or o no_method).body ≡ part
          → option_and_then {U = Remaining} (λ (method : MethodTree). option_map (λ (items : Items). record { done = done_seen done; block = items.block; behind = items.behind; locals = locals }) (standing_at at method.body stop)) o ≡ None
      by_method None is = refl
      by_method (Some method) is = rw (is, (sought stop).0) refl

-- How the call of a body ends.
module _ (nodes : TypedNodes) (level : ℕ) (stage : Stage) where
  -- At the body's end.
  pub ends : (o : Outcome (Ending × World)) (v : Option Slot) → v ≡ end_value (is_coroutine (body_on nodes stage).method.mark) → o ≡ goes (body_on nodes stage) (calls_below nodes level) stage.turns (at_block end stop (vars_on nodes stage))
      → left_over (call_on stage) o ≡ Got stage.turns (returned (option_map slot_seen v), world_on nodes stage)
  ends o v is h =
      ap (left_over (call_on stage)) (h ∙ stepped nodes level (body_on nodes stage) stage.turns untouched end stop (vars_on nodes stage))
      ∙ ap (λ x. Got stage.turns (returned x, world_on nodes stage)) (by_mark (is_coroutine (body_on nodes stage).method.mark) ∙ ap (option_map slot_seen) (sym is))
    where
      by_mark : (c : Bool) → (if c then Some (status_number ok) else None) ≡ option_map slot_seen (end_value c)
      by_mark true = refl
      by_mark false = refl

  -- At a suspension.
  pub suspends_at : (typed : IsTyped nodes) (o : Outcome (Ending × World)) (method : MethodTree) (status : ℕ) (at : Place) (done : Progress) (w : World) → slice_get (package_of nodes).methods stage.frame.method.0 ≡ Some method
      → w ≡ with_object stage.frame.object (set_remaining stage.frame.method.0 (remaining_at (package_of nodes) stage.frame.method.0 at done (kept_locals (map slot_seen stage.frame.locals.items)))) (world_on nodes stage)
      → (items : Items) → StandsIn at items (body_on nodes stage).method.body stop
      → o ≡ Got stage.turns (suspends status (record { done = done_seen done; block = items.block; behind = items.behind; locals = kept_locals (vars_on nodes stage).locals }), (vars_on nodes stage).world)
      → Ascend (points_in method.body)
      → left_over (call_on stage) o ≡ Got stage.turns (suspended status, w)
  suspends_at typed o method status at done w there world items stands is asc =
      let own : (body_on nodes stage).method ≡ method = ap (λ o. unwrap_or o no_method) there in
      let P : MethodTree → Type 0 = λ m. StandsIn at items m.body stop in
      let standing = found_there at items method.body stop asc (subst P own stands) in
      let locals = kept_locals (map slot_seen stage.frame.locals.items) in
      let r : Remaining = record { done = done_seen done; block = items.block; behind = items.behind; locals = locals } in
      let left : remaining_at (package_of nodes) stage.frame.method.0 at done locals ≡ Some r =
      ap (λ o. option_and_then (λ (method : MethodTree). option_map (λ (items : Items). record { done = done_seen done; block = items.block; behind = items.behind; locals = locals }) (standing_at at method.body stop)) o) there
      ∙ ap (option_map (λ (items : Items). record { done = done_seen done; block = items.block; behind = items.behind; locals = locals })) standing in
      ap (left_over (call_on stage)) is ∙ ap (λ x. Got stage.turns (suspended status, x)) (ap (λ x. with_object stage.frame.object (set_remaining stage.frame.method.0 x) (world_on nodes stage)) (sym left) ∙ sym world)

-- The body of a method runs in its frame, within a turn fewer.
pub runs_entered : (nodes : TypedNodes) (level : ℕ) (stage : Stage) (method : MethodTree) (n : ℕ) → slice_get (package_of nodes).methods stage.frame.method.0 ≡ Some method → n ≡ suc stage.turns
    → run_if (package_of nodes) (calls_below nodes level) (slice_get (package_of nodes).methods stage.frame.method.0) (call_on stage) n (world_on nodes stage) ≡ left_over (call_on stage) (whole_run nodes level stage)
unfolding goes
runs_entered nodes level stage method n there turns =
    let own : (body_on nodes stage).method ≡ method = ap (λ o. unwrap_or o no_method) there in
    ap (λ o. run_if (package_of nodes) (calls_below nodes level) o (call_on stage) n (world_on nodes stage)) there
    ∙ ap (λ k. body_run (package_of nodes) (calls_below nodes level) method (call_on stage) k (world_on nodes stage)) turns
    ∙ rw (sym own) refl

pub none_left : (nodes : TypedNodes) (calls : Callees) (method : MethodTree) (call : Call) (m n : ℕ) (w : World) → slice_get (package_of nodes).methods m ≡ Some method → n ≡ 0 → run_if (package_of nodes) calls (slice_get (package_of nodes).methods m) call n w ≡ More
none_left nodes calls method call m n w there turns = rw (there, turns) refl
