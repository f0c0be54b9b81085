-- Methods as they run: through the entry table, in a frame, from a body's beginning or from its point, and from a body that calls them.
use Rattle.std.proofs.Common.{◌≡◌, ℕ, zero, suc, ◌+◌, ◌*◌, ◌^◌, ◌<◌, ◌≤◌, Bool, true, false, ◌&&◌, List, [], ◌∷◌, length, map, take, drop, get_or, Option, Some, None, IsTrue, nat_lt, refl, sym, ap, ◌∙◌, subst, arith}
use Rattle.std.specs.Prelude.{slice_get, option_map, unwrap_or, All}
use Rattle.std.specs.List.{list_all}
use Rattle.std.proofs.lemmas.List.{length-map}
use Rattle.turns.specs.Run.{Outcome, Got, holding}
use Rattle.wf_base.specs.declared.marks.Mark.{Mark}
use Rattle.wf_base.specs.declared.marks.Mark.TheVariants.{Pure}
use Rattle.wf_text.specs.declared.place.Place.{Place}
use Rattle.wf_text.specs.declared.numbers.MethodId.{MethodId}
use Rattle.wf_ast.specs.declared.declarations.Method.{Method}
use Rattle.wf_ast.specs.declared.numbers.ExprId.{ExprId}
use Rattle.wf_ast.specs.declared.numbers.StmtId.{StmtId}
use Rattle.wf_ast.specs.declared.typed_code.Block as typed_code
use Rattle.wf_ast.specs.declared.typed_code.Callee.{Callee}
use Rattle.wf_ast.specs.declared.typed_nodes.TypedNodes.{TypedNodes}
use Rattle.wf_ast.specs.TypedTree.{Block, Target, ValueTree, end, invoke, plain}
use Rattle.wf_ast.specs.TypedTrees.{call_made, mark_of, optional_target, tree_of}
use Rattle.wf_ast.specs.TypedPackage.{MethodTree, Variable, package_of, variable_of}
use Rattle.wf_ast.specs.TypedInvariant.{IsTyped, block_below}
use Rattle.wf_ast.specs.Value.{Value}
use Rattle.wf_meaning.specs.SourceState.{Done, Object, stop}
use Rattle.wf_meaning.specs.Entry.{Answered, admission, refusal_of}
use Rattle.wf_meaning.specs.World.{World}
use Rattle.wf_meaning.specs.SourceStep.{Call, Callees, Ending, after_call, entered, receiver_of, settled, through, values_of}
use Rattle.wf_meaning.specs.SourceCall.{fresh_local, left_over, remaining_of, run_if, taken_up}
use Rattle.wf_bufs.specs.HostSeen.{host_of}
use Rattle.wf_mean_exprs.specs.declared.objects.Frame.{Frame}
use Rattle.wf_mean_exprs.specs.declared.objects.Progress.{Progress}
use Rattle.wf_mean_exprs.specs.MachineState.{body_seen, done_seen, object_seen, slot_seen}
use Rattle.wf_mean_stmts.specs.declared.entry.Answer.{Answer}
use Rattle.wf_mean_stmts.specs.declared.stage.Stage.{Stage}
use Rattle.wf_mean_stmts.specs.Entries.{answer_seen}
use Rattle.wf_mean_stmts.specs.Stages.{Shape, body_on, kept_lengths, shape, sight_on, vars_on}
use Rattle.wf_mean_stmts.proofs.BodyLemmas.{same_body}
use Rattle.wf_mean_flows.specs.declared.flows.Flow.{Flow}
use Rattle.wf_mean_flows.specs.declared.flows.Flow.TheVariants as flows
use Rattle.wf_mean_flows.specs.Flows.{Flows, Runs, RunsBlock, block_made_of, calls_below, made_of, run_on, site_of, went}
use Rattle.wf_mean_runs.specs.declared.calls.Ran.{Ran}
use Rattle.wf_mean_runs.specs.declared.calls.Ran.TheVariants as rans
use Rattle.wf_mean_runs.specs.Answers.{AdmitsAmong, Closes, Given}
use Rattle.wf_mean_runs.specs.Bodies.{HasRoom, TakesUp, call_on, kept_in, remaining_taken, whole_run}
use Rattle.wf_mean_runs.specs.Calls.{CallsMethod, HoldArgs, Through, frame_of, ran_seen, tree_called, world_on}
use Rattle.wf_mean_runs.specs.Frames.{AreReady, Sizes, Stays, args_of, local_counts, locals_of, sizes_for, sizes_of}
use Rattle.wf_mean_runs.specs.Seeking.{SoughtBlock}
use Rattle.wf_mean_runs.proofs.BodyLaws.{args_are, begins_anew, body_is, goes_on_kept, mark_is, method_there, none_there, runs_entered, same_call}
use Rattle.wf_mean_runs.proofs.CallLaws.{args_stuck, call_invokes, calls_number, calls_through, enters, never_admitted, receiver_stuck, refuses}
use Rattle.wf_mean_runs.proofs.KeepLaws.{has_room, kept_remains}
use Rattle.wf_mean_runs.proofs.OrderLaws.{found_frame, frame_is, frame_sizes, item_there}
use Rattle.wf_mean_runs.proofs.SeekLaws.{run_moved}

-- The entry table.
module _ (nodes : TypedNodes) (typed : IsTyped nodes) (calls : Callees) (callee : MethodTree) (m object : ℕ) (method : Method) (args : List Value) (fit : Bool) (old new : Stage)
    (here : slice_get nodes.methods m ≡ Some method) (there : slice_get (package_of nodes).methods m ≡ Some callee) (less : object < length old.objects.items) (host : new.host ≡ old.host) (turns : new.turns ≡ old.turns) where
  abbrev the_call : Call
  the_call = record { object = object; method = m; args = args }

  object_there : (o : Object) × (slice_get (world_on nodes old).objects object ≡ Some o)
  object_there =
      let long : length (map (object_seen (package_of nodes)) old.objects.items) ≡ length old.objects.items = length-map old.objects.items (object_seen (package_of nodes)) in
      item_there (map (object_seen (package_of nodes)) old.objects.items) object (omega (arith, less, long))

  module _ (answer : Option ℕ) (table : (o : Object) → slice_get (world_on nodes old).objects object ≡ Some o → AdmitsAmong answer (admission method.mark m fit o) object (world_on nodes old).objects (world_on nodes new).objects) where
    by_callee : AdmitsAmong answer (admission callee.mark m fit object_there.0) object (world_on nodes old).objects (world_on nodes new).objects
    by_callee =
        let P : Mark → Type 0 = λ k. AdmitsAmong answer (admission k m fit object_there.0) object (world_on nodes old).objects (world_on nodes new).objects in
        subst P (sym (mark_is nodes typed m callee method here there)) (table object_there.0 object_there.1)

  pub entry_refuses : (status : ℕ) (answer : Answer)
      → ((o : Object) → slice_get (world_on nodes old).objects object ≡ Some o → AdmitsAmong (Some status) (admission method.mark m fit o) object (world_on nodes old).objects (world_on nodes new).objects)
      → answer_seen answer ≡ refusal_of callee status
      → entered (package_of nodes) calls callee (record { object = object; method = m; args = args }) fit old.turns (world_on nodes old) (slice_get (world_on nodes old).objects object) ≡ ran_seen nodes (rans.Answers answer) new
  entry_refuses status answer table is =
      refuses nodes calls callee the_call fit old.turns (world_on nodes old) (world_on nodes new) object_there.0 object_there.1 (ap host_of host) status (by_callee (Some status) table)
      ∙ ap (λ a. Got old.turns (a, world_on nodes new)) (sym is)
      ∙ ap (λ n. Got n (answer_seen answer, world_on nodes new)) (sym turns)

  pub entry_fits : ((o : Object) → slice_get (world_on nodes old).objects object ≡ Some o → AdmitsAmong None (admission method.mark m fit o) object (world_on nodes old).objects (world_on nodes new).objects) → fit ≡ true
  entry_fits table = by_fit fit refl
    where
      by_fit : (f : Bool) → fit ≡ f → fit ≡ true
      by_fit true e = e
      by_fit false e =
          let P : Bool → Type 0 = λ f. AdmitsAmong None (admission method.mark m f object_there.0) object (world_on nodes old).objects (world_on nodes new).objects in
          absurd (never_admitted method.mark m object_there.0 object (world_on nodes old).objects (world_on nodes new).objects (subst P e (table object_there.0 object_there.1)))

  pub entry_enters : (ran : Ran) (mid last : Stage)
      → ((o : Object) → slice_get (world_on nodes old).objects object ≡ Some o → AdmitsAmong None (admission method.mark m fit o) object (world_on nodes old).objects (world_on nodes new).objects)
      → calls (record { object = object; method = m; args = args }) new.turns (world_on nodes new) ≡ ran_seen nodes ran mid
      → ran_seen nodes ran last ≡ settled (package_of nodes) callee (record { object = object; method = m; args = args }) (ran_seen nodes ran mid)
      → entered (package_of nodes) calls callee (record { object = object; method = m; args = args }) fit old.turns (world_on nodes old) (slice_get (world_on nodes old).objects object) ≡ ran_seen nodes ran last
  entry_enters ran mid last table runs settles =
      let e = enters nodes calls callee the_call fit old.turns (world_on nodes old) (world_on nodes new) object_there.0 object_there.1 (ap host_of host) (by_callee None table) in
      e.1
      ∙ ap (λ w. settled (package_of nodes) callee the_call (calls the_call old.turns w)) (sym e.0)
      ∙ ap (λ n. settled (package_of nodes) callee the_call (calls the_call n (world_on nodes new))) (sym turns)
      ∙ ap (settled (package_of nodes) callee the_call) runs
      ∙ sym settles

-- The statements of a body have numbers below those of all.
both : (a b : Bool) → (a && b) ≡ true → (a ≡ true) × (b ≡ true)
both true true h = (refl, refl)
both true false h = absurd (cc (h))
both false b h = absurd (cc (h))

all_at : {X : Type 0} (p : X → Bool) (xs : List X) (i : ℕ) (x : X) → list_all p xs ≡ true → slice_get xs i ≡ Some x → p x ≡ true
all_at p [] i x h e = absurd (cc (e))
all_at p (y ∷ ys) zero x h e = let q : y ≡ x = cc (e) in ap p (sym q) ∙ (both (p y) (list_all p ys) h).0
all_at p (y ∷ ys) (suc i) x h e = all_at p ys i x (both (p y) (list_all p ys) h).1 e

pub body_known : (nodes : TypedNodes) → IsTyped nodes → (i : ℕ) (b : typed_code.Block) (read : List StmtId) (top : ℕ) → slice_get nodes.bodies i ≡ Some b → read ≡ b.items
    → ((n : ℕ) → list_all (λ (s : StmtId). nat_lt s.0 n) read ≡ true → top ≤ n) → top ≤ length nodes.stmts
body_known nodes typed i b read top e same least =
    let P : List StmtId → Type 0 = λ xs. list_all (λ (s : StmtId). nat_lt s.0 (length nodes.stmts)) xs ≡ true in
    least (length nodes.stmts) (subst P (sym same) (all_at (λ (body : typed_code.Block). block_below (length nodes.stmts) body) nodes.bodies i b typed.bodies_made e))

pub body_inside : (b : typed_code.Block) (read : List StmtId) (top : ℕ) → read ≡ b.items → list_all (λ (s : StmtId). nat_lt s.0 top) read ≡ true → IsTrue (block_below top b)
body_inside b read top same above = let P : List StmtId → Type 0 = λ xs. list_all (λ (s : StmtId). nat_lt s.0 top) xs ≡ true in subst P same above

-- The measures of a search and of a run, and of a body on fewer frames, lie below those of what needs them.
pub seek_falls : (level top k : ℕ) → top ≤ k → k < 2 ^ 32 → 2 ^ 104 * level + (2 ^ 68 * top + 16 * top + 1) < 2 ^ 104 * level + 2 ^ 103
seek_falls level top k h l = omega (arith, h, l)

pub run_falls : (level level' top k : ℕ) → level' ≡ level → top ≤ k → k < 2 ^ 32 → 2 ^ 104 * level' + 16 * top < 2 ^ 104 * level + 2 ^ 103
run_falls level level' top k e h l = omega (arith, e, h, l)

pub frame_falls : (level at front : ℕ) → front ≡ at → at < level → 2 ^ 104 * front + (2 ^ 103 + 1) < 2 ^ 104 * level + 1
frame_falls level at front e h = omega (arith, e, h)

-- Frames are ready where only a stage has changed, and the first of them are.
pub ready_still : (nodes : TypedNodes) (below : List Frame) (x y : Stage) → AreReady nodes below x → shape y ≡ shape x → AreReady nodes below y
ready_still nodes below x y ready same =
    let K : List (List ℕ) → Type 0 = λ ks. All (λ counts. counts ≡ local_counts nodes) ks in
    let kept : map kept_lengths y.objects.items ≡ map kept_lengths x.objects.items = ap (λ (s : Shape). s.kept) same in
    record { frames = ready.frames; level = ready.level; kept = subst K (sym kept) ready.kept }

first_frames : (size : ℕ → Sizes) (xs : List Frame) (ys : List ℕ) (n i : ℕ) → map sizes_of xs ≡ map size (take n ys) → i ≤ n → n ≡ length xs → map sizes_of (take i xs) ≡ map size (take i ys)
first_frames size xs ys n zero e h l = refl
first_frames size [] ys n (suc i) e h l = absurd (omega (arith, h, l))
first_frames size (x ∷ xs) ys zero (suc i) e h l = absurd (omega (arith, h))
first_frames size (x ∷ xs) [] (suc n) (suc i) e h l = absurd (cc (e))
first_frames size (x ∷ xs) (y ∷ ys) (suc n) (suc i) e h l =
    let one : sizes_of x ≡ size y = cc (e) in
    let more : map sizes_of xs ≡ map size (take n ys) = cc (e) in
    ap (λ s. s ∷ map sizes_of (take i xs)) one ∙ ap (λ ss. size y ∷ ss) (first_frames size xs ys n i more (omega (arith, h)) (omega (arith, l)))

-- `front` is the first frames, read in any words.
pub ready_part : (nodes : TypedNodes) (below front : List Frame) (stage : Stage) (at : ℕ) → AreReady nodes below stage → at < length below → length front ≡ at → front ≡ take at below → AreReady nodes front stage
ready_part nodes below front stage at ready less long is =
    let P : ℕ → Type 0 = λ n. map sizes_of front ≡ map (sizes_for nodes) (take n nodes.order) in
    record {
      frames = subst P (sym long) (ap (map sizes_of) is ∙ first_frames (sizes_for nodes) below nodes.order (length below) at ready.frames (omega (arith, less)) refl);
      level = omega (arith, ready.level, less, long);
      kept = ready.kept;
    }

-- The frame of a method is the first of those from its place on.
frame_there : (below : List Frame) (at : ℕ) (d : Frame) → at < length below → slice_get below at ≡ Some (get_or (drop at below) 0 d)
frame_there [] at d h = absurd (omega (arith, h))
frame_there (x ∷ xs) zero d h = refl
frame_there (x ∷ xs) (suc at) d h = frame_there xs at d (omega (arith, h))

pub frame_in : (below back : List Frame) (at : ℕ) (d : Frame) → at < length below → back ≡ drop at below → slice_get below at ≡ Some (get_or back 0 d)
frame_in below back at d h is = frame_there below at d h ∙ ap (λ (fs : List Frame). Some (get_or fs 0 d)) (sym is)

pub sizes_there : (nodes : TypedNodes) (below : List Frame) (stage : Stage) (m at : ℕ) (f : Frame) → AreReady nodes below stage → frame_of nodes (length below) m ≡ Some at → at < length below → slice_get below at ≡ Some f → sizes_of f ≡ sizes_for nodes m
sizes_there nodes below stage m at f ready found less there = frame_sizes nodes below at m f ready.frames less there (frame_is nodes m (length below) at ready.level found)

-- A call runs in its method's frame.
pub called_in : (nodes : TypedNodes) (below : List Frame) (m object at level : ℕ) (f : Frame) (args : List Value) (n : ℕ) (w : World) (o : Outcome (Answered × World)) → length below ≤ length nodes.order → frame_of nodes (length below) m ≡ Some at
    → slice_get below at ≡ Some f → HoldArgs nodes below m args → level ≡ at
    → run_if (package_of nodes) (calls_below nodes level) (slice_get (package_of nodes).methods m) (record { object = object; method = m; args = map slot_seen f.args.items }) n w ≡ o
    → calls_below nodes (length below) (record { object = object; method = m; args = args }) n w ≡ o
called_in nodes below m object at level f args n w o ready found there hold same runs =
    let values : map slot_seen f.args.items ≡ args = sym (ap (λ (o : Option Frame). unwrap_or (option_map (λ (frame : Frame). map slot_seen frame.args.items) o) []) there) ∙ hold at found in
    found_frame nodes m object args n w (length below) at ready found
    ∙ ap (λ k. run_if (package_of nodes) (calls_below nodes k) (slice_get (package_of nodes).methods m) (record { object = object; method = m; args = args }) n w) (sym same)
    ∙ ap (λ vs. run_if (package_of nodes) (calls_below nodes level) (slice_get (package_of nodes).methods m) (record { object = object; method = m; args = vs }) n w) (sym values)
    ∙ runs

-- Of a body on a stage.
pub room_after : (nodes : TypedNodes) (below below' : List Frame) (x y : Stage) → AreReady nodes below x → Stays below below' x y → x.frame.method.0 < length nodes.methods → length x.frame.locals.items ≡ length (locals_of nodes x.frame.method.0)
    → HasRoom (kept_in y.objects.items y.frame.object y.frame.method.0) (length y.frame.locals.items)
room_after nodes below below' x y ready stays known sized =
    let m : x.frame.method.0 ≡ y.frame.method.0 = ap (λ (s : Shape). s.method.0) (sym stays.shape) in
    let n : length y.frame.locals.items ≡ length x.frame.locals.items = ap (λ (s : Shape). s.locals) stays.shape in
    let L : ℕ → Type 0 = λ k. k < length nodes.methods in
    has_room nodes y.objects.items y.frame.object y.frame.method.0 (length y.frame.locals.items) (ready_still nodes below x y ready stays.shape).kept (subst L m known) (n ∙ sized ∙ ap (λ k. length (locals_of nodes k)) m)

ran_same : (nodes : TypedNodes) (ran : Ran) (x y : Stage) → x.turns ≡ y.turns → world_on nodes x ≡ world_on nodes y → ran_seen nodes ran x ≡ ran_seen nodes ran y
ran_same nodes (rans.Answers answer) x y e f = ap (λ n. Got n (answer_seen answer, world_on nodes x)) e ∙ ap (λ w. Got y.turns (answer_seen answer, w)) f
ran_same nodes rans.Out x y e f = refl
ran_same nodes rans.Stuck x y e f = refl

pub body_ran : (nodes : TypedNodes) → IsTyped nodes → (level : ℕ) (x y z last : Stage) (flow : Flow) (ran : Ran) (n : ℕ) → x.frame.method.0 < length nodes.methods → n ≡ suc x.turns
    → Flows nodes level (body_on nodes x).method.body end stop flow y (whole_run nodes level x) → shape y ≡ shape x
    → ((level : ℕ) (o : Outcome (Ending × World)) → Flows nodes level (body_on nodes y).method.body end stop flow y o → left_over (call_on y) o ≡ ran_seen nodes ran z)
    → z.turns ≡ last.turns → world_on nodes z ≡ world_on nodes last
    → run_if (package_of nodes) (calls_below nodes level) (slice_get (package_of nodes).methods x.frame.method.0) (call_on x) n (world_on nodes x) ≡ ran_seen nodes ran last
body_ran nodes typed level x y z last flow ran n known turns runs same leaves left world =
    let it = method_there nodes typed x.frame.method.0 known in
    let P : Block → Type 0 = λ b. Flows nodes level b end stop flow y (whole_run nodes level x) in
    let own : (body_on nodes x).method.body ≡ (body_on nodes y).method.body = ap (λ b. b.method.body) (sym (same_body nodes x y same)) in
    runs_entered nodes level x it.0 n it.1 turns
    ∙ ap (λ c. left_over c (whole_run nodes level x)) (sym (same_call x y same))
    ∙ leaves level (whole_run nodes level x) (subst P own runs)
    ∙ ran_same nodes ran z last left world

module _ (nodes : TypedNodes) (level : ℕ) (old : Stage) (b : typed_code.Block) (known : old.frame.method.0 < length nodes.methods) (body : slice_get nodes.bodies old.frame.method.0 ≡ Some b) where
  body_part : (body_on nodes old).method.body ≡ block_made_of nodes b.items
  body_part = let it = item_there nodes.methods old.frame.method.0 known in body_is nodes old.frame.method.0 it.0 b it.1 body

  module _ (mid : Stage) (taken : Option (Place × Progress)) (kept : TakesUp taken mid.frame.locals.items (kept_in old.objects.items old.frame.object old.frame.method.0)) (same : shape mid ≡ shape old) (turns : mid.turns ≡ old.turns)
      (world : world_on nodes mid ≡ taken_up (call_on old) (world_on nodes old)) where
    left_is : remaining_of (world_on nodes old) (call_on old) ≡ remaining_taken (package_of nodes) old.frame.method.0 taken (map slot_seen mid.frame.locals.items)
    left_is = kept_remains (package_of nodes) old.objects.items old.frame.object old.frame.method.0 ∙ kept (package_of nodes) old.frame.method.0

    -- It begins.
    pub body_begins : remaining_taken (package_of nodes) old.frame.method.0 taken (map slot_seen mid.frame.locals.items) ≡ None → (before begun new : Stage) (flow : Flow) (level' : ℕ) → before ≡ mid → level' ≡ level
        → shape begun ≡ shape before → begun.turns ≡ before.turns
        → vars_on nodes begun ≡ record { locals = map (λ (x : Variable). fresh_local x.ty) (body_on nodes before).method.locals; world = world_on nodes before }
        → RunsBlock nodes level' (block_made_of nodes b.items) begun new flow → Flows nodes level (body_on nodes old).method.body end stop flow new (whole_run nodes level old)
    body_begins none before begun new flow level' still moved shaped left vars runs =
        let own : body_on nodes before ≡ body_on nodes old = same_body nodes old before (ap shape still ∙ same) in
        let locals : map (λ (x : Variable). fresh_local x.ty) (body_on nodes before).method.locals ≡ map (λ (x : Variable). fresh_local x.ty) (body_on nodes old).method.locals = ap (λ b. map (λ (x : Variable). fresh_local x.ty) b.method.locals) own in
        begins_anew nodes level old begun new flow (block_made_of nodes b.items) (left_is ∙ none) (shaped ∙ ap shape still ∙ same) (left ∙ ap (λ (s : Stage). s.turns) still ∙ turns)
        (vars ∙ ap (λ ls. record { locals = ls; world = world_on nodes before }) locals ∙ ap (λ w. record { locals = map (λ (x : Variable). fresh_local x.ty) (body_on nodes old).method.locals; world = w }) (ap (world_on nodes) still ∙ world))
        body_part (run_moved nodes level level' (block_made_of nodes b.items) begun new flow moved runs)

  module _ (mid : Stage) (at : Place) (done : Progress) (kept : TakesUp (Some (at, done)) mid.frame.locals.items (kept_in old.objects.items old.frame.object old.frame.method.0)) (same : shape mid ≡ shape old) (turns : mid.turns ≡ old.turns)
      (world : world_on nodes mid ≡ taken_up (call_on old) (world_on nodes old)) where
    -- It goes on at its point.
    pub body_goes_on : (new : Stage) (flow : Flow) → IsTyped nodes → SoughtBlock nodes level at (done_seen done) (block_made_of nodes b.items) mid (Some flow) new → Flows nodes level (body_on nodes old).method.body end stop flow new (whole_run nodes level old)
    body_goes_on new flow typed sought =
        let it = method_there nodes typed old.frame.method.0 known in
        goes_on_kept nodes level old mid new flow (block_made_of nodes b.items) at done it.0 it.1 (left_is mid (Some (at, done)) kept same turns world) same turns world body_part sought

    -- Its point isn't there.
    pub body_not_there : (before : Stage) → SoughtBlock nodes level at (done_seen done) (block_made_of nodes b.items) mid None before → remaining_taken (package_of nodes) old.frame.method.0 (Some (at, done)) (map slot_seen mid.frame.locals.items) ≡ None
    body_not_there before sought = none_there nodes level old (block_made_of nodes b.items) at done (map slot_seen mid.frame.locals.items) mid before body_part sought

-- A call that stands in a body.
given_none : (nodes : TypedNodes) (below : List Frame) (m : ℕ) (vs : Option (List Value)) → Given false nodes below m vs → vs ≡ None
given_none nodes below m None h = refl
given_none nodes below m (Some values) h = absurd h

given_some : (nodes : TypedNodes) (below : List Frame) (m : ℕ) (vs : Option (List Value)) → Given true nodes below m vs → (values : List Value) × ((vs ≡ Some values) × HoldArgs nodes below m values)
given_some nodes below m None h = absurd h
given_some nodes below m (Some values) h = (values, (refl, h))

module _ (nodes : TypedNodes) (typed : IsTyped nodes) (level : ℕ) (old : Stage) (s : StmtId) (at : Place) (target : Option ExprId) (keep : Bool) (callee : Callee) (m : MethodId) (ts : List ValueTree) (less : m.0 < length nodes.methods)
    (calls : CallsMethod callee m) (made : (rest : Block) → made_of nodes s rest ≡ plain (site_of nodes s) (call_made nodes (tree_of nodes) at (optional_target (tree_of nodes) target) keep callee ts) rest) (below : List Frame) where
  abbrev to : Target
  to = optional_target (tree_of nodes) target

  abbrev here : Block → Block
  here rest = plain (site_of nodes s) (invoke at to keep (mark_of nodes m.0) (tree_called callee) ts) rest

  invokes : (rest : Block) → made_of nodes s rest ≡ here rest
  invokes rest = made rest ∙ ap (λ st. plain (site_of nodes s) st rest) (call_invokes nodes at to keep callee m ts calls)

  method : MethodTree
  method = (method_there nodes typed m.0 less).0

  there : slice_get (package_of nodes).methods m.0 ≡ Some method
  unfolding method
  there = (method_there nodes typed m.0 less).1

  values_are : values_of (sight_on nodes old) method.args ts ≡ values_of (sight_on nodes old) (map (variable_of nodes) (args_of nodes m.0)) ts
  values_are = ap (λ vs. values_of (sight_on nodes old) vs ts) (args_are nodes typed m.0 method less there)

  pub call_no_values : Given false nodes below m.0 (values_of (sight_on nodes old) (map (variable_of nodes) (args_of nodes m.0)) ts) → (done : Done) → Runs nodes level (made_of nodes s) done old old flows.Stuck
  call_no_values given done rest behind =
      ap (λ b. run_on nodes level old done b behind) (invokes rest)
      ∙ args_stuck nodes level old s at to keep (mark_of nodes m.0) (tree_called callee) ts m.0 method there (calls_number callee m calls) done rest behind (values_are ∙ given_none nodes below m.0 (values_of (sight_on nodes old) (map (variable_of nodes) (args_of nodes m.0)) ts) given)

  module _ (given : Given true nodes below m.0 (values_of (sight_on nodes old) (map (variable_of nodes) (args_of nodes m.0)) ts)) where
    values : List Value
    values = (given_some nodes below m.0 (values_of (sight_on nodes old) (map (variable_of nodes) (args_of nodes m.0)) ts) given).0

    have : values_of (sight_on nodes old) method.args ts ≡ Some values
    unfolding values given_some
    have = values_are ∙ (given_some nodes below m.0 (values_of (sight_on nodes old) (map (variable_of nodes) (args_of nodes m.0)) ts) given).1.0

    hold : HoldArgs nodes below m.0 values
    unfolding values given_some
    hold = (given_some nodes below m.0 (values_of (sight_on nodes old) (map (variable_of nodes) (args_of nodes m.0)) ts) given).1.1

    pub call_no_receiver : receiver_of (body_on nodes old) (tree_called callee) (vars_on nodes old) ≡ None → (done : Done) → Runs nodes level (made_of nodes s) done old old flows.Stuck
    call_no_receiver none done rest behind =
        ap (λ b. run_on nodes level old done b behind) (invokes rest)
        ∙ receiver_stuck nodes level old s at to keep (mark_of nodes m.0) (tree_called callee) ts m.0 method there (calls_number callee m calls) values have done rest behind none

    pub call_closes : (object : ℕ) (mid new : Stage) (ran : Ran) (flow : Flow) (declared : Method) → receiver_of (body_on nodes old) (tree_called callee) (vars_on nodes old) ≡ Some object → length below ≡ level → Through nodes below callee m.0 object old mid ran
        → mid.frame ≡ old.frame → mid.turns ≤ old.turns → slice_get nodes.methods m.0 ≡ Some declared → Closes nodes s target keep declared.mark mid new (ran_seen nodes ran mid) flow
        → (done : Done) → Runs nodes level (made_of nodes s) done old new flow
    call_closes object mid new ran flow declared receives moved runs same fewer is closes done rest behind =
        let mark : mark_of nodes m.0 ≡ declared.mark = ap (λ (o : Option Method). unwrap_or (option_map (λ (it : Method). it.mark) o) Pure) is in
        let M : Mark → Type 0 = λ k. Closes nodes s target keep k mid new (ran_seen nodes ran mid) flow in
        let F : Frame → Type 0 = λ f. Flows nodes level (here rest) rest behind flow new (went (body_seen nodes f) (calls_below nodes level) old.turns (holding (ran_seen nodes ran mid) (after_call (body_seen nodes f) old.turns keep (mark_of nodes m.0) to (here rest) rest behind (map slot_seen f.locals.items)))) in
        let O : Outcome (Answered × World) → Type 0 = λ o. Flows nodes level (here rest) rest behind flow new (went (body_on nodes old) (calls_below nodes level) old.turns (holding o (after_call (body_on nodes old) old.turns keep (mark_of nodes m.0) to (here rest) rest behind (vars_on nodes old).locals))) in
        let R : Outcome (Ending × World) → Type 0 = λ o. Flows nodes level (here rest) rest behind flow new o in
        let Q : Block → Type 0 = λ b. Flows nodes level b rest behind flow new (run_on nodes level old done b behind) in
        let L : ℕ → Type 0 = λ k. through (package_of nodes) (calls_below nodes k) method (tree_called callee) (record { object = object; method = m.0; args = values }) old.turns (world_on nodes old) ≡ ran_seen nodes ran mid in
        let gone = subst L moved (runs method values there hold) in
        let one = subst F same (subst M (sym mark) closes level old.turns at (tree_called callee) ts rest behind fewer) in
        subst Q (sym (invokes rest))
        (subst R (sym (calls_through nodes level old s at to keep (mark_of nodes m.0) (tree_called callee) ts m.0 method there (calls_number callee m calls) values have object done rest behind receives))
        (subst O (sym gone) one))
