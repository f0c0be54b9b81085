-- Each step of an accepted body keeps to the mark of its method.
use Rattle.std.proofs.Common.{◌≡◌, ℕ, zero, suc, Bool, true, false, not, List, map, Option, Some, None, refl, sym, ap, ◌∙◌, subst}
use Rattle.std.specs.Prelude.{slice_get, option_and_then}
use Rattle.std.specs.List.{list_all}
use Rattle.std.proofs.lemmas.Bool.{and_parts}
use Rattle.turns.specs.Run.{Outcome, Got}
use Rattle.turns.specs.Steps.{NextKeeps}
use Rattle.wf_text.specs.declared.rules.Rule.TheVariants.{B8}
use Rattle.wf_base.specs.declared.marks.Mark.{Mark}
use Rattle.wf_base.specs.declared.marks.Mark.TheVariants.{Pure, Impure, Coroutine}
use Rattle.wf_base.specs.Effects.{allows}
use Rattle.wf_base.specs.BaseTable.{bits_of, read_width}
use Rattle.wf_base.specs.HostRun.{Host}
use Rattle.wf_ast.specs.declared.types.Ty.{Ty}
use Rattle.wf_ast.specs.declared.types.Ty.TheVariants as types
use Rattle.wf_ast.specs.TypedTree.{arg, ValueTree, numeric, logical, state, elements, Target, to_number, to_element, to_flag, to_status, to_slice, to_nothing, Awaited, take_number, skip, write, Written, skip_fast, write_fast, copy_to_writer, copy_to_slice, Called, Arith, Simple, assign, await, perform, invoke, break_from, continue_in, give_back, yield, claim, Site, Head, Block, end, plain, choose, loop}
use Rattle.wf_ast.specs.TypedPackage.{MethodTree}
use Rattle.wf_ast.specs.WellTyped.{Context, type_at, is_pure, is_coroutine, is_reader, is_writer, has_none, is_status_target, may_write, same_mark, calls_method, fit_types, takes, takes_bits, takes_answer, number_of, well_assigned, well_awaited, well_written, well_invoked, well_simple}
use Rattle.wf_ast.specs.Value.{Value, num, truth_value, status_number, span, buffer, value_of}
use Rattle.wf_facts_exprs.specs.Demands.{or_else}
use Rattle.wf_meaning.specs.SourceState.{Behind, stop, behind_if, again, Done, untouched, has_bytes, to_skip, to_write, has_yielded, Remaining}
use Rattle.wf_meaning.specs.Entry.{Answered, returned, suspended}
use Rattle.wf_meaning.specs.Remaining.{hands_on, Marker, marker_of}
use Rattle.wf_meaning.specs.World.{World, Body, Vars, put_value}
use Rattle.wf_meaning.specs.SourceStep.{At, Ending, Callees, state_of, tested, chosen, continued, broken, given_back, yielded, values_of, receiver_of, through, put_answer, handed_on, after_call, invoked, simple_step, end_step, block_step, step}
use Rattle.wf_meaning.proofs.Lists2.{some_same, Made, and_then_made}
use Rattle.wf_bounds_stmts.specs.Requirements.{all_handed}
use Rattle.wf_bounds_stmts.specs.Targets.{answer_refusal}
use Rattle.wf_bounds_stmts.specs.Calls.{handed_to_method, known_to_call, left_by_call, answered_by}
use Rattle.wf_meaning.proofs.WorldSteps.{Kept, kept-some, kept-true, kept-either, kept-turn, kept-onward, kept-holding, go, ends-in}
use Rattle.wf_sound.specs.Worlds.{Shape, HaveTypes, context_of, AreApart}
use Rattle.wf_sound.specs.Positions.{loops_round, hands_on_well, is_slice_value}
use Rattle.wf_sound.specs.Callees.{KeepsTo, EndsWell, RunsWell, MethodRuns, CalleesRun}
use Rattle.wf_sound.specs.OneStep.{IsWellTyped}
use Rattle.wf_sound.proofs.HandedValues.{neither, ValuesOf, values-typed, all-accepted, HandedOn, handed-on, values-apart}
use Rattle.wf_sound.proofs.CallRuns.{through-runs, ReceiverOf, receiver-is}
use Rattle.wf_sound.proofs.InvokeSteps.{mark-same, known-well, call-known}
use Rattle.wf_sound.proofs.StatementLaw.{declared, results-fit}
use Rattle.wf_sound_runs.proofs.Placed.{Parts, parts}
use Rattle.wf_sound_runs.proofs.Running.{Stands, NextCalls}
use Rattle.wf_sound_runs.proofs.Effects.{keeps-itself, keeps-on, Eff, writes_as, put-eff, stays, await-kept, perform-eff}

-- The target of a statement that keeps the rules of types is one that its method may write.
module _ (b : Body) where
  abbrev c : Context
  c = context_of b

  writes-assigned : (target : Target) (v : ValueTree) → well_assigned c target v ≡ true → writes_as b b.method.mark target ≡ true
  writes-assigned (to_number at of path) (numeric t) h = (and_parts (may_write b.method.mark path) _ h).0
  writes-assigned (to_element at of cells index) (numeric t) h = (and_parts (not (is_pure b.method.mark)) _ h).0
  writes-assigned (to_flag at path) (logical t) h = (and_parts (may_write b.method.mark path) _ h).0
  writes-assigned (to_status at path) (state t) h = (and_parts (may_write b.method.mark path) _ h).0
  writes-assigned (to_slice at bits path) (elements t) h = (and_parts (may_write b.method.mark path) _ h).0
  writes-assigned target v h = absurd (cc (h))

  writes-bits : (target : Target) (bits : ℕ) → takes_bits c target bits ≡ true → writes_as b b.method.mark target ≡ true
  writes-bits (to_number at of path) bits h = (and_parts (may_write b.method.mark path) _ h).0
  writes-bits (to_element at of cells index) bits h = (and_parts (not (is_pure b.method.mark)) _ h).0
  writes-bits to_nothing bits h = refl
  writes-bits target bits h = absurd (cc (h))

  writes-nothing : (target : Target) → has_none target ≡ true → writes_as b b.method.mark target ≡ true
  writes-nothing to_nothing h = refl
  writes-nothing target h = absurd (cc (h))

  writes-type : (target : Target) (ty : Ty) → takes c target ty ≡ true → writes_as b b.method.mark target ≡ true
  writes-type (to_number at of path) (types.Num width lo hi) h = (and_parts (may_write b.method.mark path) _ h).0
  writes-type (to_element at of cells index) (types.Num width lo hi) h = (and_parts (not (is_pure b.method.mark)) _ h).0
  writes-type (to_flag at path) types.Flag h = (and_parts (may_write b.method.mark path) _ h).0
  writes-type (to_status at path) types.Status h = (and_parts (may_write b.method.mark path) _ h).0
  writes-type (to_slice at bits path) (types.Slice width) h = (and_parts (may_write b.method.mark path) _ h).0
  writes-type to_nothing ty h = refl
  writes-type target ty h = absurd (cc (h))

  writes-answer : (target : Target) (keep : Bool) (m : Mark) (result : Option Ty) → takes_answer c target keep m result ≡ true → writes_as b b.method.mark target ≡ true
  writes-answer target true Coroutine result h = writes-type target types.Status (and_parts (is_status_target target) _ h).1
  writes-answer target true Pure result h = absurd (cc (h))
  writes-answer target true Impure result h = absurd (cc (h))
  writes-answer target false Coroutine result h = writes-nothing target h
  writes-answer target false Pure None h = writes-nothing target h
  writes-answer target false Impure None h = writes-nothing target h
  writes-answer target false Pure (Some ty) h = writes-type target ty h
  writes-answer target false Impure (Some ty) h = writes-type target ty h

  writes-awaited : (target : Target) (a : ℕ) (call : Awaited) → well_awaited c target a call ≡ true → writes_as b b.method.mark target ≡ true
  writes-awaited target a (take_number form) h = writes-bits target (bits_of (read_width form)) (and_parts (is_reader (type_at c (arg a))) _ h).1
  writes-awaited target a (skip count) h = writes-nothing target (and_parts (has_none target) _ (and_parts (is_reader (type_at c (arg a))) _ h).1).0
  writes-awaited target a (write byte) h = writes-nothing target (and_parts (has_none target) _ (and_parts (is_writer (type_at c (arg a))) _ h).1).0

  writes-written : (target : Target) (call : Written) → well_written c target call ≡ true → writes_as b b.method.mark target ≡ true
  writes-written target (skip_fast a actual worst) h = writes-nothing target (and_parts (has_none target) _ (and_parts (is_reader (type_at c (arg a))) _ h).1).0
  writes-written target (write_fast a byte) h = writes-nothing target (and_parts (has_none target) _ (and_parts (is_writer (type_at c (arg a))) _ h).1).0
  writes-written target (copy_to_writer a source) h = writes-bits target 64 (and_parts (takes_bits c target 64) _ (and_parts (is_writer (type_at c (arg a))) _ h).1).0
  writes-written target (copy_to_slice to source) h = writes-bits target 64 (and_parts (takes_bits c target 64) _ h).0

  -- What a callee leaves, its caller may leave.
  callee-eff : (own of : Mark) (values : List Value) (v w : World) → allows own of ≡ true → ((i k : ℕ) → slice_get values i ≡ Some (buffer k) → (a : ℕ) × (slice_get b.args a ≡ Some (buffer k))) → KeepsTo of values v w → KeepsTo own b.args v w
  callee-eff Pure Pure values v w al f h = h
  callee-eff Pure Impure values v w al f h = absurd (cc (al))
  callee-eff Pure Coroutine values v w al f h = absurd (cc (al))
  callee-eff Impure Pure values v w al f h = record { buffers = λ k g. ap (λ (host : Host). slice_get host.buffers k) h.host }
  callee-eff Impure Impure values v w al f h = record { buffers = λ k g. h.buffers k (λ i e. let x = f i k e in g x.0 x.1) }
  callee-eff Impure Coroutine values v w al f h = absurd (cc (al))
  callee-eff Coroutine Pure values v w al f h = record { buffers = λ k g. ap (λ (host : Host). slice_get host.buffers k) h.host }
  callee-eff Coroutine Impure values v w al f h = record { buffers = λ k g. h.buffers k (λ i e. let x = f i k e in g x.0 x.1) }
  callee-eff Coroutine Coroutine values v w al f h = record { buffers = λ k g. h.buffers k (λ i e. let x = f i k e in g x.0 x.1) }

  answer-eff : (target : Target) (v : Option Value) (vars after : Vars) → writes_as b b.method.mark target ≡ true → put_answer b target v vars ≡ Some after → Eff b vars.world after.world
  answer-eff to_nothing v vars after wr e = let P : Vars → Type 0 = λ u. Eff b vars.world u.world in subst P (some_same vars after e) (keeps-itself b.method.mark b.args vars.world)
  answer-eff (to_number at of path) (Some v) vars after wr e = put-eff b (to_number at of path) v vars after wr e
  answer-eff (to_element at of cells index) (Some v) vars after wr e = put-eff b (to_element at of cells index) v vars after wr e
  answer-eff (to_flag at path) (Some v) vars after wr e = put-eff b (to_flag at path) v vars after wr e
  answer-eff (to_status at path) (Some v) vars after wr e = put-eff b (to_status at path) v vars after wr e
  answer-eff (to_slice at bits path) (Some v) vars after wr e = put-eff b (to_slice at bits path) v vars after wr e
  answer-eff target None vars after wr e = absurd (cc (e))

  on-from : (u v w : World) → Eff b u v → Eff b v w → Eff b u w
  on-from u v w h k = keeps-on b.method.mark b.args u v w h k

  after-kept : (n : ℕ) (keep : Bool) (m : Mark) (target : Target) (here rest : Block) (behind : Behind) (w : World) (locals : List Value) (left : ℕ) (answer : Answered) (after : World) → writes_as b b.method.mark target ≡ true → Eff b w after
      → Kept (Eff b) w (after_call b n keep m target here rest behind locals left (answer, after))
  after-kept n keep m target here rest behind w locals left answer after wr h =
      kept-either (Eff b) w (hands_on keep m) _ _ (λ i. handed answer)
      (λ i. kept-either (Eff b) w keep _ _ (λ j. kept-some (Eff b) w _ _ (λ next e. kept-onward (Eff b) w n left _ (on-from w after next.world h (answer-eff target _ vars next wr e))))
      (λ j. kept-some (Eff b) w _ _ (λ v e. kept-some (Eff b) w _ _ (λ next k. kept-onward (Eff b) w n left _ (on-from w after next.world h (answer-eff target v vars next wr k))))))
    where
      vars : Vars
      vars = record { locals = locals; world = after }

      handed : (answer : Answered) → Kept (Eff b) w (handed_on b n left answer here rest behind (record { locals = locals; world = after }))
      handed (suspended status) = ends-in (Eff b) w left _ after h
      handed (returned None) = record { fact = tt }
      handed (returned (Some (num v))) = record { fact = tt }
      handed (returned (Some (truth_value v))) = record { fact = tt }
      handed (returned (Some (status_number zero))) = kept-onward (Eff b) w n left _ h
      handed (returned (Some (status_number (suc status)))) = ends-in (Eff b) w left _ after h
      handed (returned (Some (span v))) = record { fact = tt }
      handed (returned (Some (buffer v))) = record { fact = tt }

module _ (R : (method : ℕ) → Remaining → Type 0) (shape : Shape) (b : Body) (typed : IsWellTyped b) (sole : AreApart b.args) (calls : Callees) (turns : ℕ) where
  -- A call of a method.
  invoke-kept : (site : Site) (at : _) (target : Target) (keep : Bool) (m : Mark) (called : Called) (vs : List ValueTree) (rest : Block) (done : Done) (behind : Behind) (vars : Vars)
      → (x : Stands R shape b typed sole (record { done = done; block = plain site (invoke at target keep m called vs) rest; behind = behind; vars = vars }))
      → well_invoked (context_of b) target keep m called vs (slice_get b.within.methods (number_of called)) ≡ true → list_all is_slice_value vs ≡ true → MethodRuns calls b.within R shape (number_of called) turns vars.world
      → Kept (Eff b) vars.world (invoked b calls turns keep m target called vs (plain site (invoke at target keep m called vs) rest) rest behind vars)
  invoke-kept site at target keep m called vs rest done behind vars x wi whole runs =
      kept-some (Eff b) vars.world (slice_get b.within.methods (number_of called)) _ (λ callee e1. kept-some (Eff b) vars.world (values_of (state_of b vars) callee.args vs) _ (λ values e2. kept-some (Eff b) vars.world (receiver_of b called vars) _ (λ object e3.
      kept-holding (Eff b) vars.world (through b.within calls callee called (record { object = object; method = number_of called; args = values }) turns vars.world) _ (λ left finished e4. by callee values object left finished e1 e2 e3 e4))))
    where
      by : (callee : MethodTree) (values : List Value) (object left : ℕ) (finished : Answered × World) → slice_get b.within.methods (number_of called) ≡ Some callee → values_of (state_of b vars) callee.args vs ≡ Some values → receiver_of b called vars ≡ Some object
          → through b.within calls callee called (record { object = object; method = number_of called; args = values }) turns vars.world ≡ Got left finished
          → Kept (Eff b) vars.world (after_call b turns keep m target (plain site (invoke at target keep m called vs) rest) rest behind vars.locals left finished)
      by callee values object left finished e1 e2 e3 e4 =
          let P : Option MethodTree → Type 0 = λ o. well_invoked (context_of b) target keep m called vs o ≡ true in
          let w = subst P e1 wi in
          let w1 = and_parts (same_mark m callee.mark) _ w in
          let w2 = and_parts (allows b.method.mark m) _ w1.1 in
          let w3 = and_parts (calls_method (context_of b) called callee) _ w2.1 in
          let w4 = and_parts (fit_types (context_of b) callee.args vs) _ w3.1 in
          let w5 = and_parts (takes_answer (context_of b) target keep m callee.gives) _ w4.1 in
          let same = mark-same m callee.mark w1.0 in
          let mayl = (declared b.within b.method typed.method).locals in
          let results = results-fit b.within typed.whole in
          let kw = known-well R shape b vars x.lawful sole x.list x.facts.well mayl results calls turns at site rest behind target keep m called vs done x.reached in
          let kn = call-known R shape b vars x.lawful sole x.list x.facts.well mayl results calls turns at site rest behind target keep m called vs done x.reached in
          let Q : Option MethodTree → Type 0 = λ o. or_else (all_handed B8 (known_to_call keep m x.list) (handed_to_method o vs)) (answer_refusal (left_by_call keep m vs x.list) at target (answered_by o)) ≡ None in
          let r = neither (all_handed B8 (known_to_call keep m x.list) (handed_to_method (Some callee) vs)) _ (subst Q e1 x.accepts.0) in
          let accepted = all-accepted R shape b vars x.lawful (known_to_call keep m x.list) kw kn B8 (handed_to_method (Some callee) vs) r.0 in
          let v : ValuesOf R shape b vars x.lawful (known_to_call keep m x.list) kw kn callee.args vs = values-typed R shape b vars x.lawful (known_to_call keep m x.list) kw kn B8 callee.args vs w4.0 whole accepted in
          let one : v.values ≡ values = some_same v.values values (sym v.is ∙ e2) in
          let o : ReceiverOf R shape b vars x.lawful called callee = receiver-is R shape b vars x.lawful called callee w3.0 in
          let there : o.object ≡ object = some_same o.object object (sym o.is ∙ e3) in
          let S : List Value → Type 0 = λ vs. HaveTypes b.within shape callee.args vs in
          let lie = subst S one v.lie in
          let T : ℕ → Type 0 = λ n. slice_get shape.structs n ≡ Some callee.of in
          let of = subst T there o.of in
          let apart = values-apart R shape b vars x.lawful (known_to_call keep m x.list) kw kn callee.args vs values sole w5.1 e2 in
          let ran = through-runs b.within R shape calls callee object (number_of called) values turns vars.world x.lawful.world (results (number_of called) callee e1) called (x.lawful.world.objects object callee.of of) (runs.runs callee object values e1 of lie apart) in
          let U : Outcome (Answered × World) → Type 0 = λ out. RunsWell b.within R shape callee values vars.world out in
          let ends : EndsWell b.within R shape callee values vars.world finished.1 finished.0 = subst U e4 ran in
          let al : allows b.method.mark callee.mark ≡ true = ap (allows b.method.mark) (sym same) ∙ w2.0 in
          after-kept b turns keep m target (plain site (invoke at target keep m called vs) rest) rest behind vars.world vars.locals left finished.0 finished.1 (writes-answer b target keep m callee.gives w5.0)
          (callee-eff b b.method.mark callee.mark values vars.world finished.1 al (λ i k e. let h : HandedOn R shape b vars x.lawful (known_to_call keep m x.list) kw kn vs i k = handed-on R shape b vars x.lawful (known_to_call keep m x.list) kw kn callee.args vs values i k e2 e in (h.a, h.buffer_is)) ends.keeps)

  -- Values that are returned.
  given-kept : (n : ℕ) (w : World) (v : Value) → Kept (Eff b) w (given_back b n w v)
  given-kept n w (num m) = kept-true (Eff b) w _ _ (ends-in (Eff b) w n _ w (keeps-itself b.method.mark b.args w))
  given-kept n w (truth_value m) = kept-true (Eff b) w _ _ (ends-in (Eff b) w n _ w (keeps-itself b.method.mark b.args w))
  given-kept n w (status_number m) = kept-either (Eff b) w _ _ _ (λ i. ends-in (Eff b) w n _ w (keeps-itself b.method.mark b.args w)) (λ i. kept-true (Eff b) w _ _ (ends-in (Eff b) w n _ w (keeps-itself b.method.mark b.args w)))
  given-kept n w (span m) = kept-true (Eff b) w _ _ (ends-in (Eff b) w n _ w (keeps-itself b.method.mark b.args w))
  given-kept n w (buffer m) = kept-true (Eff b) w _ _ (ends-in (Eff b) w n _ w (keeps-itself b.method.mark b.args w))

  marked-kept : (vars : Vars) (o : Option Marker) → Kept (Eff b) vars.world (continued o vars)
  marked-kept vars None = record { fact = tt }
  marked-kept vars (Some m) = stays b vars.world _ _ vars.locals

  broken-kept : (vars : Vars) (o : Option Marker) → Kept (Eff b) vars.world (broken b o vars)
  broken-kept vars None = record { fact = tt }
  broken-kept vars (Some m) = kept-true (Eff b) vars.world _ _ (stays b vars.world _ _ vars.locals)

  yield-kept : (n status : ℕ) (done : Done) (here rest : Block) (behind : Behind) (vars : Vars) → Kept (Eff b) vars.world (yielded n status done here rest behind vars)
  yield-kept n status has_yielded here rest behind vars = stays b vars.world rest behind vars.locals
  yield-kept n status untouched here rest behind vars = ends-in (Eff b) vars.world n _ vars.world (keeps-itself b.method.mark b.args vars.world)
  yield-kept n status (has_bytes bytes) here rest behind vars = ends-in (Eff b) vars.world n _ vars.world (keeps-itself b.method.mark b.args vars.world)
  yield-kept n status (to_skip left) here rest behind vars = ends-in (Eff b) vars.world n _ vars.world (keeps-itself b.method.mark b.args vars.world)
  yield-kept n status (to_write it) here rest behind vars = ends-in (Eff b) vars.world n _ vars.world (keeps-itself b.method.mark b.args vars.world)

  assigned-well : (target : Target) (op : Option Arith) (v : ValueTree) (loops : List ℕ) → well_simple (context_of b) loops (assign target op v) ≡ true → well_assigned (context_of b) target v ≡ true
  assigned-well target None v loops h = h
  assigned-well target (Some op) v loops h = (and_parts (well_assigned (context_of b) target v) _ h).0

  simple-kept : (site : Site) (s : Simple) (rest : Block) (done : Done) (behind : Behind) (vars : Vars) → (x : Stands R shape b typed sole (record { done = done; block = plain site s rest; behind = behind; vars = vars }))
      → well_simple (context_of b) (map (λ l. l.0) (loops_round behind)) s ≡ true → hands_on_well s ≡ true → CalleesRun calls b.within R shape s turns vars.world → Kept (Eff b) vars.world (simple_step b calls turns done site s rest behind vars)
  simple-kept site (assign target op v) rest done behind vars x w on runs =
      kept-some (Eff b) vars.world _ _ (λ after e. go (Eff b) vars.world _ (by after e))
    where
      by : (after : Vars) → option_and_then (λ v. put_value b target v vars) (value_of (state_of b vars) v) ≡ Some after → Eff b vars.world after.world
      by after e =
          let m : Made (λ v. put_value b target v vars) (value_of (state_of b vars) v) after = and_then_made (λ v. put_value b target v vars) (value_of (state_of b vars) v) after e in
          put-eff b target m.x vars after (writes-assigned b target v (assigned-well target op v (map (λ l. l.0) (loops_round behind)) w)) m.gives
  simple-kept site (await at target a call) rest done behind vars x w on runs =
      let p = and_parts (is_coroutine b.method.mark) _ w in
      await-kept b turns (plain site (await at target a call) rest) rest behind target a call done vars p.0 (writes-awaited b target a call p.1)
  simple-kept site (perform at target call) rest done behind vars x w on runs =
      let p = and_parts (not (is_pure b.method.mark)) _ w in
      kept-some (Eff b) vars.world _ _ (λ after e. go (Eff b) vars.world _ (perform-eff b target call vars after (not-pure b.method.mark p.0) (writes-written b target call p.1) e))
    where
      not-pure : (m : Mark) → not (is_pure m) ≡ true → is_pure m ≡ false
      not-pure Pure h = absurd (cc (h))
      not-pure Impure h = refl
      not-pure Coroutine h = refl
  simple-kept site (invoke at target keep m called vs) rest done behind vars x w on runs = invoke-kept site at target keep m called vs rest done behind vars x w on runs
  simple-kept site (break_from n) rest done behind vars x w on runs = broken-kept vars (marker_of n behind)
  simple-kept site (continue_in n) rest done behind vars x w on runs = marked-kept vars (marker_of n behind)
  simple-kept site (give_back None) rest done behind vars x w on runs = kept-true (Eff b) vars.world _ _ (ends-in (Eff b) vars.world turns _ vars.world (keeps-itself b.method.mark b.args vars.world))
  simple-kept site (give_back (Some v)) rest done behind vars x w on runs = kept-some (Eff b) vars.world _ _ (λ u e. given-kept turns vars.world u)
  simple-kept site (yield status) rest done behind vars x w on runs = yield-kept turns status done _ rest behind vars
  simple-kept site (claim goal by) rest done behind vars x w on runs = kept-true (Eff b) vars.world _ _ (stays b vars.world rest behind vars.locals)

  tested-kept : (site : Site) (head : Head) (body rest : Block) (behind : Behind) (vars : Vars) (o : Option Bool) → Kept (Eff b) vars.world (tested b site head body rest behind vars o)
  tested-kept site head body rest behind vars None = record { fact = tt }
  tested-kept site head body rest behind vars (Some true) = stays b vars.world _ _ vars.locals
  tested-kept site head body rest behind vars (Some false) = kept-true (Eff b) vars.world _ _ (stays b vars.world rest behind vars.locals)

  end-kept : (behind : Behind) (vars : Vars) → Kept (Eff b) vars.world (end_step b turns behind vars)
  end-kept stop vars = ends-in (Eff b) vars.world turns _ vars.world (keeps-itself b.method.mark b.args vars.world)
  end-kept (behind_if rest behind) vars = stays b vars.world rest behind vars.locals
  end-kept (again site head body rest behind) vars = kept-true (Eff b) vars.world _ _ (kept-turn (Eff b) vars.world turns _ (tested-kept site head body rest behind vars _))

  -- Every step.
  pub step-eff : (x : At) → Stands R shape b typed sole x → NextCalls R shape b typed sole calls turns x.block x.vars.world → NextKeeps (λ (y : At). Eff b x.vars.world y.vars.world) (λ (e : Ending × World). Eff b x.vars.world e.1) (step b calls turns x)
  unfolding step
  step-eff x h runs = (by x.done x.block x.behind x.vars h runs).fact
    where
      by : (done : Done) (block : Block) (behind : Behind) (vars : Vars) → Stands R shape b typed sole (record { done = done; block = block; behind = behind; vars = vars }) → NextCalls R shape b typed sole calls turns block vars.world → Kept (Eff b) vars.world (block_step b calls turns done block behind vars)
      by done end behind vars h runs = end-kept behind vars
      by done (plain site s rest) behind vars h runs =
          let p : Parts (context_of b) (plain site s rest) behind = parts (context_of b) (plain site s rest) behind h.placed.well in
          let q = and_parts (well_simple (context_of b) (map (λ l. l.0) (loops_round behind)) s) _ p.block_well in
          simple-kept site s rest done behind vars h q.0 (and_parts (hands_on_well s) _ h.placed.made).0 runs
      by done (choose site chained t x y rest) behind vars h runs = kept-some (Eff b) vars.world _ _ (λ answer e. arm answer)
        where
          arm : (answer : Bool) → Kept (Eff b) vars.world (chosen x y rest behind vars answer)
          arm true = stays b vars.world _ _ vars.locals
          arm false = stays b vars.world _ _ vars.locals
      by done (loop site head body rest) behind vars h runs = kept-true (Eff b) vars.world _ _ (tested-kept site head body rest behind vars _)
