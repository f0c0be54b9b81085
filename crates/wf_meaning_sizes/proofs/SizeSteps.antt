-- The steps of a body, and all bodies, keep the sizes of buffers and byte arrays.
use Rattle.std.proofs.Common.{◌≡◌, ℕ, zero, suc, Bool, true, false, List, [], ◌∷◌, reverse, Option, Some, None, refl, ap, subst, nat_eq}
use Rattle.std.specs.Prelude.{slice_get, option_and_then, is_some, unwrap_or, if◌then◌else◌}
use Rattle.turns.specs.Run.{Outcome, Got, More, Lost}
use Rattle.turns.specs.Run as steps
use Rattle.turns.specs.Steps.{AnswersWith, NextKeeps}
use Rattle.turns.proofs.Invariants.{run_keeps}
use Rattle.wf_base.specs.declared.marks.Mark.{Mark}
use Rattle.wf_ast.specs.TypedTree.{ValueTree, Target, to_number, to_element, to_flag, to_status, to_slice, to_nothing, Called, own, sub, Simple, assign, await, perform, invoke, break_from, continue_in, give_back, yield, claim, Site, Head, Block, end, plain, choose, loop}
use Rattle.wf_ast.specs.TypedPackage.{MethodTree, PackageTree}
use Rattle.wf_ast.specs.WellTyped.{number_of}
use Rattle.wf_ast.specs.Value.{Value, num, truth_value, status_number, span, buffer, value_of}
use Rattle.wf_meaning.specs.SourceState.{Object, stop, Behind, behind_if, again, Done, untouched, has_bytes, to_skip, to_write, has_yielded, Remaining}
use Rattle.wf_meaning.specs.Remaining.{hands_on, Marker, marker_of}
use Rattle.wf_meaning.specs.Entry.{Admission, refused, admitted, admission, Answered, returned, suspended}
use Rattle.wf_meaning.specs.World.{World, Body, Vars, put_value}
use Rattle.wf_meaning.specs.SourceStep.{At, Ending, gives, suspends, Call, Callees, state_of, tested, chosen, continued, broken, given_back, yielded, values_of, receiver_of, on_admission, entered, settled, through, put_answer, handed_on, after_call, invoked, simple_step, end_step, block_step, step, weight}
use Rattle.wf_meaning.specs.SourceCall.{all_bodies, begins, body_of, body_run, bodies, entry_of, left_over, remaining_of, run_if, taken_up}
use Rattle.wf_meaning.proofs.Lists2.{some_same, Made, and_then_made}
use Rattle.wf_meaning.proofs.WorldSteps.{Kept, kept-some, kept-true, kept-either, kept-turn, kept-onward, kept-holding, go, ends-in}
use Rattle.wf_meaning_sizes.specs.Sizes.{sizes}
use Rattle.wf_meaning_sizes.proofs.SizeLemmas.{Same, same-on, put-same, stays, await-kept, perform-same}

-- What is called keeps the sizes.
abbrev pub CalledSame : World → Outcome (Answered × World) → Type 0
CalledSame w o = AnswersWith (λ (it : Answered × World). Same w it.1) o

pub record CalleesSame (calls : Callees) : Type 0 where
  pub by : (call : Call) (n : ℕ) (w : World) → CalledSame w (calls call n w)

-- A call that passes the entry table.
module _ (p : PackageTree) (calls : Callees) (fine : CalleesSame calls) (m : MethodTree) (call : Call) where
  settled-same : (w : World) (o : Outcome (Answered × World)) → CalledSame w o → CalledSame w (settled p m call o)
  settled-same w (Got left it) h = h
  settled-same w More h = tt
  settled-same w Lost h = tt

  admitted-same : (n : ℕ) (w : World) (a : Admission) → CalledSame w (on_admission p calls m call n w a)
  admitted-same n w (refused status object) = refl
  admitted-same n w admitted = settled-same w (calls call n w) (fine.by call n w)

  pub entered-same : (fit : Bool) (n : ℕ) (w : World) (o : Option Object) → CalledSame w (entered p calls m call fit n w o)
  entered-same fit n w None = tt
  entered-same fit n w (Some object) = admitted-same n w (admission m.mark call.method fit object)

  through-same : (called : Called) (n : ℕ) (w : World) → CalledSame w (through p calls m called call n w)
  through-same (own k) n w = fine.by call n w
  through-same (sub x k) n w = entered-same true n w (slice_get w.objects call.object)

module _ (b : Body) (calls : Callees) (fine : CalleesSame calls) (turns : ℕ) where
  answer-same : (target : Target) (v : Option Value) (vars after : Vars) → put_answer b target v vars ≡ Some after → Same vars.world after.world
  answer-same to_nothing v vars after e = let P : Vars → Type 0 = λ u. Same vars.world u.world in subst P (some_same vars after e) refl
  answer-same (to_number at of path) (Some v) vars after e = put-same b (to_number at of path) v vars after e
  answer-same (to_element at of cells index) (Some v) vars after e = put-same b (to_element at of cells index) v vars after e
  answer-same (to_flag at path) (Some v) vars after e = put-same b (to_flag at path) v vars after e
  answer-same (to_status at path) (Some v) vars after e = put-same b (to_status at path) v vars after e
  answer-same (to_slice at bits path) (Some v) vars after e = put-same b (to_slice at bits path) v vars after e
  answer-same target None vars after e = absurd (cc (e))

  after-kept : (keep : Bool) (m : Mark) (target : Target) (here rest : Block) (behind : Behind) (w : World) (locals : List Value) (left : ℕ) (answer : Answered) (after : World) → Same w after
      → Kept Same w (after_call b turns keep m target here rest behind locals left (answer, after))
  after-kept keep m target here rest behind w locals left answer after h =
      kept-either Same w (hands_on keep m) _ _ (λ i. handed answer)
      (λ i. kept-either Same w keep _ _ (λ j. kept-some Same w _ _ (λ next e. kept-onward Same w turns left _ (same-on w after next.world h (answer-same target _ vars next e))))
      (λ j. kept-some Same w _ _ (λ v e. kept-some Same w _ _ (λ next k. kept-onward Same w turns left _ (same-on w after next.world h (answer-same target v vars next k))))))
    where
      vars : Vars
      vars = record { locals = locals; world = after }

      handed : (answer : Answered) → Kept Same w (handed_on b turns left answer here rest behind (record { locals = locals; world = after }))
      handed (suspended status) = ends-in Same w left _ after h
      handed (returned None) = record { fact = tt }
      handed (returned (Some (num v))) = record { fact = tt }
      handed (returned (Some (truth_value v))) = record { fact = tt }
      handed (returned (Some (status_number zero))) = kept-onward Same w turns left _ h
      handed (returned (Some (status_number (suc status)))) = ends-in Same w left _ after h
      handed (returned (Some (span v))) = record { fact = tt }
      handed (returned (Some (buffer v))) = record { fact = tt }

  invoke-kept : (target : Target) (keep : Bool) (m : Mark) (called : Called) (vs : List ValueTree) (here rest : Block) (behind : Behind) (vars : Vars) → Kept Same vars.world (invoked b calls turns keep m target called vs here rest behind vars)
  invoke-kept target keep m called vs here rest behind vars =
      kept-some Same vars.world (slice_get b.within.methods (number_of called)) _ (λ callee e1. kept-some Same vars.world (values_of (state_of b vars) callee.args vs) _ (λ values e2. kept-some Same vars.world (receiver_of b called vars) _ (λ object e3.
      kept-holding Same vars.world (through b.within calls callee called (record { object = object; method = number_of called; args = values }) turns vars.world) _
      (λ left finished e4. let P : Outcome (Answered × World) → Type 0 = λ o. CalledSame vars.world o in
      after-kept keep m target here rest behind vars.world vars.locals left finished.0 finished.1 (subst P e4 (through-same b.within calls fine callee (record { object = object; method = number_of called; args = values }) called turns vars.world))))))

  given-kept : (n : ℕ) (w : World) (v : Value) → Kept Same w (given_back b n w v)
  given-kept n w (num m) = kept-true Same w _ _ (ends-in Same w n _ w refl)
  given-kept n w (truth_value m) = kept-true Same w _ _ (ends-in Same w n _ w refl)
  given-kept n w (status_number m) = kept-either Same w _ _ _ (λ i. ends-in Same w n _ w refl) (λ i. kept-true Same w _ _ (ends-in Same w n _ w refl))
  given-kept n w (span m) = kept-true Same w _ _ (ends-in Same w n _ w refl)
  given-kept n w (buffer m) = kept-true Same w _ _ (ends-in Same w n _ w refl)

  marked-kept : (vars : Vars) (o : Option Marker) → Kept Same vars.world (continued o vars)
  marked-kept vars None = record { fact = tt }
  marked-kept vars (Some m) = stays b vars.world _ _ vars.locals

  broken-kept : (vars : Vars) (o : Option Marker) → Kept Same vars.world (broken b o vars)
  broken-kept vars None = record { fact = tt }
  broken-kept vars (Some m) = kept-true Same vars.world _ _ (stays b vars.world _ _ vars.locals)

  yield-kept : (n status : ℕ) (done : Done) (here rest : Block) (behind : Behind) (vars : Vars) → Kept Same vars.world (yielded n status done here rest behind vars)
  yield-kept n status has_yielded here rest behind vars = stays b vars.world rest behind vars.locals
  yield-kept n status untouched here rest behind vars = ends-in Same vars.world n _ vars.world refl
  yield-kept n status (has_bytes bytes) here rest behind vars = ends-in Same vars.world n _ vars.world refl
  yield-kept n status (to_skip left) here rest behind vars = ends-in Same vars.world n _ vars.world refl
  yield-kept n status (to_write it) here rest behind vars = ends-in Same vars.world n _ vars.world refl

  simple-kept : (site : Site) (s : Simple) (rest : Block) (done : Done) (behind : Behind) (vars : Vars) → Kept Same vars.world (simple_step b calls turns done site s rest behind vars)
  simple-kept site (assign target op v) rest done behind vars = kept-some Same vars.world _ _ (λ after e. go Same vars.world _ (by after e))
    where
      by : (after : Vars) → option_and_then (λ v. put_value b target v vars) (value_of (state_of b vars) v) ≡ Some after → Same vars.world after.world
      by after e =
          let m : Made (λ v. put_value b target v vars) (value_of (state_of b vars) v) after = and_then_made (λ v. put_value b target v vars) (value_of (state_of b vars) v) after e in
          put-same b target m.x vars after m.gives
  simple-kept site (await at target a call) rest done behind vars = await-kept b turns (plain site (await at target a call) rest) rest behind target a call done vars
  simple-kept site (perform at target call) rest done behind vars = kept-some Same vars.world _ _ (λ after e. go Same vars.world _ (perform-same b target call vars after e))
  simple-kept site (invoke at target keep m called vs) rest done behind vars = invoke-kept target keep m called vs _ rest behind vars
  simple-kept site (break_from n) rest done behind vars = broken-kept vars (marker_of n behind)
  simple-kept site (continue_in n) rest done behind vars = marked-kept vars (marker_of n behind)
  simple-kept site (give_back None) rest done behind vars = kept-true Same vars.world _ _ (ends-in Same vars.world turns _ vars.world refl)
  simple-kept site (give_back (Some v)) rest done behind vars = kept-some Same vars.world _ _ (λ u e. given-kept turns vars.world u)
  simple-kept site (yield status) rest done behind vars = yield-kept turns status done _ rest behind vars
  simple-kept site (claim goal by) rest done behind vars = kept-true Same vars.world _ _ (stays b vars.world rest behind vars.locals)

  tested-kept : (site : Site) (head : Head) (body rest : Block) (behind : Behind) (vars : Vars) (o : Option Bool) → Kept Same vars.world (tested b site head body rest behind vars o)
  tested-kept site head body rest behind vars None = record { fact = tt }
  tested-kept site head body rest behind vars (Some true) = stays b vars.world _ _ vars.locals
  tested-kept site head body rest behind vars (Some false) = kept-true Same vars.world _ _ (stays b vars.world rest behind vars.locals)

  end-kept : (behind : Behind) (vars : Vars) → Kept Same vars.world (end_step b turns behind vars)
  end-kept stop vars = ends-in Same vars.world turns _ vars.world refl
  end-kept (behind_if rest behind) vars = stays b vars.world rest behind vars.locals
  end-kept (again site head body rest behind) vars = kept-true Same vars.world _ _ (kept-turn Same vars.world turns _ (tested-kept site head body rest behind vars _))

  block-kept : (done : Done) (block : Block) (behind : Behind) (vars : Vars) → Kept Same vars.world (block_step b calls turns done block behind vars)
  block-kept done end behind vars = end-kept behind vars
  block-kept done (plain site s rest) behind vars = simple-kept site s rest done behind vars
  block-kept done (choose site chained t x y rest) behind vars = kept-some Same vars.world _ _ (λ answer e. arm answer)
    where
      arm : (answer : Bool) → Kept Same vars.world (chosen x y rest behind vars answer)
      arm true = stays b vars.world _ _ vars.locals
      arm false = stays b vars.world _ _ vars.locals
  block-kept done (loop site head body rest) behind vars = kept-true Same vars.world _ _ (tested-kept site head body rest behind vars _)

  -- Every step, from a world that has the sizes of another.
  step-same : (w : World) (x : At) → Same w x.vars.world → NextKeeps (λ (y : At). Same w y.vars.world) (λ (e : Ending × World). Same w e.1) (step b calls turns x)
  unfolding step
  step-same w x h = on-from (block_step b calls turns x.done x.block x.behind x.vars) (block-kept x.done x.block x.behind x.vars).fact
    where
      on-from : (next : _) → NextKeeps (λ (y : At). Same x.vars.world y.vars.world) (λ (e : Ending × World). Same x.vars.world e.1) next → NextKeeps (λ (y : At). Same w y.vars.world) (λ (e : Ending × World). Same w e.1) next
      on-from (steps.Go y) k = same-on w x.vars.world y.vars.world h k
      on-from (steps.Turn left y) k = same-on w x.vars.world y.vars.world h k
      on-from (steps.End left e) k = same-on w x.vars.world e.1 h k
      on-from steps.Out k = tt
      on-from steps.Fail k = tt

-- The runs of bodies.
module _ (p : PackageTree) where
  begins-same : (m : MethodTree) (w : World) (left : Option Remaining) → (begins m w left).vars.world ≡ w
  begins-same m w None = refl
  begins-same m w (Some left) = refl

  left-same : (call : Call) (w : World) (o : Outcome (Ending × World)) → AnswersWith (λ (e : Ending × World). Same w e.1) o → CalledSame w (left_over call o)
  left-same call w (Got left (gives v, u)) h = h
  left-same call w (Got left (suspends status items, u)) h = h
  left-same call w More h = tt
  left-same call w Lost h = tt

  body-same : (calls : Callees) → CalleesSame calls → (m : MethodTree) (call : Call) (n : ℕ) (w : World) → CalledSame w (body_run p calls m call n w)
  body-same calls fine m call zero w = tt
  body-same calls fine m call (suc left) w =
      left-same call w _ (run_keeps (step (body_of p m call) calls) weight (λ (x : At). Same w x.vars.world) (λ (e : Ending × World). Same w e.1) (λ n x h. step-same (body_of p m call) calls fine n w x h) left _
      (ap (λ (u : World). sizes u.host) (begins-same m (taken_up call w) (remaining_of w call))))

  if-same : (calls : Callees) → CalleesSame calls → (m : Option MethodTree) (call : Call) (n : ℕ) (w : World) → CalledSame w (run_if p calls m call n w)
  if-same calls fine None call n w = tt
  if-same calls fine (Some m) call n w = body-same calls fine m call n w

  test-same : (test : Bool) (w : World) (o o' : Outcome (Answered × World)) → CalledSame w o → CalledSame w o' → CalledSame w (if test then o else o')
  test-same true w o o' h k = h
  test-same false w o o' h k = k

  bodies-same : (ms : List ℕ) → CalleesSame (bodies p ms)
  unfolding bodies
  bodies-same [] = record { by = λ call n w. tt }
  bodies-same (m ∷ ms) =
      let inner = bodies-same ms in
      record { by = λ call n w. test-same (nat_eq m call.method) w _ _ (if-same (bodies p ms) inner (slice_get p.methods m) call n w) (inner.by call n w) }

  pub entry-same : (m : MethodTree) (number : ℕ) (args : Option (List Value)) (n left : ℕ) (w : World) (it : Answered × World) → entry_of p m number args n w ≡ Got left it → sizes it.1.host ≡ sizes w.host
  entry-same m number args n left w it e =
      let P : Outcome (Answered × World) → Type 0 = λ o. CalledSame w o in
      subst P e (entered-same p (all_bodies p) (bodies-same (reverse p.order)) m (record { object = 0; method = number; args = unwrap_or args [] }) (is_some args) n w (slice_get w.objects 0))
