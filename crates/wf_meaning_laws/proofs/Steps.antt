-- What each step of a body keeps of the struct states and of its code. `Rel` tells what becomes of a world, `C` which calls the
-- code has.
use Rattle.std.proofs.Common.{◌≡◌, ℕ, zero, suc, ◌-◌, ◌^◌, ◌<◌, ◌≤◌, Bool, true, false, List, [], ◌∷◌, ◌++◌, length, take, Option, Some, None, inl, inr, refl, subst, arith, length-append, length-take, nat_eq}
use Rattle.std.specs.Prelude.{slice_get, option_and_then, nat_lt, if◌then◌else◌}
use Rattle.std.proofs.lemmas.Bool.Decides.{nat_tests}
use Rattle.turns.specs.Run.{Go, Turn, End, Out, Fail, Outcome, Got, More, Lost, onward, holding}
use Rattle.turns.specs.Steps.{AnswersWith, NextKeeps}
use Rattle.wf_base.specs.declared.marks.Mark.{Mark}
use Rattle.wf_base.specs.BaseOps.{Buffer}
use Rattle.wf_base.specs.BaseOps as ops
use Rattle.wf_base.specs.BaseTable.{bytes_of, read_width, lacking}
use Rattle.wf_base.specs.declared.base_methods.ReadForm.{ReadForm}
use Rattle.wf_text.specs.declared.place.Place.{Place}
use Rattle.wf_ast.specs.TypedTree.{NumTree, ValueTree, Target, to_number, to_element, to_flag, to_status, to_slice, to_nothing, Awaited, take_number, skip, write, Called, Simple, assign, await, perform, invoke, break_from, continue_in, give_back, yield, claim, Site, Head, Block, end, plain, choose, loop}
use Rattle.wf_ast.specs.TypedPackage.{MethodTree}
use Rattle.wf_ast.specs.WellTyped.{number_of}
use Rattle.wf_ast.specs.Value.{Value, num, truth_value, status_number, span, buffer, value, value_of}
use Rattle.wf_meaning.specs.SourceState.{Behind, stop, behind_if, again, Done, untouched, has_bytes, to_skip, to_write, has_yielded}
use Rattle.wf_meaning.specs.Remaining.{hands_on, Marker, marker_of}
use Rattle.wf_meaning.specs.Entry.{Answered, returned, suspended}
use Rattle.wf_meaning.specs.World.{World, Body, Vars, put_value}
use Rattle.wf_meaning.specs.SourceStep.{At, Ending, gives, suspends, Steps, Callees, state_of, with_some, where_true, either, at_block, tested, taking_turn, chosen, continued, broken, given_back, yielded, values_of, receiver_of, through, put_answer, handed_on, after_call, invoked, suspending, change_buffer, io_of, bytes_so_far, kept_count, kept_byte, below, skip_on, awaited, simple_step, end_step, block_step, step}
use Rattle.wf_meaning.proofs.Lists2.{some_same, Made, and_then_made}
use Rattle.wf_meaning_laws.specs.Started.{FirstHasDone}
use Rattle.wf_meaning_laws.specs.Code.{CallsAfter, Code, Left, Begun}
use Rattle.wf_meaning_laws.proofs.Cores.{Same, same-self, put-same, perform-same}

-- Numbers.
less-on : (a b c : ℕ) → a ≤ b → b < c → a < c
less-on a b c h k = omega (arith, h, k)

minus-under : (a b : ℕ) → a - b ≤ a
minus-under a b = omega arith

under-unless : (n top : ℕ) → n ≤ top → nat_eq n top ≡ false → n < top
under-unless n top h e = grind (arith, nat_tests, h, e)

is-under : (x top : ℕ) → nat_lt x top ≡ true → x < top
is-under x top e = grind (arith, nat_tests, e)

tested-under : (test : Bool) (x m top : ℕ) → (test ≡ true → x < top) → (if test then Some x else None) ≡ Some m → m < top
tested-under true x m top h e = let P : ℕ → Type 0 = λ y. y < top in subst P (some_same x m e) (h refl)
tested-under false x m top h e = absurd (cc (e))

below-under : (bits : ℕ) (o : Option ℕ) (m : ℕ) → option_and_then (below bits) o ≡ Some m → m < 2 ^ bits
below-under bits o m e =
    let it = and_then_made (below bits) o m e in
    tested-under (nat_lt it.x (2 ^ bits)) it.x m (2 ^ bits) (is-under it.x (2 ^ bits)) it.gives

joined-under : (kept cells : List ℕ) (top : ℕ) → length kept ≤ top → length (kept ++ take (top - length kept) cells) ≤ top
joined-under kept cells top h = omega (arith, h, length-append kept (take (top - length kept) cells), length-take (top - length kept) cells)

module _ (b : Body) (calls : Callees) (Rel : World → World → Type 0) (self : (w : World) → Rel w w) (on : (u v w : World) → Rel u v → Rel v w → Rel u w) (same : (v w : World) → Same v w → Rel v w) (C : Called → Type 0)
    (fine : (n : ℕ) (called : Called) (callee : MethodTree) (object : ℕ) (values : List Value) (vars : Vars) → C called → slice_get b.within.methods (number_of called) ≡ Some callee → receiver_of b called vars ≡ Some object
    → AnswersWith (λ (it : Answered × World). Rel vars.world it.1) (through b.within calls callee called (record { object = object; method = number_of called; args = values }) n vars.world)) where
  abbrev pub AtOk : World → At → Type 0
  AtOk w x = Rel w x.vars.world × (Code C x.block x.behind × Begun x.done x.block)

  abbrev pub EndOk : World → Ending × World → Type 0
  EndOk w (gives v, u) = Rel w u
  EndOk w (suspends status left, u) = Rel w u × Left C left

  record Kept (w : World) (x : Steps) : Type 0 where
    fact : NextKeeps (AtOk w) (EndOk w) x

  kept-some : {X : Type 0} (w : World) (o : Option X) (go : X → Steps) → ((x : X) → o ≡ Some x → Kept w (go x)) → Kept w (with_some o go)
  unfolding with_some
  kept-some w None go h = record { fact = tt }
  kept-some w (Some x) go h = h x refl

  kept-true : (w : World) (test : Bool) (x : Steps) → Kept w x → Kept w (where_true test x)
  unfolding where_true
  kept-true w true x h = h
  kept-true w false x h = record { fact = tt }

  kept-either : (w : World) (test : Bool) (x y : Steps) → (test ≡ true → Kept w x) → (test ≡ false → Kept w y) → Kept w (either test x y)
  unfolding either
  kept-either w true x y h k = h refl
  kept-either w false x y h k = k refl

  kept-turn : (w : World) (n : ℕ) (x : Steps) → Kept w x → Kept w (taking_turn n x)
  unfolding taking_turn
  kept-turn w zero x h = record { fact = tt }
  kept-turn w (suc left) (Go x) h = record { fact = h.fact }
  kept-turn w (suc left) (Turn m x) h = h
  kept-turn w (suc left) (End m a) h = h
  kept-turn w (suc left) Out h = h
  kept-turn w (suc left) Fail h = h

  kept-onward : (w : World) (n left : ℕ) (block : Block) (behind : Behind) (vars : Vars) → Rel w vars.world → Code C block behind → Kept w (onward n left (at_block block behind vars))
  unfolding onward
  kept-onward w n left block behind vars h k = by (nat_lt left n)
    where
      by : (t : Bool) → Kept w (if t then Turn left (at_block block behind vars) else Go (at_block block behind vars))
      by true = record { fact = (h, (k, inl refl)) }
      by false = record { fact = (h, (k, inl refl)) }

  kept-holding : {B : Type 0} (w : World) (o : Outcome B) (then_on : ℕ → B → Steps) → ((left : ℕ) (a : B) → o ≡ Got left a → Kept w (then_on left a)) → Kept w (holding o then_on)
  unfolding holding
  kept-holding w (Got left a) then_on k = k left a refl
  kept-holding w More then_on k = record { fact = tt }
  kept-holding w Lost then_on k = record { fact = tt }

  go : (w : World) (block : Block) (behind : Behind) (vars : Vars) → Rel w vars.world → Code C block behind → Kept w (Go (at_block block behind vars))
  go w block behind vars h k = record { fact = (h, (k, inl refl)) }

  stays : (vars : Vars) (block : Block) (behind : Behind) → Code C block behind → Kept vars.world (Go (at_block block behind vars))
  stays vars block behind k = go vars.world block behind vars (self vars.world) k

  suspends-kept : (w : World) (n status : ℕ) (done : Done) (here : Block) (behind : Behind) (vars : Vars) → Rel w vars.world → Code C here behind → FirstHasDone here done → Kept w (suspending n status done here behind vars)
  suspends-kept w n status done here behind vars h k j = record { fact = (h, (k, j)) }

  buffers-kept : (k : ℕ) (f : Buffer → Buffer) (vars : Vars) → Rel vars.world (change_buffer k f vars).world
  buffers-kept k f vars = same vars.world (change_buffer k f vars).world (same-self vars.world)

  module _ (turns : ℕ) where
    -- Base coroutine calls.
    module _ (site : Site) (at : Place) (target : Target) (a : ℕ) (rest : Block) (behind : Behind) (code : Code C rest behind) where
      abbrev Here : Awaited → Block
      Here call = plain site (await at target a call) rest

      here-code : (call : Awaited) → Code C (Here call) behind
      here-code call = ((tt, code.0), code.1)

      few : (form : ReadForm) (done : Done) → Begun done (Here (take_number form)) → length (bytes_so_far done) ≤ bytes_of (read_width form)
      few form untouched h = omega arith
      few form (has_bytes bytes) (inl e) = absurd (cc (e))
      few form (has_bytes bytes) (inr h) = omega (arith, h)
      few form (to_skip left) h = omega arith
      few form (to_write it) h = omega arith
      few form has_yielded h = omega arith

      read-kept : (form : ReadForm) (k : ℕ) (it : Buffer) (done : Done) (vars : Vars) → Begun done (Here (take_number form)) → Kept vars.world (awaited b turns target k it (take_number form) done (Here (take_number form)) rest behind vars)
      read-kept form k it done vars h =
          let next : Vars = change_buffer k (ops.skipped (lacking form (bytes_so_far done))) vars in
          let f : Rel vars.world next.world = buffers-kept k (ops.skipped (lacking form (bytes_so_far done))) vars in
          kept-either vars.world _ _ _
          (λ i. kept-some vars.world _ _ (λ after j. go vars.world rest behind after (on vars.world next.world after.world f (same next.world after.world (put-same b target _ next after j))) code))
          (λ i. suspends-kept vars.world turns _ _ _ behind next f (here-code (take_number form)) (under-unless _ _ (joined-under (bytes_so_far done) (ops.unread it) (bytes_of (read_width form)) (few form done h)) i))

      count-under : (count : NumTree) (done : Done) (fresh : Option ℕ) (m : ℕ) → Begun done (Here (skip count)) → (fresh ≡ Some m → m < 2 ^ 32) → kept_count done fresh ≡ Some m → m < 2 ^ 32
      count-under count (to_skip left) fresh m (inl q) f e = absurd (cc (q))
      count-under count (to_skip left) fresh m (inr h) f e = let P : ℕ → Type 0 = λ y. y < 2 ^ 32 in subst P (some_same left m e) h.1
      count-under count untouched fresh m h f e = f e
      count-under count (has_bytes bytes) fresh m h f e = f e
      count-under count (to_write it) fresh m h f e = f e
      count-under count has_yielded fresh m h f e = f e

      skips : (count : NumTree) (m top : ℕ) (w : World) (vars : Vars) → Rel w vars.world → m ≤ top → top < 2 ^ 32 → Kept w (skip_on turns m (Here (skip count)) rest behind vars)
      skips count zero top w vars h k j = go w rest behind vars h code
      skips count (suc m) top w vars h k j = suspends-kept w turns _ _ _ behind vars h (here-code (skip count)) (omega arith, less-on (suc m) top (2 ^ 32) k j)

      byte-under : (byte : NumTree) (done : Done) (fresh : Option ℕ) (m : ℕ) → Begun done (Here (write byte)) → (fresh ≡ Some m → m < 2 ^ 8) → kept_byte done fresh ≡ Some m → m < 2 ^ 8
      byte-under byte (to_write it) fresh m (inl q) f e = absurd (cc (q))
      byte-under byte (to_write it) fresh m (inr h) f e = let P : ℕ → Type 0 = λ y. y < 2 ^ 8 in subst P (some_same it m e) h
      byte-under byte untouched fresh m h f e = f e
      byte-under byte (has_bytes bytes) fresh m h f e = f e
      byte-under byte (to_skip left) fresh m h f e = f e
      byte-under byte has_yielded fresh m h f e = f e

      awaited-kept : (call : Awaited) (k : ℕ) (it : Buffer) (done : Done) (vars : Vars) → Begun done (Here call) → Kept vars.world (awaited b turns target k it call done (Here call) rest behind vars)
      awaited-kept (take_number form) k it done vars h = read-kept form k it done vars h
      awaited-kept (skip count) k it done vars h =
          kept-some vars.world _ _ (λ left i. skips count (ops.left_to_skip left it) left vars.world (change_buffer k (ops.skipped left) vars) (buffers-kept k (ops.skipped left) vars) (minus-under left (ops.reader_length it)) (count-under count done _ left h (below-under 32 (value (state_of b vars) count) left) i))
      awaited-kept (write byte) k it done vars h =
          kept-some vars.world _ _ (λ m i. kept-either vars.world _ _ _ (λ j. go vars.world rest behind _ (buffers-kept k (ops.appended (m ∷ [])) vars) code) (λ j. suspends-kept vars.world turns _ _ _ behind vars (self vars.world) (here-code (write byte)) (byte-under byte done _ m h (below-under 8 (value (state_of b vars) byte) m) i)))

      await-kept : (call : Awaited) (done : Done) (vars : Vars) → Begun done (Here call) → Kept vars.world (with_some (io_of b a vars) (λ io. awaited b turns target io.0 io.1 call done (Here call) rest behind vars))
      await-kept call done vars h = kept-some vars.world (io_of b a vars) _ (λ io e. awaited-kept call io.0 io.1 done vars h)

    -- Calls of methods.
    answer-same : (target : Target) (v : Option Value) (vars after : Vars) → put_answer b target v vars ≡ Some after → Same vars.world after.world
    answer-same to_nothing v vars after e = let P : Vars → Type 0 = λ u. Same vars.world u.world in subst P (some_same vars after e) (same-self vars.world)
    answer-same (to_number at of path) (Some v) vars after e = put-same b (to_number at of path) v vars after e
    answer-same (to_element at of cells index) (Some v) vars after e = put-same b (to_element at of cells index) v vars after e
    answer-same (to_flag at path) (Some v) vars after e = put-same b (to_flag at path) v vars after e
    answer-same (to_status at path) (Some v) vars after e = put-same b (to_status at path) v vars after e
    answer-same (to_slice at bits path) (Some v) vars after e = put-same b (to_slice at bits path) v vars after e
    answer-same target None vars after e = absurd (cc (e))

    module _ (here rest : Block) (behind : Behind) (here_code : Code C here behind) (code : Code C rest behind) where
      handed : (w : World) (vars : Vars) (left : ℕ) → Rel w vars.world → FirstHasDone here untouched → (answer : Answered) → Kept w (handed_on b turns left answer here rest behind vars)
      handed w vars left h k (suspended status) = suspends-kept w left _ _ here behind vars h here_code k
      handed w vars left h k (returned None) = record { fact = tt }
      handed w vars left h k (returned (Some (num v))) = record { fact = tt }
      handed w vars left h k (returned (Some (truth_value v))) = record { fact = tt }
      handed w vars left h k (returned (Some (status_number zero))) = kept-onward w turns left rest behind vars h code
      handed w vars left h k (returned (Some (status_number (suc status)))) = record { fact = h }
      handed w vars left h k (returned (Some (span v))) = record { fact = tt }
      handed w vars left h k (returned (Some (buffer v))) = record { fact = tt }

      after-kept : (keep : Bool) (m : Mark) → (hands_on keep m ≡ true → FirstHasDone here untouched) → (target : Target) (w : World) (locals : List Value) (left : ℕ) (answer : Answered) (after : World) → Rel w after
          → Kept w (after_call b turns keep m target here rest behind locals left (answer, after))
      after-kept keep m point target w locals left answer after h =
          kept-either w (hands_on keep m) _ _ (λ i. handed w vars left h (point i) answer)
          (λ i. kept-either w keep _ _ (λ j. kept-some w _ _ (λ next e. kept-onward w turns left rest behind next (on w after next.world h (same after next.world (answer-same target _ vars next e))) code))
          (λ j. kept-some w _ _ (λ v e. kept-some w _ _ (λ next k. kept-onward w turns left rest behind next (on w after next.world h (same after next.world (answer-same target v vars next k))) code))))
        where
          vars : Vars
          vars = record { locals = locals; world = after }

    invoke-kept : (site : Site) (at : Place) (target : Target) (keep : Bool) (m : Mark) (called : Called) (vs : List ValueTree) (rest : Block) (behind : Behind) (vars : Vars) → C called → Code C rest behind
        → Kept vars.world (invoked b calls turns keep m target called vs (plain site (invoke at target keep m called vs) rest) rest behind vars)
    invoke-kept site at target keep m called vs rest behind vars may code =
        kept-some vars.world (slice_get b.within.methods (number_of called)) _ (λ callee e1. kept-some vars.world (values_of (state_of b vars) callee.args vs) _ (λ values e2. kept-some vars.world (receiver_of b called vars) _ (λ object e3.
        kept-holding vars.world (through b.within calls callee called (record { object = object; method = number_of called; args = values }) turns vars.world) _
        (λ left finished e4. let P : Outcome (Answered × World) → Type 0 = λ o. AnswersWith (λ (it : Answered × World). Rel vars.world it.1) o in
        after-kept (plain site (invoke at target keep m called vs) rest) rest behind ((may, code.0), code.1) code keep m (λ i. i) target vars.world vars.locals left finished.0 finished.1 (subst P e4 (fine turns called callee object values vars may e1 e3))))))

    given-kept : (n : ℕ) (w : World) (v : Value) → Kept w (given_back b n w v)
    given-kept n w (num m) = kept-true w _ _ (record { fact = self w })
    given-kept n w (truth_value m) = kept-true w _ _ (record { fact = self w })
    given-kept n w (status_number m) = kept-either w _ _ _ (λ i. record { fact = self w }) (λ i. kept-true w _ _ (record { fact = self w }))
    given-kept n w (span m) = kept-true w _ _ (record { fact = self w })
    given-kept n w (buffer m) = kept-true w _ _ (record { fact = self w })

    marked : (w : ℕ) (behind : Behind) (m : Marker) → CallsAfter C behind → marker_of w behind ≡ Some m → CallsAfter C (again m.site m.head m.body m.rest m.behind)
    marked w stop m h e = absurd (cc (e))
    marked w (behind_if rest behind) m h e = marked w behind m h.1 e
    marked w (again site head body rest behind) m h e = by (nat_eq site.number w) e (marked w behind m h.1.1)
      where
        here : Marker
        here = record { site = site; head = head; body = body; rest = rest; behind = behind }

        by : (test : Bool) → (if test then Some here else marker_of w behind) ≡ Some m → (marker_of w behind ≡ Some m → CallsAfter C (again m.site m.head m.body m.rest m.behind)) → CallsAfter C (again m.site m.head m.body m.rest m.behind)
        by true q inner = let P : Marker → Type 0 = λ it. CallsAfter C (again it.site it.head it.body it.rest it.behind) in subst P (some_same here m q) h
        by false q inner = inner q

    continued-kept : (w : ℕ) (behind : Behind) (vars : Vars) → CallsAfter C behind → (o : Option Marker) → marker_of w behind ≡ o → Kept vars.world (continued o vars)
    continued-kept w behind vars h None e = record { fact = tt }
    continued-kept w behind vars h (Some m) e = stays vars _ _ (tt, marked w behind m h e)

    broken-kept : (w : ℕ) (behind : Behind) (vars : Vars) → CallsAfter C behind → (o : Option Marker) → marker_of w behind ≡ o → Kept vars.world (broken b o vars)
    broken-kept w behind vars h None e = record { fact = tt }
    broken-kept w behind vars h (Some m) e = let k = marked w behind m h e in kept-true vars.world _ _ (stays vars _ _ (k.1.0, k.1.1))

    yield-kept : (site : Site) (status : ℕ) (done : Done) (rest : Block) (behind : Behind) (vars : Vars) → Code C rest behind → Kept vars.world (yielded turns status done (plain site (yield status) rest) rest behind vars)
    yield-kept site status has_yielded rest behind vars code = stays vars rest behind code
    yield-kept site status untouched rest behind vars code = suspends-kept vars.world turns status has_yielded (plain site (yield status) rest) behind vars (self vars.world) ((tt, code.0), code.1) tt
    yield-kept site status (has_bytes bytes) rest behind vars code = suspends-kept vars.world turns status has_yielded (plain site (yield status) rest) behind vars (self vars.world) ((tt, code.0), code.1) tt
    yield-kept site status (to_skip left) rest behind vars code = suspends-kept vars.world turns status has_yielded (plain site (yield status) rest) behind vars (self vars.world) ((tt, code.0), code.1) tt
    yield-kept site status (to_write it) rest behind vars code = suspends-kept vars.world turns status has_yielded (plain site (yield status) rest) behind vars (self vars.world) ((tt, code.0), code.1) tt

    simple-kept : (site : Site) (s : Simple) (rest : Block) (done : Done) (behind : Behind) (vars : Vars) → Code C (plain site s rest) behind → Begun done (plain site s rest) → Kept vars.world (simple_step b calls turns done site s rest behind vars)
    simple-kept site (assign target op v) rest done behind vars k h = kept-some vars.world _ _ (λ after e. go vars.world rest behind after (same vars.world after.world (by after e)) (k.0.1, k.1))
      where
        by : (after : Vars) → option_and_then (λ v. put_value b target v vars) (value_of (state_of b vars) v) ≡ Some after → Same vars.world after.world
        by after e =
            let m : Made (λ v. put_value b target v vars) (value_of (state_of b vars) v) after = and_then_made (λ v. put_value b target v vars) (value_of (state_of b vars) v) after e in
            put-same b target m.x vars after m.gives
    simple-kept site (await at target a call) rest done behind vars k h = await-kept site at target a rest behind (k.0.1, k.1) call done vars h
    simple-kept site (perform at target call) rest done behind vars k h = kept-some vars.world _ _ (λ after e. go vars.world rest behind after (same vars.world after.world (perform-same b target call vars after e)) (k.0.1, k.1))
    simple-kept site (invoke at target keep m called vs) rest done behind vars k h = invoke-kept site at target keep m called vs rest behind vars k.0.0 (k.0.1, k.1)
    simple-kept site (break_from n) rest done behind vars k h = broken-kept n behind vars k.1 (marker_of n behind) refl
    simple-kept site (continue_in n) rest done behind vars k h = continued-kept n behind vars k.1 (marker_of n behind) refl
    simple-kept site (give_back None) rest done behind vars k h = kept-true vars.world _ _ (record { fact = self vars.world })
    simple-kept site (give_back (Some v)) rest done behind vars k h = kept-some vars.world _ _ (λ u e. given-kept turns vars.world u)
    simple-kept site (yield status) rest done behind vars k h = yield-kept site status done rest behind vars (k.0.1, k.1)
    simple-kept site (claim goal by) rest done behind vars k h = kept-true vars.world _ _ (stays vars rest behind (k.0.1, k.1))

    tested-kept : (site : Site) (head : Head) (body rest : Block) (behind : Behind) (vars : Vars) (o : Option Bool) → CallsAfter C (again site head body rest behind) → Kept vars.world (tested b site head body rest behind vars o)
    tested-kept site head body rest behind vars None k = record { fact = tt }
    tested-kept site head body rest behind vars (Some true) k = stays vars _ _ (k.0, k)
    tested-kept site head body rest behind vars (Some false) k = kept-true vars.world _ _ (stays vars rest behind (k.1.0, k.1.1))

    end-kept : (behind : Behind) (vars : Vars) → CallsAfter C behind → Kept vars.world (end_step b turns behind vars)
    end-kept stop vars k = record { fact = self vars.world }
    end-kept (behind_if rest behind) vars k = stays vars rest behind (k.0, k.1)
    end-kept (again site head body rest behind) vars k = kept-true vars.world _ _ (kept-turn vars.world turns _ (tested-kept site head body rest behind vars _ k))

    block-kept : (done : Done) (block : Block) (behind : Behind) (vars : Vars) → Code C block behind → Begun done block → Kept vars.world (block_step b calls turns done block behind vars)
    block-kept done end behind vars k h = end-kept behind vars k.1
    block-kept done (plain site s rest) behind vars k h = simple-kept site s rest done behind vars k h
    block-kept done (choose site chained t x y rest) behind vars k h = kept-some vars.world _ _ (λ answer e. arm answer)
      where
        arm : (answer : Bool) → Kept vars.world (chosen x y rest behind vars answer)
        arm true = stays vars _ _ (k.0.0, (k.0.1.1, k.1))
        arm false = stays vars _ _ (k.0.1.0, (k.0.1.1, k.1))
    block-kept done (loop site head body rest) behind vars k h = kept-true vars.world _ _ (tested-kept site head body rest behind vars _ (k.0.0, (k.0.1, k.1)))

    -- Every step, from a world that comes of another.
    pub step-ok : (w : World) (x : At) → AtOk w x → NextKeeps (AtOk w) (EndOk w) (step b calls turns x)
    unfolding step
    step-ok w x h = on-from (block_step b calls turns x.done x.block x.behind x.vars) (block-kept x.done x.block x.behind x.vars h.1.0 h.1.1).fact
      where
        ending-on : (e : Ending) (u : World) → EndOk x.vars.world (e, u) → EndOk w (e, u)
        ending-on (gives v) u k = on w x.vars.world u h.0 k
        ending-on (suspends status left) u k = (on w x.vars.world u h.0 k.0, k.1)

        on-from : (next : Steps) → NextKeeps (AtOk x.vars.world) (EndOk x.vars.world) next → NextKeeps (AtOk w) (EndOk w) next
        on-from (Go y) k = (on w x.vars.world y.vars.world h.0 k.0, k.1)
        on-from (Turn left y) k = (on w x.vars.world y.vars.world h.0 k.0, k.1)
        on-from (End left e) k = ending-on e.0 e.1 k
        on-from Out k = tt
        on-from Fail k = tt
