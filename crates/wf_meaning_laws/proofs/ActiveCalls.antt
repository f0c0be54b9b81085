-- The runs of all bodies keep the struct states steady.
use Rattle.std.proofs.Common.{◌≡◌, ℕ, zero, suc, ◌<◌, Bool, true, false, List, [], ◌∷◌, length, reverse, Option, Some, None, ◌⊎◌, inl, inr, refl, sym, ap, ◌∙◌, subst, nat_eq, arith}
use Rattle.std.specs.Prelude.{slice_get, option_and_then, is_some, unwrap_or, if◌then◌else◌}
use Rattle.std.proofs.lemmas.Bool.Decides.{nat_tests}
use Rattle.turns.specs.Run.{Outcome, Got, More, Lost}
use Rattle.turns.specs.Steps.{AnswersWith}
use Rattle.turns.proofs.Invariants.{run_keeps}
use Rattle.wf_text.specs.Seen.{Answer}
use Rattle.wf_text.specs.declared.categories.Category.TheVariants.{Fault}
use Rattle.wf_base.specs.HostRun.{Host, HostCall, Response, answers, needs_more, not_defined}
use Rattle.wf_base.specs.declared.marks.Mark.{Mark}
use Rattle.wf_ast.specs.TypedTree.{Called, own, sub}
use Rattle.wf_ast.specs.TypedPackage.{MethodTree, PackageTree}
use Rattle.wf_ast.specs.WellTyped.{is_coroutine, number_of}
use Rattle.wf_ast.specs.Value.{Value, num, truth_value, status_number, span, buffer}
use Rattle.wf_meaning.specs.SourceState.{disabled, Held, held_num, held_truth, held_status, held_cells, held_part, Remaining, Object, SourceState}
use Rattle.wf_meaning.specs.Entry.{Admission, refused, admitted, admission, Answered, returned, suspended, ended, coroutine_ended, has_kind}
use Rattle.wf_meaning.specs.World.{World, Vars, updated, with_object, held_at}
use Rattle.wf_meaning.specs.SourceStep.{At, Ending, gives, suspends, Call, Callees, settled, on_admission, entered, through, receiver_of, part_in, step, weight}
use Rattle.wf_meaning.specs.SourceCall.{source_call, call_method, call_receiver, called, set_remaining, taken_up, begins, remaining_of, left_over, body_of, body_run, run_if, bodies, all_bodies, host_values}
use Rattle.wf_meaning.proofs.Lists.{same_or_other, updated-at, updated-other}
use Rattle.wf_meaning.proofs.Lists2.{all_at, all_updated, some_same, and_then_made}
use Rattle.wf_meaning_laws.specs.Code.{Calls, Left}
use Rattle.wf_meaning_laws.specs.Active.{IsCoroutine, Remains, ActiveRemains, OwnCall, IsFormed, AreSteady, IsSteadyReceiver, IsSteady}
use Rattle.wf_meaning_laws.proofs.Cores.{Same}
use Rattle.wf_meaning_laws.proofs.Admissions.{AdmissionKin, admission-kin, ended-remains}
use Rattle.wf_meaning_laws.proofs.Steps.{AtOk, EndOk, step-ok}
use Rattle.wf_meaning_laws.proofs.Moves.{Changed, changed, length-updated, there-too, Fine, Moved, Rel, EnteredTo, Entered, rel-self, rel-on, rel-same, rel-own, rel-sub, rel-changed, entered-changed, kin-active, kin-formed-at}

-- The struct state that a call through a field means stands in that field.
held-is : (held : Held) (part : ℕ) → part_in held ≡ Some part → held ≡ held_part part
held-is (held_num n) part e = absurd (cc (e))
held-is (held_truth n) part e = absurd (cc (e))
held-is (held_status n) part e = absurd (cc (e))
held-is (held_cells n) part e = absurd (cc (e))
held-is (held_part n) part e = ap held_part (some_same n part e)

module _ (p : PackageTree) where
  -- A suspended body has something remaining.
  abbrev Resumable : Call → Answered → World → Type 0
  Resumable call (returned v) w = Unit {0}
  Resumable call (suspended status) w = (o : Object) → slice_get w.objects call.object ≡ Some o → Remains o call.method

  record Ran (call : Call) (mark : Mark) (w : World) (it : Answered × World) : Type 0 where
    moved : Moved p call.object mark w.objects it.1.objects
    resumable : Resumable call it.0 it.1

  abbrev Runs : Call → Mark → World → Answered × World → Type 0
  Runs call mark w it = Fine p (suc call.object) w.objects → Ran call mark w it

  record CalleesOk (calls : Callees) : Type 0 where
    by : (call : Call) (n : ℕ) (w : World) (m : MethodTree) → slice_get p.methods call.method ≡ Some m → AnswersWith (Runs call m.mark w) (calls call n w)

  -- A struct state after a body that came by the entry table.
  either-active : (test : Bool) (a c : Object) → ActiveRemains p a → ActiveRemains p c → ActiveRemains p (if test then a else c)
  either-active true a c h k = h
  either-active false a c h k = k

  none-active : (o : Object) → o.active ≡ None → ActiveRemains p o
  none-active o e k h = absurd (cc (e, h))

  coroutine-active : (number : ℕ) (a : Answered) (o : Object) → IsCoroutine p number → ((status : ℕ) → a ≡ suspended status → Remains o number) → ActiveRemains p (coroutine_ended p number a o)
  coroutine-active number (suspended status) o is h =
      λ k e. let q : number ≡ k = some_same number k e in let P : ℕ → Type 0 = λ n. IsCoroutine p n × Remains o n in subst P q (is, h status refl)
  coroutine-active number (returned None) o is h = none-active (record o { active = None }) refl
  coroutine-active number (returned (Some (num m))) o is h = none-active (record o { active = None }) refl
  coroutine-active number (returned (Some (truth_value t))) o is h = none-active (record o { active = None }) refl
  coroutine-active number (returned (Some (status_number m))) o is h = either-active (has_kind p Fault m) _ _ (none-active (record o { life = disabled; active = None }) refl) (none-active (record o { active = None }) refl)
  coroutine-active number (returned (Some (span s))) o is h = none-active (record o { active = None }) refl
  coroutine-active number (returned (Some (buffer k))) o is h = none-active (record o { active = None }) refl

  ended-active : (m : MethodTree) (number : ℕ) (a : Answered) (o : Object) → slice_get p.methods number ≡ Some m → ((status : ℕ) → a ≡ suspended status → Remains o number) → (is_coroutine m.mark ≡ false → ActiveRemains p o) → ActiveRemains p (ended p m.mark number a o)
  ended-active m number a o known h k = by (is_coroutine m.mark) refl
    where
      by : (test : Bool) → is_coroutine m.mark ≡ test → ActiveRemains p (if test then coroutine_ended p number a o else o)
      by true e = coroutine-active number a o (m, (known, e)) h
      by false e = k e

  ended-formed : (i number : ℕ) (mark : Mark) (a : Answered) (o : Object) → IsFormed p i o → IsFormed p i (ended p mark number a o)
  ended-formed i number mark a o h =
      let same = ended-remains p mark number a o in
      record {
        room = ap (λ (rs : List (Option Remaining)). length rs) same.0 ∙ h.room;
        inside = λ x n e. h.inside x n (ap (λ (fs : List Held). slice_get fs x) (sym same.1) ∙ e);
        code = λ m left e. h.code m left (ap (λ (rs : List (Option Remaining)). slice_get rs m) (sym same.0) ∙ e);
      }

  resumes : (call : Call) (a : Answered) (w : World) (o : Object) → Resumable call a w → slice_get w.objects call.object ≡ Some o → (status : ℕ) → a ≡ suspended status → Remains o call.method
  resumes call (returned v) w o h e status q = absurd (cc (q))
  resumes call (suspended s) w o h e status q = h o e

  -- A call that passes the entry table.
  module _ (calls : Callees) (fine : CalleesOk calls) (m : MethodTree) (call : Call) (known : slice_get p.methods call.method ≡ Some m) where
    settled-ok : (w : World) (o : Outcome (Answered × World)) → AnswersWith (Runs call m.mark w) o → AnswersWith (λ (it : Answered × World). Entered p call.object w it.1) (settled p m call o)
    settled-ok w More h = tt
    settled-ok w Lost h = tt
    settled-ok w (Got left it) h = λ start. by start (h (record { formed = start.formed; active = λ j o q e. start.active j o (omega (arith, q)) e }))
      where
        by : Fine p call.object w.objects → Ran call m.mark w it → EnteredTo p call.object w.objects (updated (ended p m.mark call.method it.0) call.object it.1.objects)
        by start ran =
            entered-changed p call.object (ended p m.mark call.method it.0) w.objects it.1.objects ran.moved.fine ran.moved.below
            (λ o e. (
              ended-formed call.object call.method m.mark it.0 o (ran.moved.fine.formed call.object o e),
              ended-active m call.method it.0 o known (resumes call it.0 it.1 o ran.resumable e)
                  (λ plain k active. let before = ran.moved.here.by o e in
                  let was = start.active call.object before.o (omega arith) before.there k (sym before.active ∙ active) in
                  (was.0, (was.1.0, before.coroutines plain k was.0 ∙ was.1.1))),
            ))

    admitted-ok : (n : ℕ) (w : World) (o : Object) → slice_get w.objects call.object ≡ Some o → (a : Admission) → AdmissionKin o a → AnswersWith (λ (it : Answered × World). Entered p call.object w it.1) (on_admission p calls m call n w a)
    admitted-ok n w o there (refused status object) h = λ start.
        entered-changed p call.object (λ _. object) w.objects w.objects (record { formed = start.formed; active = λ j x q e. start.active j x (omega (arith, q)) e })
        (record { by = λ j x q e. record { o = x; there = e; active = refl; remaining = refl } })
        (λ x e. (kin-formed-at p call.object o object h (start.formed call.object o there), kin-active p o object h (start.active call.object o (omega arith) there)))
    admitted-ok n w o there admitted h = settled-ok w (calls call n w) (fine.by call n w m known)

    entered-ok : (fit : Bool) (n : ℕ) (w : World) (o : Option Object) → slice_get w.objects call.object ≡ o → AnswersWith (λ (it : Answered × World). Entered p call.object w it.1) (entered p calls m call fit n w o)
    entered-ok fit n w None there = tt
    entered-ok fit n w (Some object) there = admitted-ok n w object there (admission m.mark call.method fit object) (admission-kin m.mark call.method fit object)

  -- The runs of bodies.
  set-formed : (i method : ℕ) (left : Option Remaining) (o : Object) → ((x : Remaining) → left ≡ Some x → Left (OwnCall p method) x) → IsFormed p i o → IsFormed p i (set_remaining method left o)
  set-formed i method left o f h =
      record { room = length-updated (λ _. left) method o.remaining ∙ h.room; inside = h.inside; code = λ m x e. by_place m x (same_or_other method m o.remaining e) }
    where
      by_place : (m : ℕ) (x : Remaining) → ((method ≡ m) × (left ≡ Some x)) ⊎ (slice_get o.remaining m ≡ Some (Some x)) → Left (OwnCall p m) x
      by_place m x (inl q) = let P : ℕ → Type 0 = λ n. Left (OwnCall p n) x in subst P q.0 (f x q.1)
      by_place m x (inr q) = h.code m x q

  set-other : (method : ℕ) (left : Option Remaining) (o : Object) (m : MethodTree) → slice_get p.methods method ≡ Some m → is_coroutine m.mark ≡ false → (k : ℕ) → IsCoroutine p k → slice_get (set_remaining method left o).remaining k ≡ slice_get o.remaining k
  set-other method left o m known plain k is = updated-other (λ _. left) method k o.remaining (λ q. absurd (apart q))
    where
      apart : k ≡ method → ⊥
      apart q =
          let same : Some is.0 ≡ Some m = sym is.1.0 ∙ ap (slice_get p.methods) q ∙ known in
          let mark : is.0 ≡ m = some_same is.0 m same in
          let P : MethodTree → Type 0 = λ x. is_coroutine x.mark ≡ true in
          let t : is_coroutine m.mark ≡ true = subst P mark is.1.1 in
          absurd (cc (t, plain))

  module _ (calls : Callees) (fine : CalleesOk calls) (m : MethodTree) (call : Call) (known : slice_get p.methods call.method ≡ Some m) (code : Calls (OwnCall p call.method) m.body) where
    abbrev Now : World → World → Type 0
    Now v w = Rel p call.object m.mark v w

    own-ok : (v : World) (inner : MethodTree) (it : Call) → it.object ≡ call.object → (is_coroutine m.mark ≡ false → is_coroutine inner.mark ≡ false) → (o : Outcome (Answered × World)) → AnswersWith (Runs it inner.mark v) o → AnswersWith (λ (a : Answered × World). Now v a.1) o
    own-ok v inner it same t (Got left a) h = rel-own p call.object m.mark inner.mark v a.1 t (λ start. let P : ℕ → Type 0 = λ i. Moved p i inner.mark v.objects a.1.objects in let Q : ℕ → Type 0 = λ i. Fine p (suc i) v.objects in subst P same (h (subst Q (sym same) start)).moved)
    own-ok v inner it same t More h = tt
    own-ok v inner it same t Lost h = tt

    sub-ok : (v : World) (inner : ℕ) → (Fine p (suc call.object) v.objects → call.object < inner) → (o : Outcome (Answered × World)) → AnswersWith (λ (a : Answered × World). Entered p inner v a.1) o → AnswersWith (λ (a : Answered × World). Now v a.1) o
    sub-ok v inner t (Got left a) h = rel-sub p call.object inner m.mark v a.1 t h
    sub-ok v inner t More h = tt
    sub-ok v inner t Lost h = tt

    callee-ok : (n : ℕ) (called : Called) (callee : MethodTree) (object : ℕ) (values : List Value) (vars : Vars) → OwnCall p call.method called → slice_get p.methods (number_of called) ≡ Some callee → receiver_of (body_of p m call) called vars ≡ Some object
        → AnswersWith (λ (a : Answered × World). Now vars.world a.1) (through p calls callee called (record { object = object; method = number_of called; args = values }) n vars.world)
    callee-ok n (own k) callee object values vars may is receives =
        own-ok vars.world callee (record { object = object; method = k; args = values }) (sym (some_same call.object object receives)) (λ plain. may m callee known is plain) _ (fine.by (record { object = object; method = k; args = values }) n vars.world callee is)
    callee-ok n (sub x k) callee object values vars may is receives =
        sub-ok vars.world object later _ (entered-ok calls fine callee (record { object = object; method = k; args = values }) is true n vars.world (slice_get vars.world.objects object) refl)
      where
        later : Fine p (suc call.object) vars.world.objects → call.object < object
        later start =
            let held = and_then_made part_in (held_at vars.world call.object x) object receives in
            let it = and_then_made (λ o. slice_get o.fields x) (slice_get vars.world.objects call.object) held.x held.from in
            (start.formed call.object it.x it.from).inside x object (it.gives ∙ ap Some (held-is held.x object held.gives))

    self-now : (w : World) → Now w w
    self-now w = rel-self p call.object m.mark w

    on-now : (u v w : World) → Now u v → Now v w → Now u w
    on-now u v w h k = rel-on p call.object m.mark u v w h k

    same-now : (v w : World) → Same v w → Now v w
    same-now v w h = rel-same p call.object m.mark v w h

    abbrev Fits : World → At → Type 0
    Fits w x = AtOk (body_of p m call) calls Now self-now on-now same-now (OwnCall p call.method) callee-ok w x

    abbrev Ends : World → Ending × World → Type 0
    Ends w e = EndOk (body_of p m call) calls Now self-now on-now same-now (OwnCall p call.method) callee-ok w e

    begins-ok : (w : World) (left : Option Remaining) → ((x : Remaining) → left ≡ Some x → Left (OwnCall p call.method) x) → Fits w (begins m w left)
    begins-ok w None f = (self-now w, ((code, tt), inl refl))
    begins-ok w (Some left) f = let it = f left refl in (self-now w, (it.0, inr it.1))

    taken-ok : (w : World) → Now w (taken_up call w)
    taken-ok w h =
        rel-changed p call.object m.mark (set_remaining call.method None) w (λ o k. set-formed call.object call.method None o (λ x e. absurd (cc (e))) k) (λ o. refl) (λ o plain k is. set-other call.method None o m known plain k is) h

    kept-ok : (u : World) (items : Remaining) → Left (OwnCall p call.method) items → Fine p (suc call.object) u.objects → Ran call m.mark u (suspended 0, with_object call.object (set_remaining call.method (Some items)) u)
    kept-ok u items left h =
        record {
          moved = rel-changed p call.object m.mark (set_remaining call.method (Some items)) u (λ o k. set-formed call.object call.method (Some items) o (λ x e. subst (Left (OwnCall p call.method)) (some_same items x e) left) k) (λ o. refl) (λ o plain k is. set-other call.method (Some items) o m known plain k is) h;
          resumable = λ o e. remains o (changed (set_remaining call.method (Some items)) call.object u.objects call.object o e);
        }
      where
        remains : (o : Object) → Changed (set_remaining call.method (Some items)) call.object u.objects call.object o → Remains o call.method
        remains o it = by it.is
          where
            by : ((call.object ≡ call.object) × (set_remaining call.method (Some items) it.x ≡ o)) ⊎ ((call.object ≡ call.object → ⊥) × (it.x ≡ o)) → Remains o call.method
            by (inl q) =
                let room = there-too it.x.remaining p.methods call.method m (h.formed call.object it.x it.there).room known in
                let P : Object → Type 0 = λ x. Remains x call.method in
                subst P q.1 (items, updated-at (λ _. Some items) call.method it.x.remaining room.0 room.1)
            by (inr q) = absurd (q.0 refl)

    left-ok : (w : World) → (o : Outcome (Ending × World)) → AnswersWith (Ends (taken_up call w)) o → AnswersWith (Runs call m.mark w) (left_over call o)
    left-ok w (Got left (gives a, u)) h = λ start. record { moved = on-now w (taken_up call w) u (taken-ok w) h start; resumable = tt }
    left-ok w (Got left (suspends status items, u)) h = λ start.
        let first = on-now w (taken_up call w) u (taken-ok w) h.0 in
        let last = kept-ok u items h.1 (first start).fine in
        record { moved = on-now w u (with_object call.object (set_remaining call.method (Some items)) u) first (λ k. last.moved) start; resumable = last.resumable }
    left-ok w More h = tt
    left-ok w Lost h = tt

    remaining-formed : (w : World) (x : Remaining) → Fine p (suc call.object) w.objects → remaining_of w call ≡ Some x → Left (OwnCall p call.method) x
    remaining-formed w x h e = by_object (slice_get w.objects call.object) refl e
      where
        by_entry : (o : Object) → IsFormed p call.object o → (q : Option (Option Remaining)) → slice_get o.remaining call.method ≡ q → unwrap_or q None ≡ Some x → Left (OwnCall p call.method) x
        by_entry o j None a c = absurd (cc (c))
        by_entry o j (Some q) a c = j.code call.method x (a ∙ ap Some c)

        by_object : (o : Option Object) → slice_get w.objects call.object ≡ o → option_and_then (λ it. unwrap_or (slice_get it.remaining call.method) None) o ≡ Some x → Left (OwnCall p call.method) x
        by_object None a c = absurd (cc (c))
        by_object (Some it) a c = by_entry it (h.formed call.object it a) (slice_get it.remaining call.method) refl c

    run-ok : (n : ℕ) (w : World) → Fine p (suc call.object) w.objects → AnswersWith (Runs call m.mark w) (body_run p calls m call n w)
    run-ok zero w start = tt
    run-ok (suc left) w start =
        left-ok w _
        (run_keeps (step (body_of p m call) calls) weight (Fits (taken_up call w)) (Ends (taken_up call w)) (λ n x h. step-ok (body_of p m call) calls Now self-now on-now same-now (OwnCall p call.method) callee-ok n (taken_up call w) x h) left _
        (begins-ok (taken_up call w) (remaining_of w call) (λ x e. remaining-formed w x start e)))

  given : (call : Call) (mark : Mark) (w : World) (o : Outcome (Answered × World)) → (Fine p (suc call.object) w.objects → AnswersWith (Runs call mark w) o) → AnswersWith (Runs call mark w) o
  given call mark w (Got left it) h = λ start. h start start
  given call mark w More h = tt
  given call mark w Lost h = tt

  module _ (codes : (method : ℕ) (m : MethodTree) → slice_get p.methods method ≡ Some m → Calls (OwnCall p method) m.body) where
    if-ok : (calls : Callees) → CalleesOk calls → (o : Option MethodTree) (call : Call) (n : ℕ) (w : World) (m : MethodTree) → slice_get p.methods call.method ≡ o → slice_get p.methods call.method ≡ Some m → AnswersWith (Runs call m.mark w) (run_if p calls o call n w)
    if-ok calls fine None call n w m e known = tt
    if-ok calls fine (Some it) call n w m e known =
        let same : it ≡ m = some_same it m (sym e ∙ known) in
        let P : MethodTree → Type 0 = λ x. AnswersWith (Runs call x.mark w) (body_run p calls it call n w) in
        subst P same (given call it.mark w (body_run p calls it call n w) (run-ok calls fine it call e (codes call.method it e) n w))

    test-ok : (test : Bool) (call : Call) (mark : Mark) (w : World) (o o' : Outcome (Answered × World)) → (test ≡ true → AnswersWith (Runs call mark w) o) → AnswersWith (Runs call mark w) o' → AnswersWith (Runs call mark w) (if test then o else o')
    test-ok true call mark w o o' h k = h refl
    test-ok false call mark w o o' h k = k

    bodies-ok : (ms : List ℕ) → CalleesOk (bodies p ms)
    unfolding bodies
    bodies-ok [] = record { by = λ call n w m known. tt }
    bodies-ok (k ∷ ms) =
        let inner = bodies-ok ms in
        record { by = λ call n w m known. test-ok (nat_eq k call.method) call m.mark w _ _ (λ e. if-ok (bodies p ms) inner (slice_get p.methods k) call n w m (ap (slice_get p.methods) (sym (equal k call.method e))) known) (inner.by call n w m known) }
      where
        equal : (a b : ℕ) → nat_eq a b ≡ true → a ≡ b
        equal a b e = grind (arith, nat_tests, e)

    -- Calls of a host.
    steady-fine : (objects : List Object) → AreSteady p objects → Fine p 0 objects
    steady-fine objects h = record { formed = λ j o e. (h.by j o e).formed; active = λ j o q e. (h.by j o e).active }

    fine-steady : (objects : List Object) → Fine p 0 objects → AreSteady p objects
    fine-steady objects h = record { by = λ j o e. record { formed = h.formed j o e; active = h.active j o (omega arith) e } }

    abbrev FineCall : Response (SourceState × Host) → Type 0
    FineCall (answers a after) = IsSteady p after.0
    FineCall needs_more = Unit {0}
    FineCall not_defined = Unit {0}

    module _ (state : SourceState) (call : HostCall) (h : Host) (steady : IsSteady p state) where
      called-ok : (w : World) → Fine p 0 w.objects → (o : Outcome (Answered × World)) → AnswersWith (λ (it : Answered × World). Entered p 0 w it.1) o → FineCall (called p state call.receiver o)
      called-ok w j (Got left it) k = all_updated (IsSteadyReceiver p) _ call.receiver state (λ x i. fine-steady it.1.objects (k j).fine) steady
      called-ok w j More k = tt
      called-ok w j Lost k = tt

      receiver-ok : (m : MethodTree) → slice_get p.methods call.method ≡ Some m → (n : ℕ) (o : Option (List Object)) → IsSteadyReceiver p o → FineCall (call_receiver p m state call h n o)
      receiver-ok m known n None k = steady
      receiver-ok m known n (Some objects) k =
          let args = host_values h.arrays m.args call.args in
          let w : World = record { objects = objects; host = h } in
          called-ok w (steady-fine objects k) _ (entered-ok (all_bodies p) (bodies-ok (reverse p.order)) m (record { object = 0; method = call.method; args = unwrap_or args [] }) known (is_some args) n w (slice_get objects 0) refl)

      method-ok : (n : ℕ) (m : Option MethodTree) (r : Option (Option (List Object))) → slice_get p.methods call.method ≡ m → slice_get state call.receiver ≡ r → FineCall (call_method p state call h n m r)
      method-ok n None r is e = tt
      method-ok n (Some m) None is e = tt
      method-ok n (Some m) (Some r) is e = receiver-ok m is n r (all_at (IsSteadyReceiver p) state call.receiver r steady e)

    pub call-steady : (state : SourceState) (call : HostCall) (h : Host) (n : ℕ) (a : Answer) (after : SourceState × Host) → IsSteady p state → source_call p state call h n ≡ answers a after → IsSteady p after.0
    unfolding source_call
    call-steady state call h n a after steady e =
        let P : Response (SourceState × Host) → Type 0 = FineCall in subst P e (method-ok state call h steady n (slice_get p.methods call.method) (slice_get state call.receiver) refl refl)
