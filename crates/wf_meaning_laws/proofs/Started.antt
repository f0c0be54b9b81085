-- In every state that a host reaches, what remains of each coroutine begins with a statement that was started.
use Rattle.std.proofs.Common.{◌≡◌, ℕ, zero, suc, ◌+◌, Bool, true, false, List, [], ◌∷◌, ◌++◌, length, map, reverse, replicate, Option, Some, None, ◌⊎◌, inl, inr, refl, sym, ap, ◌∙◌, subst, nat_eq}
use Rattle.std.specs.Prelude.{slice_get, option_and_then, is_some, unwrap_or, if◌then◌else◌}
use Rattle.std.specs.List.{AllByRecursion}
use Rattle.turns.specs.Run.{Outcome, Got, More, Lost}
use Rattle.turns.specs.Steps.{AnswersWith}
use Rattle.turns.proofs.Invariants.{run_keeps}
use Rattle.wf_text.specs.Seen.{Answer}
use Rattle.wf_text.specs.HostActions.{Receiver}
use Rattle.wf_base.specs.HostRun.{Host, HostCall, Response, answers, needs_more, not_defined}
use Rattle.wf_ast.specs.declared.types.Ty.{Ty}
use Rattle.wf_ast.specs.declared.types.Ty.TheVariants as types
use Rattle.wf_ast.specs.TypedTree.{Called, own, sub, Simple, assign, await, perform, invoke, break_from, continue_in, give_back, yield, claim, Block, end, plain, choose, loop}
use Rattle.wf_ast.specs.TypedPackage.{Variable, MethodTree, PackageTree}
use Rattle.wf_ast.specs.WellTyped.{number_of}
use Rattle.wf_ast.specs.Value.{Value}
use Rattle.wf_meaning.specs.SourceState.{Behind, stop, behind_if, again, Remaining, Object, SourceState, cleared_object, raw_objects, inside_field, inside_fields, fields_of, fresh_receiver, fresh_state}
use Rattle.wf_meaning.specs.Entry.{Admission, refused, admitted, admission, Answered}
use Rattle.wf_meaning.specs.World.{World, Vars}
use Rattle.wf_meaning.specs.SourceStep.{At, Ending, gives, suspends, Call, Callees, settled, on_admission, entered, through, receiver_of, step, weight}
use Rattle.wf_meaning.specs.SourceCall.{source_call, source_init, init_receiver, call_method, call_receiver, called, set_remaining, taken_up, begins, remaining_of, left_over, body_of, body_run, run_if, bodies, all_bodies, host_values}
use Rattle.wf_meaning.proofs.Lists.{same_or_other}
use Rattle.wf_meaning.proofs.Lists2.{all_at, all_updated, some_same}
use Rattle.wf_meaning_laws.specs.Started.{FirstHasDone, HasStarted, AllStarted, IsStarted}
use Rattle.wf_meaning_laws.specs.Code.{CallIn, Calls, CallsAfter}
use Rattle.wf_meaning_laws.proofs.Cores.{Kin, Pairs, Same}
use Rattle.wf_meaning_laws.proofs.Admissions.{AdmissionKin, admission-kin, ended-remains}
use Rattle.wf_meaning_laws.proofs.Steps.{AtOk, EndOk, step-ok}

-- Every code has calls of which nothing is said.
abbrev Any : Called → Type 0
Any called = Unit {0}

any-in : (s : Simple) → CallIn Any s
any-in (assign target op v) = tt
any-in (await at target a call) = tt
any-in (perform at target call) = tt
any-in (invoke at target keep m called vs) = tt
any-in (break_from n) = tt
any-in (continue_in n) = tt
any-in (give_back v) = tt
any-in (yield status) = tt
any-in (claim goal by) = tt

any-calls : (block : Block) → Calls Any block
any-calls end = tt
any-calls (plain site s rest) = (any-in s, any-calls rest)
any-calls (choose site chained c a b rest) = (any-calls a, (any-calls b, any-calls rest))
any-calls (loop site head body rest) = (any-calls body, any-calls rest)

any-after : (behind : Behind) → CallsAfter Any behind
any-after stop = tt
any-after (behind_if rest behind) = (any-calls rest, any-after behind)
any-after (again site head body rest behind) = (any-calls body, (any-calls rest, any-after behind))

-- The struct states of a world.
abbrev Started : World → Type 0
Started w = AllByRecursion HasStarted w.objects

abbrev Rel : World → World → Type 0
Rel v w = Started v → Started w

same-started : (o o' : Object) → o'.remaining ≡ o.remaining → HasStarted o → HasStarted o'
same-started o o' e h = record { by = λ m left k. h.by m left (ap (λ rs. slice_get rs m) (sym e) ∙ k) }

pairs-started : (xs ys : List Object) → Pairs Kin xs ys → AllByRecursion HasStarted xs → AllByRecursion HasStarted ys
pairs-started [] [] h k = tt
pairs-started (x ∷ xs) (y ∷ ys) h k = (same-started x y h.0.remaining k.0, pairs-started xs ys h.1 k.1)
pairs-started [] (y ∷ ys) h k = absurd h
pairs-started (x ∷ xs) [] h k = absurd h

same-rel : (v w : World) → Same v w → Rel v w
same-rel v w h k = pairs-started v.objects w.objects h k

abbrev CalledOk : World → Outcome (Answered × World) → Type 0
CalledOk w o = AnswersWith (λ (it : Answered × World). Rel w it.1) o

record CalleesOk (calls : Callees) : Type 0 where
  by : (call : Call) (n : ℕ) (w : World) → CalledOk w (calls call n w)

-- A call that passes the entry table.
module _ (p : PackageTree) (calls : Callees) (fine : CalleesOk calls) (m : MethodTree) (call : Call) where
  settled-ok : (w : World) (o : Outcome (Answered × World)) → CalledOk w o → CalledOk w (settled p m call o)
  settled-ok w (Got left it) h = λ k. all_updated HasStarted _ call.object it.1.objects (λ o j. same-started o _ (ended-remains p m.mark call.method it.0 o).0 j) (h k)
  settled-ok w More h = tt
  settled-ok w Lost h = tt

  admitted-ok : (n : ℕ) (w : World) (o : Object) → slice_get w.objects call.object ≡ Some o → (a : Admission) → AdmissionKin o a → CalledOk w (on_admission p calls m call n w a)
  admitted-ok n w o there (refused status object) h = λ k. all_updated HasStarted _ call.object w.objects (λ x j. same-started o object h.remaining (all_at HasStarted w.objects call.object o k there)) k
  admitted-ok n w o there admitted h = settled-ok w (calls call n w) (fine.by call n w)

  entered-ok : (fit : Bool) (n : ℕ) (w : World) (o : Option Object) → slice_get w.objects call.object ≡ o → CalledOk w (entered p calls m call fit n w o)
  entered-ok fit n w None there = tt
  entered-ok fit n w (Some object) there = admitted-ok n w object there (admission m.mark call.method fit object) (admission-kin m.mark call.method fit object)

  through-ok : (called : Called) (n : ℕ) (w : World) → CalledOk w (through p calls m called call n w)
  through-ok (own k) n w = fine.by call n w
  through-ok (sub x k) n w = entered-ok true n w (slice_get w.objects call.object) refl

-- The remaining items of one method are others.
set-started : (method : ℕ) (left : Option Remaining) (o : Object) → ((x : Remaining) → left ≡ Some x → FirstHasDone x.block x.done) → HasStarted o → HasStarted (set_remaining method left o)
set-started method left o f h = record { by = λ m x e. by_place m x (same_or_other method m o.remaining e) }
  where
    by_place : (m : ℕ) (x : Remaining) → ((method ≡ m) × (left ≡ Some x)) ⊎ (slice_get o.remaining m ≡ Some (Some x)) → FirstHasDone x.block x.done
    by_place m x (inl q) = f x q.1
    by_place m x (inr q) = h.by m x q

remaining-started : (w : World) (call : Call) (x : Remaining) → Started w → remaining_of w call ≡ Some x → FirstHasDone x.block x.done
remaining-started w call x h e = by_object (slice_get w.objects call.object) refl e
  where
    by_entry : (o : Object) → HasStarted o → (q : Option (Option Remaining)) → slice_get o.remaining call.method ≡ q → unwrap_or q None ≡ Some x → FirstHasDone x.block x.done
    by_entry o j None a c = absurd (cc (c))
    by_entry o j (Some q) a c = j.by call.method x (a ∙ ap Some c)

    by_object : (o : Option Object) → slice_get w.objects call.object ≡ o → option_and_then (λ it. unwrap_or (slice_get it.remaining call.method) None) o ≡ Some x → FirstHasDone x.block x.done
    by_object None a c = absurd (cc (c))
    by_object (Some it) a c = by_entry it (all_at HasStarted w.objects call.object it h a) (slice_get it.remaining call.method) refl c

-- The runs of bodies.
self-rel : (w : World) → Rel w w
self-rel w k = k

on-rel : (u v w : World) → Rel u v → Rel v w → Rel u w
on-rel u v w h k j = k (h j)

module _ (p : PackageTree) where
  module _ (calls : Callees) (fine : CalleesOk calls) (m : MethodTree) (call : Call) where
    callee-ok : (n : ℕ) (called : Called) (callee : MethodTree) (object : ℕ) (values : List Value) (vars : Vars) → Any called → slice_get p.methods (number_of called) ≡ Some callee → receiver_of (body_of p m call) called vars ≡ Some object
        → CalledOk vars.world (through p calls callee called (record { object = object; method = number_of called; args = values }) n vars.world)
    callee-ok n called callee object values vars may known receives = through-ok p calls fine callee (record { object = object; method = number_of called; args = values }) called n vars.world

    abbrev Fits : World → At → Type 0
    Fits w x = AtOk (body_of p m call) calls Rel self-rel on-rel same-rel Any callee-ok w x

    abbrev Ends : World → Ending × World → Type 0
    Ends w e = EndOk (body_of p m call) calls Rel self-rel on-rel same-rel Any callee-ok w e

    begins-ok : (w : World) (left : Option Remaining) → ((x : Remaining) → left ≡ Some x → FirstHasDone x.block x.done) → Fits w (begins m w left)
    begins-ok w None f = (self-rel w, ((any-calls m.body, tt), inl refl))
    begins-ok w (Some left) f = (self-rel w, ((any-calls left.block, any-after left.behind), inr (f left refl)))

    left-ok : (w : World) → Started w → (o : Outcome (Ending × World)) → AnswersWith (Ends w) o → AnswersWith (λ (it : Answered × World). Started it.1) (left_over call o)
    left-ok w k (Got left (gives a, u)) h = h k
    left-ok w k (Got left (suspends status items, u)) h =
        all_updated HasStarted _ call.object u.objects (λ o j. set-started call.method (Some items) o (λ x e. let P : Remaining → Type 0 = λ y. FirstHasDone y.block y.done in subst P (some_same items x e) h.1.1) j) (h.0 k)
    left-ok w k More h = tt
    left-ok w k Lost h = tt

    taken-started : (w : World) → Started w → Started (taken_up call w)
    taken-started w h = all_updated HasStarted _ call.object w.objects (λ o j. set-started call.method None o (λ x e. absurd (cc (e))) j) h

    run-ok : (n : ℕ) (w : World) → Started w → AnswersWith (λ (it : Answered × World). Started it.1) (body_run p calls m call n w)
    run-ok zero w k = tt
    run-ok (suc left) w k =
        left-ok (taken_up call w) (taken-started w k) _
        (run_keeps (step (body_of p m call) calls) weight (Fits (taken_up call w)) (Ends (taken_up call w)) (λ n x h. step-ok (body_of p m call) calls Rel self-rel on-rel same-rel Any callee-ok n (taken_up call w) x h) left _
        (begins-ok (taken_up call w) (remaining_of w call) (λ x e. remaining-started w call x k e)))

  given : (w : World) (o : Outcome (Answered × World)) → (Started w → AnswersWith (λ (it : Answered × World). Started it.1) o) → CalledOk w o
  given w (Got left it) h = h
  given w More h = tt
  given w Lost h = tt

  if-ok : (calls : Callees) → CalleesOk calls → (m : Option MethodTree) (call : Call) (n : ℕ) (w : World) → CalledOk w (run_if p calls m call n w)
  if-ok calls fine None call n w = tt
  if-ok calls fine (Some m) call n w = given w (body_run p calls m call n w) (run-ok calls fine m call n w)

  test-ok : (test : Bool) (w : World) (o o' : Outcome (Answered × World)) → CalledOk w o → CalledOk w o' → CalledOk w (if test then o else o')
  test-ok true w o o' h k = h
  test-ok false w o o' h k = k

  bodies-ok : (ms : List ℕ) → CalleesOk (bodies p ms)
  unfolding bodies
  bodies-ok [] = record { by = λ call n w. tt }
  bodies-ok (m ∷ ms) =
      let inner = bodies-ok ms in
      record { by = λ call n w. test-ok (nat_eq m call.method) w _ _ (if-ok (bodies p ms) inner (slice_get p.methods m) call n w) (inner.by call n w) }

  -- Calls of a host.
  abbrev FineCall : Response (SourceState × Host) → Type 0
  FineCall (answers a after) = IsStarted after.0
  FineCall needs_more = Unit {0}
  FineCall not_defined = Unit {0}

  module _ (state : SourceState) (call : HostCall) (h : Host) (started : IsStarted state) where
    called-ok : (w : World) → Started w → (o : Outcome (Answered × World)) → CalledOk w o → FineCall (called p state call.receiver o)
    called-ok w j (Got left it) k = all_updated AllStarted _ call.receiver state (λ x i. k j) started
    called-ok w j More k = tt
    called-ok w j Lost k = tt

    receiver-ok : (m : MethodTree) (n : ℕ) (o : Option (List Object)) → AllStarted o → FineCall (call_receiver p m state call h n o)
    receiver-ok m n None k = started
    receiver-ok m n (Some objects) k =
        let args = host_values h.arrays m.args call.args in
        let w : World = record { objects = objects; host = h } in
        called-ok w k _ (entered-ok p (all_bodies p) (bodies-ok (reverse p.order)) m (record { object = 0; method = call.method; args = unwrap_or args [] }) (is_some args) n w (slice_get objects 0) refl)

    method-ok : (n : ℕ) (m : Option MethodTree) (r : Option (Option (List Object))) → slice_get state call.receiver ≡ r → FineCall (call_method p state call h n m r)
    method-ok n None r e = tt
    method-ok n (Some m) None e = tt
    method-ok n (Some m) (Some r) e = receiver-ok m n r (all_at AllStarted state call.receiver r started e)

  pub call-started : (state : SourceState) (call : HostCall) (h : Host) (n : ℕ) (a : Answer) (after : SourceState × Host) → IsStarted state → source_call p state call h n ≡ answers a after → IsStarted after.0
  unfolding source_call
  call-started state call h n a after started e =
      let P : Response (SourceState × Host) → Type 0 = FineCall in subst P e (method-ok state call h started n (slice_get p.methods call.method) (slice_get state call.receiver) refl)

-- Inits and fresh receivers.
pub none-there : (n m : ℕ) (left : Remaining) → slice_get (replicate n None) m ≡ Some (Some left) → ⊥
none-there zero m left e = absurd (cc (e))
none-there (suc n) zero left e = absurd (cc (e))
none-there (suc n) (suc m) left e = none-there n m left e

nothing-started : (n : ℕ) (o : Object) → o.remaining ≡ replicate n None → HasStarted o
nothing-started n o e = record { by = λ m left k. absurd (none-there n m left (ap (λ rs. slice_get rs m) (sym e) ∙ k)) }

all-cleared : (objects : List Object) → AllByRecursion HasStarted (map cleared_object objects)
all-cleared [] = tt
all-cleared (o ∷ objects) = (nothing-started (length o.remaining) (cleared_object o) refl, all-cleared objects)

abbrev FineInit : Response SourceState → Type 0
FineInit (answers a after) = IsStarted after
FineInit needs_more = Unit {0}
FineInit not_defined = Unit {0}

init-ok : (p : PackageTree) (state : SourceState) (r : ℕ) (o : Option (Option (List Object))) → IsStarted state → FineInit (init_receiver p state r o)
init-ok p state r None h = tt
init-ok p state r (Some None) h = h
init-ok p state r (Some (Some objects)) h = all_updated AllStarted _ r state (λ x j. all-cleared objects) h

pub init-started : (p : PackageTree) (state : SourceState) (r turns : ℕ) (a : Answer) (after : SourceState) → IsStarted state → source_init p state r turns ≡ answers a after → IsStarted after
unfolding source_init
init-started p state r turns a after h e = let P : Response SourceState → Type 0 = FineInit in subst P e (init-ok p state r (slice_get state r) h)

all-joined : (xs ys : List Object) → AllByRecursion HasStarted xs → AllByRecursion HasStarted ys → AllByRecursion HasStarted (xs ++ ys)
all-joined [] ys h k = k
all-joined (x ∷ xs) ys h k = (h.0, all-joined xs ys h.1 k)

inside-one : (inside : ℕ → ℕ → List Object) → ((s n : ℕ) → AllByRecursion HasStarted (inside s n)) → (next : ℕ) (ty : Ty) → AllByRecursion HasStarted (inside_field inside next ty)
inside-one inside h next (types.Num width lo hi) = tt
inside-one inside h next types.Flag = tt
inside-one inside h next types.Status = tt
inside-one inside h next types.Reader = tt
inside-one inside h next types.Writer = tt
inside-one inside h next (types.Slice width) = tt
inside-one inside h next (types.Array width lo hi count) = tt
inside-one inside h next (types.Part s) = h s.0 next

inside-all : (inside : ℕ → ℕ → List Object) → ((s n : ℕ) → AllByRecursion HasStarted (inside s n)) → (next : ℕ) (xs : List Variable) → AllByRecursion HasStarted (inside_fields inside next xs)
inside-all inside h next [] = tt
inside-all inside h next (x ∷ xs) = all-joined _ _ (inside-one inside h next x.ty) (inside-all inside h (next + length (inside_field inside next x.ty)) xs)

raw-started : (p : PackageTree) (levels s n : ℕ) → AllByRecursion HasStarted (raw_objects p levels s n)
raw-started p zero s n = tt
raw-started p (suc levels) s n = (nothing-started (length p.methods) _ refl, inside-all (raw_objects p levels) (raw-started p levels) (n + 1) (fields_of p s))

one-fresh : (p : PackageTree) (null : Bool) (s : ℕ) → AllStarted (fresh_receiver p null s)
one-fresh p true s = tt
one-fresh p false s = raw-started p (suc (length p.structs)) s 0

pub fresh-started : (p : PackageTree) (receivers : List Receiver) → IsStarted (fresh_state p receivers)
fresh-started p [] = tt
fresh-started p (r ∷ receivers) = (one-fresh p r.null r.struct_number, fresh-started p receivers)
