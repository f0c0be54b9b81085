-- After whatever a host may have done, each status in a receiver is one of the package's, and so is each that a call answers.
use Rattle.std.proofs.Common.{◌≡◌, ℕ, zero, suc, ◌+◌, ◌<◌, Bool, true, false, List, [], ◌∷◌, ◌++◌, length, map, Option, Some, None, refl, subst, arith}
use Rattle.std.specs.Prelude.{slice_get, if◌then◌else◌, is_some, nat_le, ◌&&◌, nat_lt, reverse, unwrap_or}
use Rattle.std.specs.List.{AllByRecursion, list_all}
use Rattle.std.proofs.lemmas.Bool.{and_parts}
use Rattle.turns.specs.Run.{Outcome, Got, More, Lost}
use Rattle.turns.specs.Steps.{AnswersWith}
use Rattle.wf_text.specs.HostActions.{HostArg, Receiver, HostAction, init, call, put, close, compact, replace}
use Rattle.wf_text.specs.HostActions as host
use Rattle.wf_base.specs.BaseOps.{Buffer}
use Rattle.wf_base.specs.HostRun.{Host, HostCall, Response, answers, needs_more, not_defined, act, beside, empty_host}
use Rattle.wf_ast.specs.declared.types.Ty.{Ty}
use Rattle.wf_ast.specs.declared.types.Ty.TheVariants as types
use Rattle.wf_ast.specs.TypedPackage.{Variable, MethodTree, PackageTree}
use Rattle.wf_ast.specs.Value.{Value, num}
use Rattle.wf_ast.specs.WellTyped.{answers_always, may_be_arg, may_be_local, may_be_result, well_method, well_typed}
use Rattle.wf_meaning.specs.SourceState.{Held, held_num, held_truth, held_status, held_cells, held_part, Object, SourceState, cleared, cleared_object, fields_of, fresh_field, fresh_fields, fresh_receiver, fresh_state, inside_field, inside_fields, raw_objects}
use Rattle.wf_meaning.specs.Entry.{Answered}
use Rattle.wf_meaning.specs.World.{World}
use Rattle.wf_meaning.specs.SourceCall.{all_bodies, call_method, called, cons_value, entry_of, host_value, host_values, init_receiver, source_call, source_init, source_steps}
use Rattle.wf_meaning.proofs.Lists2.{all_at, all_map, all_replicate, all_updated}
use Rattle.wf_sound.proofs.StatementLaw.{item-holds, methods-well}
use Rattle.wf_mean_laws.specs.Kinds.{after_answer, stands_after}
use Rattle.wf_mean_laws.proofs.Statuses.{BlockKnown, EntryKnown, HeldKnown, ObjectKnown, ValueKnown, block-known}
use Rattle.wf_mean_laws.proofs.StatusSteps.{AnswerKnown, CalledKnown, CalleesKnown, OptionKnown, base-known, bodies-known, entered-known}

all-append : {X : Type 0} (P : X → Type 0) (xs ys : List X) → AllByRecursion P xs → AllByRecursion P ys → AllByRecursion P (xs ++ ys)
all-append P [] ys h k = k
all-append P (x ∷ xs) ys h k = (h.0, all-append P xs ys h.1 k)

module _ (p : PackageTree) (typed : well_typed p ≡ true) (many : 9 < length p.statuses) where
  abbrev ReceiverKnown : Option (List Object) → Type 0
  ReceiverKnown None = Unit {0}
  ReceiverKnown (Some objects) = AllByRecursion (ObjectKnown p) objects

  abbrev StateKnown : SourceState → Type 0
  StateKnown state = AllByRecursion ReceiverKnown state

  -- The bodies of the package's methods.
  body-written : (k : ℕ) (m : MethodTree) → slice_get p.methods k ≡ Some m → BlockKnown p m.body
  body-written k m e =
      let w : well_method p m ≡ true = item-holds (well_method p) p.methods k m (methods-well p typed) e in
      let a = and_parts (nat_lt m.of (length p.structs)) _ w in
      let b = and_parts (list_all (λ x. may_be_arg x.ty) m.args) _ a.1 in
      let c = and_parts (list_all (λ x. may_be_local x.ty) m.locals) _ b.1 in
      let d = and_parts (may_be_result m.mark m.gives) _ c.1 in
      let f = and_parts (answers_always m.mark m.gives m.body) _ d.1 in
      block-known p (record { within = p; method = m }) refl [] m.body f.1

  callees : CalleesKnown p many (all_bodies p)
  callees = bodies-known p many body-written (reverse p.order)

  -- A host's arguments.
  host-value : (arrays : List (List ℕ)) (ty : Ty) (arg : HostArg) → OptionKnown p many (host_value arrays ty arg)
  host-value arrays (types.Num width lo hi) (host.num n) = by (nat_le lo n && nat_le n hi)
    where
      by : (t : Bool) → OptionKnown p many (if t then Some (num n) else None)
      by true = tt
      by false = tt
  host-value arrays types.Flag (host.flag b) = tt
  host-value arrays types.Reader (host.io None) = tt
  host-value arrays types.Reader (host.io (Some k)) = tt
  host-value arrays types.Writer (host.io None) = tt
  host-value arrays types.Writer (host.io (Some k)) = tt
  host-value arrays (types.Slice width) (host.bytes None) = tt
  host-value arrays (types.Slice width) (host.bytes (Some a)) = tt
  host-value arrays ty arg = tt

  abbrev ArgsKnown : Option (List Value) → Type 0
  ArgsKnown None = Unit {0}
  ArgsKnown (Some vs) = AllByRecursion (ValueKnown p) vs

  host-args : (arrays : List (List ℕ)) (xs : List Variable) (args : List HostArg) → ArgsKnown (host_values arrays xs args)
  host-args arrays [] [] = tt
  host-args arrays (x ∷ xs) (arg ∷ args) = consed (host_value arrays x.ty arg) (host_values arrays xs args) (host-value arrays x.ty arg) (host-args arrays xs args)
    where
      consed : (v : Option Value) (vs : Option (List Value)) → OptionKnown p many v → ArgsKnown vs → ArgsKnown (cons_value v vs)
      consed None vs h k = tt
      consed (Some v) None h k = tt
      consed (Some v) (Some vs) h k = (h, k)
  host-args arrays xs args = tt

  args-there : (o : Option (List Value)) → ArgsKnown o → AllByRecursion (ValueKnown p) (unwrap_or o [])
  args-there None h = tt
  args-there (Some vs) h = h

  entry-known : (m : MethodTree) (it : HostCall) (h : Host) (n : ℕ) (objects : List Object) → AllByRecursion (ObjectKnown p) objects
      → AnswersWith (CalledKnown p many) (entry_of p m it.method (host_values h.arrays m.args it.args) n (record { objects = objects; host = h }))
  entry-known m it h n objects known =
      let w : World = record { objects = objects; host = h } in
      let vs : Option (List Value) = host_values h.arrays m.args it.args in
      entered-known p many p (all_bodies p) callees n m (record { object = 0; method = it.method; args = unwrap_or vs [] }) (is_some vs) w (args-there vs (host-args h.arrays m.args it.args)) (record { objects = known }) (slice_get w.objects 0) refl

  -- What actions leave.
  abbrev AfterKnown : Response (SourceState × Host) → Type 0
  AfterKnown (answers a after) = StateKnown after.0
  AfterKnown needs_more = Unit {0}
  AfterKnown not_defined = Unit {0}

  call-known : (state : SourceState) (it : HostCall) (h : Host) (n : ℕ) → StateKnown state → AfterKnown (source_call p state it h n)
  unfolding source_call
  call-known state it h n known = by (slice_get p.methods it.method) (slice_get state it.receiver) refl
    where
      ran : (o : Outcome (Answered × World)) → AnswersWith (CalledKnown p many) o → AfterKnown (called p state it.receiver o)
      ran (Got left done) k = all_updated ReceiverKnown (λ _. Some done.1.objects) it.receiver state (λ x y. k.1.objects) known
      ran More k = tt
      ran Lost k = tt

      by : (m : Option MethodTree) (o : Option (Option (List Object))) → slice_get state it.receiver ≡ o → AfterKnown (call_method p state it h n m o)
      by None None e = tt
      by None (Some o) e = tt
      by (Some m) None e = tt
      by (Some m) (Some None) e = known
      by (Some m) (Some (Some objects)) e = ran (entry_of p m it.method (host_values h.arrays m.args it.args) n (record { objects = objects; host = h })) (entry-known m it h n objects (all_at ReceiverKnown state it.receiver (Some objects) known e))

  cleared-known : (o : Object) → ObjectKnown p o → ObjectKnown p (cleared_object o)
  cleared-known o h = record { fields = all_map (HeldKnown p) (HeldKnown p) cleared o.fields zero-held h.fields; remaining = all_replicate (EntryKnown p) None (length o.remaining) tt }
    where
      zero-held : (x : Held) → HeldKnown p x → HeldKnown p (cleared x)
      zero-held (held_num n) k = tt
      zero-held (held_truth b) k = tt
      zero-held (held_status n) k = base-known p many 0 (omega arith)
      zero-held (held_cells cells) k = tt
      zero-held (held_part part) k = tt

  init-known : (state : SourceState) (h : Host) (k n : ℕ) → StateKnown state → AfterKnown (beside h (source_init p state k n))
  unfolding source_init
  init-known state h k n known = by (slice_get state k) refl
    where
      by : (o : Option (Option (List Object))) → slice_get state k ≡ o → AfterKnown (beside h (init_receiver p state k o))
      by None e = tt
      by (Some None) e = known
      by (Some (Some objects)) e =
          all_updated ReceiverKnown (λ _. Some (map cleared_object objects)) k state (λ x y. all_map (ObjectKnown p) (ObjectKnown p) cleared_object objects cleared-known (all_at ReceiverKnown state k (Some objects) known e)) known

  action-known : (state : SourceState) (h : Host) (action : HostAction Buffer) → StateKnown state → AfterKnown (act (source_steps p) state h action)
  action-known state h (init k within) known = init-known state h k within known
  action-known state h (call k method args within) known = call-known state (record { receiver = k; method = method; args = args }) h within known
  action-known state h (put k more) known = known
  action-known state h (close k) known = known
  action-known state h (compact k) known = known
  action-known state h (replace others strings) known = known

  actions-known : (actions : List (HostAction Buffer)) (state : SourceState) (h : Host) (after : SourceState) (left : Host) → StateKnown state → stands_after (source_steps p) state h actions ≡ Some (after, left) → StateKnown after
  actions-known [] state h after left known e =
      let same : (state, h) ≡ (after, left) = cc (e) in
      let P : SourceState × Host → Type 0 = λ it. StateKnown it.0 in
      subst P same known
  actions-known (action ∷ actions) state h after left known e = by (act (source_steps p) state h action) (action-known state h action known) (λ state h known e. actions-known actions state h after left known e) e
    where
      by : (r : Response (SourceState × Host)) → AfterKnown r → ((state : SourceState) (h : Host) → StateKnown state → stands_after (source_steps p) state h actions ≡ Some (after, left) → StateKnown after)
          → after_answer r (λ state h. stands_after (source_steps p) state h actions) ≡ Some (after, left) → StateKnown after
      by (answers answer it) k further e = further it.0 it.1 k e
      by needs_more k further e = absurd (cc (e))
      by not_defined k further e = absurd (cc (e))

  -- Where it begins.
  fresh-held : (next : ℕ) (ty : Ty) → HeldKnown p (fresh_field next ty)
  fresh-held next types.Status = base-known p many 0 (omega arith)
  fresh-held next (types.Num width lo hi) = tt
  fresh-held next types.Flag = tt
  fresh-held next (types.Array width lo hi count) = tt
  fresh-held next (types.Part s) = tt
  fresh-held next types.Reader = tt
  fresh-held next types.Writer = tt
  fresh-held next (types.Slice width) = tt

  fresh-fields : (inside : ℕ → ℕ → List Object) (next : ℕ) (xs : List Variable) → AllByRecursion (HeldKnown p) (fresh_fields inside next xs)
  fresh-fields inside next [] = tt
  fresh-fields inside next (x ∷ xs) = (fresh-held next x.ty, fresh-fields inside (next + length (inside_field inside next x.ty)) xs)

  inside-known : (inside : ℕ → ℕ → List Object) → ((s n : ℕ) → AllByRecursion (ObjectKnown p) (inside s n)) → (next : ℕ) (xs : List Variable) → AllByRecursion (ObjectKnown p) (inside_fields inside next xs)
  inside-known inside h next [] = tt
  inside-known inside h next (x ∷ xs) =
      all-append (ObjectKnown p) (inside_field inside next x.ty) (inside_fields inside (next + length (inside_field inside next x.ty)) xs) (by x.ty) (inside-known inside h (next + length (inside_field inside next x.ty)) xs)
    where
      by : (ty : Ty) → AllByRecursion (ObjectKnown p) (inside_field inside next ty)
      by (types.Part s) = h s.0 next
      by ty = tt

  raw-known : (levels s n : ℕ) → AllByRecursion (ObjectKnown p) (raw_objects p levels s n)
  raw-known zero s n = tt
  raw-known (suc levels) s n =
      (record { fields = fresh-fields (raw_objects p levels) (n + 1) (fields_of p s); remaining = all_replicate (EntryKnown p) None (length p.methods) tt }, inside-known (raw_objects p levels) (raw-known levels) (n + 1) (fields_of p s))

  fresh-known : (receivers : List Receiver) → StateKnown (fresh_state p receivers)
  fresh-known [] = tt
  fresh-known (r ∷ rs) = (by r.null r.struct_number, fresh-known rs)
    where
      by : (null : Bool) (s : ℕ) → ReceiverKnown (fresh_receiver p null s)
      by true s = tt
      by false s = raw-known (suc (length p.structs)) s 0

  pub answer-known : (receivers : List Receiver) (actions : List (HostAction Buffer)) (state : SourceState) (h : Host) → stands_after (source_steps p) (fresh_state p receivers) empty_host actions ≡ Some (state, h) → (it : HostCall) (m : MethodTree) (objects : List Object)
      → slice_get state it.receiver ≡ Some (Some objects) → (n left : ℕ) (a : Answered × World) → entry_of p m it.method (host_values h.arrays m.args it.args) n (record { objects = objects; host = h }) ≡ Got left a → AnswerKnown p many a.0
  answer-known receivers actions state h led it m objects there n left a e =
      let known : StateKnown state = actions-known actions (fresh_state p receivers) empty_host state h (fresh-known receivers) led in
      let P : Outcome (Answered × World) → Type 0 = AnswersWith (CalledKnown p many) in
      (subst P e (entry-known m it h n objects (all_at ReceiverKnown state it.receiver (Some objects) known there))).0
