-- The runs of an accepted package: no action that a host may perform is stuck.
use Rattle.std.proofs.Common.{◌≡◌, inl, inr, ℕ, zero, suc, ◌^◌, ◌<◌, Bool, true, false, List, [], ◌∷◌, length, map, Option, Some, None, refl, sym, ap, ◌∙◌, subst, nat_eq, arith}
use Rattle.std.specs.Prelude.{slice_get, slice_set, option_map, option_and_then, find, All, IsSomeAnd, ⊤}
use Rattle.std.specs.Option.{option_map_or}
use Rattle.std.proofs.lemmas.List.Elements.{All-head, All-tail}
use Rattle.std.proofs.lemmas.Option.{slice_get-map}
use Rattle.turns.specs.Run.{Outcome, Got, More, Lost}
use Rattle.wf_text.specs.declared.place.Place.{Place}
use Rattle.wf_text.specs.Surface.{PublicArg, PublicStruct, PublicMethod}
use Rattle.wf_text.specs.HostActions.{Receiver, HostAction, init, call, put, close, compact, replace}
use Rattle.wf_text.specs.Seen.{Seen, turns, undefined}
use Rattle.wf_base.specs.BaseOps.{Buffer, AreBytes}
use Rattle.wf_base.specs.BaseOps as ops
use Rattle.wf_base.specs.HostRun.{Host, HostCall, Response, answers, needs_more, not_defined, empty_host, on_buffer, act, followed}
use Rattle.wf_base.specs.HostRun as host_run
use Rattle.wf_base.specs.LawfulActions.{FitKinds, struct_numbered, method_numbered, method_of, called_method, CanCall, AreDeclared, IsByteArray, MayAct, buffers_behind, arrays_behind, AreLawful}
use Rattle.wf_ast.specs.TypedPackage.{MethodTree, PackageTree, public_structs, public_methods, surface_of}
use Rattle.wf_meaning.specs.SourceState.{Object, SourceState, cleared_object, fresh_receiver, fresh_state}
use Rattle.wf_meaning.specs.Entry.{Answered}
use Rattle.wf_meaning.specs.World.{World, updated}
use Rattle.wf_meaning.specs.SourceCall.{host_values, entry_of, called, call_receiver, call_method, source_call, init_receiver, source_init, source_steps, source_run}
use Rattle.wf_meaning.proofs.Lists.{updated-at, updated-other, length-map}
use Rattle.wf_sound.specs.Callees.{RunsWell}
use Rattle.wf_sound.proofs.BufferWrites.{put-lawful}
use Rattle.wf_sound.proofs.FieldWrites.{same_or_not}
use Rattle.wf_sound_runs.specs.Accepted.{IsAccepted, IsDefined}
use Rattle.wf_sound_runs.proofs.Running.{IsResumable}
use Rattle.wf_sound_runs.proofs.HostWorlds.{ObjectsLawful, HostLawful, objects-of, host-of, cleared-lawful, compact-lawful, close-lawful}
use Rattle.wf_sound_runs.proofs.HostValues.{item-there}
use Rattle.wf_sound_runs.proofs.Surfaces.{kinds_of, struct-found, MethodFound, method-found}
use Rattle.wf_sound_runs.proofs.Fresh.{raw_structs, fresh-lawful}
use Rattle.wf_sound_runs.proofs.Receivers.{entry-runs}

all-at : {X : Type 0} (P : X → Type 0) (xs : List X) (i : ℕ) (x : X) → All P xs → slice_get xs i ≡ Some x → P x
all-at P [] i x h e = absurd (cc (e))
all-at P (y ∷ xs) zero x h e = let same : y ≡ x = cc (e) in subst P same (All-head P y xs h)
all-at P (y ∷ xs) (suc i) x h e = all-at P xs i x (All-tail P y xs h) e

set-same : {X : Type 0} (xs : List X) (i : ℕ) (x y : X) → slice_get xs i ≡ Some y → slice_get (slice_set xs i x) i ≡ Some x
set-same [] i x y e = absurd (cc (e))
set-same (z ∷ xs) zero x y e = refl
set-same (z ∷ xs) (suc i) x y e = set-same xs i x y e

set-other : {X : Type 0} (xs : List X) (i j : ℕ) (x : X) → (i ≡ j → ⊥) → slice_get (slice_set xs i x) j ≡ slice_get xs j
set-other [] i j x h = refl
set-other (z ∷ xs) zero zero x h = absurd (h refl)
set-other (z ∷ xs) zero (suc j) x h = refl
set-other (z ∷ xs) (suc i) zero x h = refl
set-other (z ∷ xs) (suc i) (suc j) x h = set-other xs i j x (λ e. h (ap suc e))

module _ (local_at : ℕ → ℕ → Place) (p : PackageTree) (accepted : IsAccepted local_at p) (receivers : List Receiver) where
  abbrev pub ReceiverLawful : Option (List Object) → ℕ → Type 0
  ReceiverLawful None s = Unit {0}
  ReceiverLawful (Some objects) s = (structs : List ℕ) × (slice_get structs 0 ≡ Some s) × ObjectsLawful p structs objects

  pub record Stood (state : SourceState) (r : ℕ) (receiver : Receiver) : Type 0 where
    pub of : Option (List Object)
    pub is : slice_get state r ≡ Some of
    pub lawful : ReceiverLawful of receiver.struct_number

  pub record IsStanding (lens : List ℕ) (buffers : ℕ) (state : SourceState) (h : Host) : Type 0 where
    pub each : (r : ℕ) (receiver : Receiver) → slice_get receivers r ≡ Some receiver → Stood state r receiver
    pub host : HostLawful p lens buffers h
    pub short : (a len : ℕ) → slice_get lens a ≡ Some len → len < 2 ^ 64

  abbrev pub Answers : (lens : List ℕ) → (buffers : ℕ) → Response (SourceState × Host) → Type 0
  Answers lens buffers (answers a after) = IsStanding lens buffers after.0 after.1
  Answers lens buffers needs_more = Unit {0}
  Answers lens buffers not_defined = ⊥

  -- One receiver is replaced.
  replaced : (state : SourceState) → ((r : ℕ) (receiver : Receiver) → slice_get receivers r ≡ Some receiver → Stood state r receiver) → (r : ℕ) (receiver : Receiver) → slice_get receivers r ≡ Some receiver
      → (objects : List Object) → ReceiverLawful (Some objects) receiver.struct_number → (k : ℕ) (other : Receiver) → slice_get receivers k ≡ Some other → Stood (updated (λ _. Some objects) r state) k other
  replaced state each r receiver e objects lawful k other f = elim (same_or_not k r) [
    | inl is ↦ here is
    | inr not ↦ let old : Stood state k other = each k other f in record { of = old.of; is = updated-other (λ _. Some objects) r k state not ∙ old.is; lawful = old.lawful }
  ]
    where
      here : k ≡ r → Stood (updated (λ _. Some objects) r state) k other
      here is =
          let old : Stood state r receiver = each r receiver e in
          let same : receiver ≡ other = cc (e, f, is) in
          let P : Receiver → Type 0 = λ other. ReceiverLawful (Some objects) other.struct_number in
          record { of = Some objects; is = ap (slice_get (updated (λ _. Some objects) r state)) is ∙ updated-at (λ _. Some objects) r state old.of old.is; lawful = subst P same lawful }

  -- An init.
  init-stands : (lens : List ℕ) (buffers : ℕ) (state : SourceState) (h : Host) (r within : ℕ) → r < length receivers → IsStanding lens buffers state h → Answers lens buffers (host_run.beside h (source_init p state r within))
  unfolding source_init
  init-stands lens buffers state h r within l stands =
      let it = item-there receivers r l in
      let old : Stood state r it.0 = stands.each r it.0 it.1 in
      let P : Option (Option (List Object)) → Type 0 = λ o. Answers lens buffers (host_run.beside h (init_receiver p state r o)) in
      subst P (sym old.is) (by it.0 it.1 old.of old.lawful)
    where
      by : (receiver : Receiver) → slice_get receivers r ≡ Some receiver → (o : Option (List Object)) → ReceiverLawful o receiver.struct_number → Answers lens buffers (host_run.beside h (init_receiver p state r (Some o)))
      by receiver e None lawful = stands
      by receiver e (Some objects) lawful = record {
        each = replaced state stands.each r receiver e (map cleared_object objects) (lawful.0, lawful.1, cleared-lawful p accepted.typed lawful.0 objects lawful.2);
        host = stands.host;
        short = stands.short;
      }

  -- What a call means.
  pub record CallFound (buffers arrays : ℕ) (it : HostCall) : Type 0 where
    pub receiver : Receiver
    pub at : slice_get receivers it.receiver ≡ Some receiver
    pub m : MethodTree
    pub numbered : slice_get p.methods it.method ≡ Some m
    pub of : m.of ≡ receiver.struct_number
    pub fits : FitKinds buffers arrays (kinds_of m.args) it.args

  module _ (buffers arrays : ℕ) (it : HostCall) where
    abbrev Fit : PublicMethod → Type 0
    Fit method = FitKinds buffers arrays method.args it.args

    found-method : (receiver : Receiver) → slice_get receivers it.receiver ≡ Some receiver → (s : PublicStruct) → s.methods ≡ public_methods receiver.struct_number 0 p.methods → (o : Option PublicMethod) → method_numbered it.method s ≡ o → IsSomeAnd o Fit → CallFound buffers arrays it
    found-method receiver at s methods None e f = absurd f
    found-method receiver at s methods (Some method) e f =
        let P : List PublicMethod → Type 0 = λ xs. find (λ method. nat_eq method.number it.method) xs ≡ Some method in
        let g : MethodFound receiver.struct_number 0 p.methods it.method method = method-found receiver.struct_number 0 p.methods it.method method (subst P methods e) in
        let same : g.place ≡ it.method = omega (arith, g.number) in
        let Q : List PublicArg → Type 0 = λ args. FitKinds buffers arrays args it.args in
        record { receiver = receiver; at = at; m = g.m; numbered = ap (slice_get p.methods) (sym same) ∙ g.at; of = g.of; fits = subst Q g.args f }

    found-struct : (receiver : Receiver) → slice_get receivers it.receiver ≡ Some receiver → (o : Option PublicStruct) → find (λ s. nat_eq s.number receiver.struct_number) (public_structs p.methods 0 p.structs) ≡ o
        → IsSomeAnd (option_and_then (method_numbered it.method) o) Fit → CallFound buffers arrays it
    found-struct receiver at None e f = absurd f
    found-struct receiver at (Some s) e f = found-method receiver at s (struct-found p.methods 0 p.structs receiver.struct_number s e) (method_numbered it.method s) refl f

    pub call-found : IsSomeAnd (called_method (surface_of p) receivers it) Fit → CallFound buffers arrays it
    unfolding surface_of
    call-found f = by (slice_get receivers it.receiver) refl f
      where
        by : (o : Option Receiver) → slice_get receivers it.receiver ≡ o → IsSomeAnd (option_and_then (method_of (surface_of p) it.method) o) Fit → CallFound buffers arrays it
        by None e f = absurd f
        by (Some receiver) e f = found-struct receiver e (find (λ s. nat_eq s.number receiver.struct_number) (public_structs p.methods 0 p.structs)) refl f

  -- A call.
  call-stands : (lens : List ℕ) (buffers : ℕ) (state : SourceState) (h : Host) (it : HostCall) (n : ℕ) → CanCall (surface_of p) receivers buffers (length lens) it → IsStanding lens buffers state h → Answers lens buffers (source_call p state it h n)
  unfolding source_call
  call-stands lens buffers state h it n can stands =
      let f : CallFound buffers (length lens) it = call-found buffers (length lens) it can.fit in
      let old : Stood state it.receiver f.receiver = stands.each it.receiver f.receiver f.at in
      let P : Option MethodTree → Type 0 = λ o. Answers lens buffers (call_method p state it h n o (slice_get state it.receiver)) in
      let Q : Option (Option (List Object)) → Type 0 = λ o. Answers lens buffers (call_method p state it h n (Some f.m) o) in
      subst P (sym f.numbered) (subst Q (sym old.is) (by f old.of old.lawful))
    where
      ends : (f : CallFound buffers (length lens) it) (structs : List ℕ) → slice_get structs 0 ≡ Some f.receiver.struct_number → (w : World) (args : _)
          → (o : Outcome (Answered × World)) → RunsWell p (IsResumable p) (record { structs = structs; arrays = lens; buffers = buffers }) f.m args w o → Answers lens buffers (called p state it.receiver o)
      ends f structs first w args (Got left done) k = record {
        each = replaced state stands.each it.receiver f.receiver f.at done.1.objects (structs, first, objects-of p structs lens buffers done.1 k.world);
        host = host-of p structs lens buffers done.1 k.world;
        short = stands.short;
      }
      ends f structs first w args More k = tt
      ends f structs first w args Lost k = k

      by : (f : CallFound buffers (length lens) it) (o : Option (List Object)) → ReceiverLawful o f.receiver.struct_number → Answers lens buffers (call_receiver p f.m state it h n o)
      by f None lawful = stands
      by f (Some objects) lawful =
          let first : slice_get lawful.0 0 ≡ Some f.m.of = lawful.1 ∙ ap (λ n. Some n) (sym f.of) in
          ends f lawful.0 lawful.1 _ _ (entry_of p f.m it.method (host_values h.arrays f.m.args it.args) n (record { objects = objects; host = h }))
          (entry-runs local_at p accepted lawful.0 lens buffers objects h lawful.2 stands.host stands.short it.method f.m it.args n f.numbered first f.fits can.buffers_once)

  -- What the host does to a buffer.
  buffer-stands : (lens : List ℕ) (buffers : ℕ) (state : SourceState) (h : Host) (k : ℕ) (change : Buffer → Buffer) → k < buffers → ((b : Buffer) → ops.IsLawful b → ops.IsLawful (change b)) → IsStanding lens buffers state h → IsStanding lens buffers state (on_buffer k change h)
  buffer-stands lens buffers state h k change l fits stands = by (stands.host.held_buffers k l)
    where
      by : (b : Buffer) × (slice_get h.buffers k ≡ Some b) × ops.IsLawful b → IsStanding lens buffers state (on_buffer k change h)
      by old =
          let P : Option Buffer → Type 0 = λ o. IsStanding lens buffers state (option_map_or (λ b. record { buffers = slice_set h.buffers k (change b); arrays = h.arrays }) o h) in
          subst P (sym old.1) (record { each = stands.each; host = record { arrays = stands.host.arrays; held_buffers = held }; short = stands.short })
        where
          held : (j : ℕ) → j < buffers → (b : Buffer) × (slice_get (slice_set h.buffers k (change old.0)) j ≡ Some b) × ops.IsLawful b
          held j m = elim (same_or_not k j) [
            | inl is ↦ (change old.0, ap (slice_get (slice_set h.buffers k (change old.0))) (sym is) ∙ set-same h.buffers k (change old.0) old.0 old.1, fits old.0 old.2)
            | inr not ↦ let found = stands.host.held_buffers j m in (found.0, set-other h.buffers k j (change old.0) not ∙ found.1, found.2)
          ]

  -- Other buffers and byte arrays.
  replace-stands : (lens : List ℕ) (buffers : ℕ) (state : SourceState) (h : Host) (others : List Buffer) (strings : List (List ℕ)) → All ops.IsLawful others → All IsByteArray strings → IsStanding lens buffers state h
      → IsStanding (map length strings) (length others) state (record { buffers = others; arrays = strings })
  replace-stands lens buffers state h others strings all bytes stands = record {
    each = stands.each;
    host = record {
      arrays = arrays;
      held_buffers = λ k l. let it = item-there others k l in (it.0, it.1, all-at ops.IsLawful others k it.0 all it.1);
    };
    short = λ a len e. let it = array a len e in subst (λ n. n < 2 ^ 64) it.2 (all-at IsByteArray strings a it.0 bytes it.1).1;
  }
    where
      array : (a len : ℕ) → slice_get (map length strings) a ≡ Some len → (cells : List ℕ) × (slice_get strings a ≡ Some cells) × (length cells ≡ len)
      array a len e = by (slice_get strings a) refl (sym (slice_get-map length strings a) ∙ e)
        where
          by : (o : Option (List ℕ)) → slice_get strings a ≡ o → option_map length o ≡ Some len → (cells : List ℕ) × (slice_get strings a ≡ Some cells) × (length cells ≡ len)
          by None i f = absurd (cc (f))
          by (Some cells) i f = (cells, i, cc (f))

      arrays : (a len : ℕ) → slice_get (map length strings) a ≡ Some len → (cells : List ℕ) × (slice_get strings a ≡ Some cells) × (length cells ≡ len) × AreBytes cells
      arrays a len e = let it = array a len e in (it.0, it.1, it.2, (all-at IsByteArray strings a it.0 bytes it.1).0)

  -- One action.
  pub record Acted (lens : List ℕ) (buffers : ℕ) (state : SourceState) (h : Host) (action : HostAction Buffer) : Type 0 where
    pub now : List ℕ
    pub long : length now ≡ arrays_behind action (length lens)
    pub stands : Answers now (buffers_behind action buffers) (act (source_steps p) state h action)

  pub acted : (lens : List ℕ) (buffers : ℕ) (state : SourceState) (h : Host) (action : HostAction Buffer) → MayAct (surface_of p) receivers buffers (length lens) action → IsStanding lens buffers state h → Acted lens buffers state h action
  acted lens buffers state h (init r within) may stands = record { now = lens; long = refl; stands = init-stands lens buffers state h r within may stands }
  acted lens buffers state h (call r method args within) may stands = record { now = lens; long = refl; stands = call-stands lens buffers state h (record { receiver = r; method = method; args = args }) within may stands }
  acted lens buffers state h (put k more) may stands = record { now = lens; long = refl; stands = buffer-stands lens buffers state h k (ops.put more) may.0 (λ b fine. put-lawful more b may.1 fine) stands }
  acted lens buffers state h (close k) may stands = record { now = lens; long = refl; stands = buffer-stands lens buffers state h k ops.close may (λ b fine. close-lawful p b fine) stands }
  acted lens buffers state h (compact k) may stands = record { now = lens; long = refl; stands = buffer-stands lens buffers state h k ops.compact may (λ b fine. compact-lawful p b fine) stands }
  acted lens buffers state h (replace others strings) may stands = record { now = map length strings; long = length-map length strings; stands = replace-stands lens buffers state h others strings may.0 may.1 stands }

  defined-more : (s : Seen) (rest : List Seen) → (s ≡ undefined → ⊥) → IsDefined rest → IsDefined (s ∷ rest)
  defined-more s rest h k = record { never = never }
    where
      never : (i : ℕ) → slice_get (s ∷ rest) i ≡ Some undefined → ⊥
      never zero e = h (cc (e))
      never (suc i) e = k.never i e

  nothing-seen : IsDefined []
  nothing-seen = record { never = λ i e. cc (e) }

  runs : (actions : List (HostAction Buffer)) (lens : List ℕ) (buffers : ℕ) (state : SourceState) (h : Host) → AreLawful (surface_of p) receivers buffers (length lens) actions → IsStanding lens buffers state h → IsDefined (host_run.run (source_steps p) state h actions)
  runs [] lens buffers state h may stands = nothing-seen
  runs (action ∷ actions) lens buffers state h may stands =
      let a : Acted lens buffers state h action = acted lens buffers state h action may.0 stands in
      let P : ℕ → Type 0 = λ n. AreLawful (surface_of p) receivers (buffers_behind action buffers) n actions in
      by a.now (act (source_steps p) state h action) a.stands (λ state h further. runs actions a.now (buffers_behind action buffers) state h (subst P (sym a.long) may.1) further)
    where
      by : (now : List ℕ) (r : Response (SourceState × Host)) → Answers now (buffers_behind action buffers) r → ((state : SourceState) (h : Host) → IsStanding now (buffers_behind action buffers) state h → IsDefined (host_run.run (source_steps p) state h actions))
          → IsDefined (followed r (λ after left. host_run.run (source_steps p) after left actions))
      by now (answers answer after) k further = defined-more _ _ (λ e. absurd (cc (e))) (further after.0 after.1 k)
      by now needs_more k further = defined-more turns [] (λ e. absurd (cc (e))) nothing-seen
      by now not_defined k further = absurd k

  -- Where it begins.
  pub fresh-stands : AreDeclared (surface_of p) receivers → IsStanding [] 0 (fresh_state p receivers) empty_host
  unfolding surface_of
  fresh-stands declared = record {
    each = each;
    host = record { arrays = λ a len e. absurd (cc (e)); held_buffers = λ k l. absurd (omega (arith, l)) };
    short = λ a len e. absurd (cc (e));
  }
    where
      lawful : (null : Bool) (s : ℕ) (o : Option PublicStruct) → find (λ it. nat_eq it.number s) (public_structs p.methods 0 p.structs) ≡ o → IsSomeAnd o (λ _. ⊤) → ReceiverLawful (fresh_receiver p null s) s
      lawful true s o e h = tt
      lawful false s None e h = absurd h
      lawful false s (Some it) e h = (raw_structs p (suc (length p.structs)) s, refl, fresh-lawful p accepted.typed accepted.short s it e)

      each : (r : ℕ) (receiver : Receiver) → slice_get receivers r ≡ Some receiver → Stood (fresh_state p receivers) r receiver
      each r receiver e = record {
        of = fresh_receiver p receiver.null receiver.struct_number;
        is = slice_get-map (λ (r : Receiver). fresh_receiver p r.null r.struct_number) receivers r ∙ ap (option_map (λ (r : Receiver). fresh_receiver p r.null r.struct_number)) e;
        lawful = lawful receiver.null receiver.struct_number (find (λ it. nat_eq it.number receiver.struct_number) (public_structs p.methods 0 p.structs)) refl (all-at (λ (receiver : Receiver). IsSomeAnd (struct_numbered (surface_of p) receiver.struct_number) (λ _. ⊤)) receivers r receiver declared e);
      }

  pub never-stuck : (actions : List (HostAction Buffer)) → AreDeclared (surface_of p) receivers → AreLawful (surface_of p) receivers 0 0 actions → IsDefined (source_run p receivers actions)
  unfolding source_run
  never-stuck actions declared may = runs actions [] 0 (fresh_state p receivers) empty_host may (fresh-stands declared)
