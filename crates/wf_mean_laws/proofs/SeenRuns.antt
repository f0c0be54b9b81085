-- What is seen of the engine of an accepted package is what is seen of its source.
use Rattle.std.proofs.Common.{◌≡◌, ℕ, ◌<◌, false, List, [], ◌∷◌, length, Option, Some, None, refl, sym, ap, ◌∙◌, subst}
use Rattle.std.specs.Prelude.{slice_get}
use Rattle.turns.specs.Run.{Outcome as Ran, Got, More, Lost}
use Rattle.wf_text.specs.declared.place.Place.{Place}
use Rattle.wf_text.specs.HostActions.{Receiver, HostAction, init, call, put, close, compact, replace}
use Rattle.wf_text.specs.Seen.{Seen}
use Rattle.wf_base.specs.BaseOps.{Buffer}
use Rattle.wf_base.specs.HostRun.{Host, HostCall, Response, answers, needs_more, not_defined, Steps, act, beside, followed, seen_of, empty_host, run}
use Rattle.wf_base.specs.LawfulActions.{AreDeclared, AreLawful, CanCall, MayAct, buffers_behind}
use Rattle.wf_ast.specs.TypedPackage.{MethodTree, PackageTree, surface_of}
use Rattle.wf_bufs.specs.declared.outcomes.Outcome.{Outcome}
use Rattle.wf_bufs.specs.EngineLaw.{Gives, done, turns, undefined, response_of, steps_of}
use Rattle.wf_bufs.specs.HostViews.{answer_of}
use Rattle.wf_meaning.specs.SourceState.{Object, SourceState, fresh_state}
use Rattle.wf_meaning.specs.Entry.{Answered, bad_receiver, refusal_of}
use Rattle.wf_meaning.specs.World.{World, updated}
use Rattle.wf_meaning.specs.SourceCall.{entry_of, host_values, source_call, source_init, source_run, source_steps}
use Rattle.wf_mean.specs.SourceEngines.{EngineState, call_gives, given, given_if, init_gives, init_of, kind_told, method_gives, outcome_of, receiver_gives, surface_told}
use Rattle.wf_mean.specs.Told.{CallTold, InitTold}
use Rattle.wf_mean.proofs.ToldLaws.{call-seen, init-seen}
use Rattle.wf_sound_runs.specs.Accepted.{IsAccepted, IsDefined}
use Rattle.wf_sound_runs.proofs.HostValues.{item-there}
use Rattle.wf_sound_runs.proofs.Runs.{Acted, Answers, CallFound, Stood, acted, call-found, fresh-stands, never-stuck}
use Rattle.wf_mean_laws.specs.SourceSeen.{AcceptedPackagesAreSeen, engine_run}
use Rattle.wf_mean_laws.proofs.AnswerKinds.{HasOutcome, refusal-outcome}
use Rattle.wf_mean_laws.proofs.Reached.{EndsAsOutcome, Standing, call-ends, result-fits}

module _ (places : ℕ → ℕ → Place) (p : PackageTree) (accepted : IsAccepted places p) (ok_first : slice_get p.statuses 0 ≡ Some []) (receivers : List Receiver) where
  -- The engine where the source's receivers stand so.
  abbrev engine_at : SourceState → EngineState
  engine_at state = record { package_tree = p; receivers = receivers; objects = state; stopped = false }

  abbrev engine_steps : Steps EngineState
  engine_steps = steps_of surface_told init_gives call_gives

  abbrev moved : Response (SourceState × Host) → Response (EngineState × Host)
  moved (answers a after) = answers a (engine_at after.0, after.1)
  moved needs_more = needs_more
  moved not_defined = not_defined

  -- A call ends with an outcome or needs more turns, and leaves an engine of the package.
  abbrev CallFits : Gives (EngineState × Host) → Type 0
  CallFits (done outcome after) = after.0 ≡ engine_at after.0.objects
  CallFits turns = Unit {0}
  CallFits undefined = ⊥

  call-moved : (gives : Gives (EngineState × Host)) (response : Response (SourceState × Host)) → CallTold p gives response → CallFits gives → response_of (surface_of p) gives ≡ moved response
  call-moved (done outcome after) response told fits =
      rw told
      (ap (λ (e : EngineState). answers (answer_of (surface_of p) outcome) (e, after.1)) fits)
  call-moved turns response told fits = rw told refl
  call-moved undefined response told fits = absurd fits

  fits-if : (o : Option Outcome) (outcome : Outcome) (after : SourceState) (left : Host) → o ≡ Some outcome → CallFits (given_if o (engine_at after, left))
  fits-if None outcome after left e = absurd (cc (e))
  fits-if (Some other) outcome after left e = refl

  refused : (k : ℕ) (m : MethodTree) → slice_get p.methods k ≡ Some m → HasOutcome p m (refusal_of m bad_receiver)
  refused k m e = refusal-outcome p m bad_receiver (result-fits places p accepted receivers k m e)

  call-fits : (lens : List ℕ) (buffers : ℕ) (state : SourceState) (h : Host) (it : HostCall) (n : ℕ) → CanCall (surface_of p) receivers buffers (length lens) it → Standing places p accepted receivers lens buffers state h → CallFits (call_gives (engine_at state) it h n)
  unfolding call_gives
  call-fits lens buffers state h it n can stands =
      let f : CallFound places p accepted receivers buffers (length lens) it = call-found places p accepted receivers buffers (length lens) it can.fit in
      let old : Stood places p accepted receivers state it.receiver f.receiver = stands.each it.receiver f.receiver f.at in
      let P : Option MethodTree → Type 0 = λ o. CallFits (method_gives (engine_at state) it h n o (slice_get state it.receiver)) in
      let Q : Option (Option (List Object)) → Type 0 = λ o. CallFits (method_gives (engine_at state) it h n (Some f.m) o) in
      subst P (sym f.numbered) (subst Q (sym old.is) (by f.m f.numbered old.of old.is))
    where
      ended : (m : MethodTree) (o : Ran (Answered × World)) → EndsAsOutcome places p accepted receivers m o → CallFits (given (engine_at state) (kind_told m) it.receiver o)
      ended m (Got left ran) k = fits-if (outcome_of p (kind_told m) ran.0) k.outcome (updated (λ _. Some ran.1.objects) it.receiver state) ran.1.host k.is
      ended m More k = tt
      ended m Lost k = k

      by : (m : MethodTree) → slice_get p.methods it.method ≡ Some m → (o : Option (List Object)) → slice_get state it.receiver ≡ Some o → CallFits (receiver_gives (engine_at state) m it h n o)
      by m numbered None at = let r : HasOutcome p m (refusal_of m bad_receiver) = refused it.method m numbered in fits-if (outcome_of p (kind_told m) (refusal_of m bad_receiver)) r.outcome state h r.is
      by m numbered (Some objects) at =
          ended m (entry_of p m it.method (host_values h.arrays m.args it.args) n (record { objects = objects; host = h }))
          (call-ends places p accepted receivers lens buffers state h it n can stands m objects numbered at)

  call-same : (lens : List ℕ) (buffers : ℕ) (state : SourceState) (h : Host) (it : HostCall) (n : ℕ) → CanCall (surface_of p) receivers buffers (length lens) it → Standing places p accepted receivers lens buffers state h
      → response_of (surface_of p) (call_gives (engine_at state) it h n) ≡ moved (source_call p state it h n)
  call-same lens buffers state h it n can stands =
      call-moved (call_gives (engine_at state) it h n) (source_call p state it h n) (call-seen (engine_at state) it h n ok_first) (call-fits lens buffers state h it n can stands)

  -- An init likewise. Its receiver is there.
  abbrev InitFits : Gives EngineState → Type 0
  InitFits (done outcome after) = after ≡ engine_at after.objects
  InitFits turns = Unit {0}
  InitFits undefined = ⊥

  init-moved : (h : Host) (gives : Gives EngineState) (response : Response SourceState) → InitTold p gives response → InitFits gives → beside h (response_of (surface_of p) gives) ≡ moved (beside h response)
  init-moved h (done outcome after) response told fits = rw told (ap (λ (e : EngineState). answers (answer_of (surface_of p) outcome) (e, h)) fits)
  init-moved h turns response told fits = rw told refl
  init-moved h undefined response told fits = absurd fits

  init-fits : (state : SourceState) (k n : ℕ) (o : Option (List Object)) → slice_get state k ≡ Some o → InitFits (init_gives (engine_at state) k n)
  unfolding init_gives
  init-fits state k n o e = let P : Option (Option (List Object)) → Type 0 = λ o. InitFits (init_of (engine_at state) k o) in subst P (sym e) (by o)
    where
      by : (o : Option (List Object)) → InitFits (init_of (engine_at state) k (Some o))
      by None = refl
      by (Some objects) = refl

  init-same : (lens : List ℕ) (buffers : ℕ) (state : SourceState) (h : Host) (k n : ℕ) → k < length receivers → Standing places p accepted receivers lens buffers state h
      → beside h (response_of (surface_of p) (init_gives (engine_at state) k n)) ≡ moved (beside h (source_init p state k n))
  init-same lens buffers state h k n there stands =
      let r = item-there receivers k there in
      let old : Stood places p accepted receivers state k r.0 = stands.each k r.0 r.1 in
      init-moved h (init_gives (engine_at state) k n) (source_init p state k n) (init-seen (engine_at state) k n) (init-fits state k n old.of old.is)

  -- One action.
  acts-same : (lens : List ℕ) (buffers : ℕ) (state : SourceState) (h : Host) (action : HostAction Buffer) → MayAct (surface_of p) receivers buffers (length lens) action → Standing places p accepted receivers lens buffers state h
      → act engine_steps (engine_at state) h action ≡ moved (act (source_steps p) state h action)
  acts-same lens buffers state h (init k within) may stands = init-same lens buffers state h k within may stands
  acts-same lens buffers state h (call k method args within) may stands = call-same lens buffers state h (record { receiver = k; method = method; args = args }) within may stands
  acts-same lens buffers state h (put k more) may stands = refl
  acts-same lens buffers state h (close k) may stands = refl
  acts-same lens buffers state h (compact k) may stands = refl
  acts-same lens buffers state h (replace others strings) may stands = refl

  -- All of them.
  runs-same : (actions : List (HostAction Buffer)) (lens : List ℕ) (buffers : ℕ) (state : SourceState) (h : Host) → AreLawful (surface_of p) receivers buffers (length lens) actions → Standing places p accepted receivers lens buffers state h
      → run engine_steps (engine_at state) h actions ≡ run (source_steps p) state h actions
  runs-same [] lens buffers state h may stands = refl
  runs-same (action ∷ actions) lens buffers state h may stands =
      let a : Acted places p accepted receivers lens buffers state h action = acted places p accepted receivers lens buffers state h action may.0 stands in
      let P : ℕ → Type 0 = λ n. AreLawful (surface_of p) receivers (buffers_behind action buffers) n actions in
      ap (λ (r : Response (EngineState × Host)). followed r (λ after left. run engine_steps after left actions)) (acts-same lens buffers state h action may.0 stands)
      ∙ by a.now (act (source_steps p) state h action) a.stands (λ state h further. runs-same actions a.now (buffers_behind action buffers) state h (subst P (sym a.long) may.1) further)
    where
      by : (now : List ℕ) (r : Response (SourceState × Host)) → Answers places p accepted receivers now (buffers_behind action buffers) r
          → ((state : SourceState) (h : Host) → Standing places p accepted receivers now (buffers_behind action buffers) state h → run engine_steps (engine_at state) h actions ≡ run (source_steps p) state h actions)
          → followed (moved r) (λ after left. run engine_steps after left actions) ≡ followed r (λ after left. run (source_steps p) after left actions)
      by now (answers a after) k further = ap (λ (rest : List Seen). seen_of a after.1 ∷ rest) (further after.0 after.1 k)
      by now needs_more k further = refl
      by now not_defined k further = absurd k

  engine-same : (actions : List (HostAction Buffer)) → AreDeclared (surface_of p) receivers → AreLawful (surface_of p) receivers 0 0 actions → engine_run p receivers actions ≡ source_run p receivers actions
  unfolding source_run
  engine-same actions declared may = runs-same actions [] 0 (fresh_state p receivers) empty_host may (fresh-stands places p accepted receivers declared)

pub accepted-seen : AcceptedPackagesAreSeen
accepted-seen places p accepted ok_first receivers actions declared may =
    let same : engine_run p receivers actions ≡ source_run p receivers actions = engine-same places p accepted ok_first receivers actions declared may in
    record { same = same; defined = subst IsDefined (sym same) (never-stuck places p accepted receivers actions declared may) }
