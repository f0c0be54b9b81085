-- The calls that a host may make of an accepted package, after whatever it may have done.
use Rattle.std.proofs.Common.{◌≡◌, ℕ, true, List, [], ◌∷◌, ◌++◌, length, Option, Some, sym, ap, ◌∙◌, subst}
use Rattle.std.specs.Prelude.{slice_get, unwrap_or}
use Rattle.turns.specs.Run.{Outcome, Got, More, Lost}
use Rattle.wf_text.specs.declared.place.Place.{Place}
use Rattle.wf_text.specs.HostActions.{Receiver, HostAction, call}
use Rattle.wf_base.specs.BaseOps.{Buffer}
use Rattle.wf_base.specs.HostRun.{Host, HostCall, Response, answers, needs_more, not_defined, act, empty_host}
use Rattle.wf_base.specs.LawfulActions.{AreLawful, CanCall, MayAct, buffers_behind}
use Rattle.wf_ast.specs.TypedPackage.{MethodTree, PackageTree, surface_of}
use Rattle.wf_ast.specs.Value.{Value}
use Rattle.wf_ast.specs.WellTyped.{may_be_result}
use Rattle.wf_meaning.specs.SourceState.{Object, SourceState, fresh_state}
use Rattle.wf_meaning.specs.Entry.{Answered, refusal_of}
use Rattle.wf_meaning.specs.World.{World}
use Rattle.wf_meaning.specs.SourceCall.{entry_of, host_values, source_steps}
use Rattle.wf_sound.specs.Callees.{RunsWell}
use Rattle.wf_sound.proofs.StatementLaw.{results-fit}
use Rattle.wf_sound_runs.specs.Accepted.{IsAccepted}
use Rattle.wf_sound_runs.proofs.Running.{IsResumable}
use Rattle.wf_sound_runs.proofs.Receivers.{entry-runs}
use Rattle.wf_sound_runs.proofs.Runs.{Acted, Answers, CallFound, IsStanding, ReceiverLawful, Stood, acted, call-found, fresh-stands}
use Rattle.wf_mean_laws.specs.Kinds.{AnswersHaveKinds, RefusalsHaveKinds, after_answer, stands_after}
use Rattle.wf_mean_laws.proofs.AnswerKinds.{HasOutcome, answer-has-outcome, is-outcome, refusal-outcome}
use Rattle.wf_mean_laws.proofs.StatusRuns.{answer-known}
use Rattle.wf_mean_laws.proofs.StatusSteps.{refusal-known}

module _ (places : ℕ → ℕ → Place) (p : PackageTree) (accepted : IsAccepted places p) (receivers : List Receiver) where
  abbrev pub Standing : (lens : List ℕ) (buffers : ℕ) (state : SourceState) (h : Host) → Type 0
  Standing lens buffers state h = IsStanding places p accepted receivers lens buffers state h

  -- A run isn't stuck, and what it answers is an outcome of its method.
  abbrev pub EndsAsOutcome : MethodTree → Outcome (Answered × World) → Type 0
  EndsAsOutcome m (Got left it) = HasOutcome p m it.0
  EndsAsOutcome m More = Unit {0}
  EndsAsOutcome m Lost = ⊥

  pub result-fits : (k : ℕ) (m : MethodTree) → slice_get p.methods k ≡ Some m → may_be_result m.mark m.gives ≡ true
  result-fits k m e = results-fit p accepted.typed k m e

  pub call-ends : (lens : List ℕ) (buffers : ℕ) (state : SourceState) (h : Host) (it : HostCall) (n : ℕ) → CanCall (surface_of p) receivers buffers (length lens) it → Standing lens buffers state h → (m : MethodTree) (objects : List Object)
      → slice_get p.methods it.method ≡ Some m → slice_get state it.receiver ≡ Some (Some objects) → EndsAsOutcome m (entry_of p m it.method (host_values h.arrays m.args it.args) n (record { objects = objects; host = h }))
  call-ends lens buffers state h it n can stands m objects numbered at =
      let f : CallFound places p accepted receivers buffers (length lens) it = call-found places p accepted receivers buffers (length lens) it can.fit in
      let old : Stood places p accepted receivers state it.receiver f.receiver = stands.each it.receiver f.receiver f.at in
      let same : old.of ≡ Some objects = cc (old.is, at) in
      let alike : f.m ≡ m = cc (f.numbered, numbered) in
      let P : Option (List Object) → Type 0 = λ o. ReceiverLawful places p accepted receivers o f.receiver.struct_number in
      let Q : MethodTree → Type 0 = λ m. EndsAsOutcome m (entry_of p m it.method (host_values h.arrays m.args it.args) n (record { objects = objects; host = h })) in
      subst Q alike (by f (subst P same old.lawful))
    where
      ends : (f : CallFound places p accepted receivers buffers (length lens) it) (structs : List ℕ) (args : List Value) (w : World) (o : Outcome (Answered × World))
          → RunsWell p (IsResumable p) (record { structs = structs; arrays = lens; buffers = buffers }) f.m args w o → EndsAsOutcome f.m o
      ends f structs args w (Got left done) k = answer-has-outcome p f.m done.0 (result-fits it.method f.m f.numbered) k.answer
      ends f structs args w More k = tt
      ends f structs args w Lost k = k

      by : (f : CallFound places p accepted receivers buffers (length lens) it) → ReceiverLawful places p accepted receivers (Some objects) f.receiver.struct_number
          → EndsAsOutcome f.m (entry_of p f.m it.method (host_values h.arrays f.m.args it.args) n (record { objects = objects; host = h }))
      by f lawful =
          let first : slice_get lawful.0 0 ≡ Some f.m.of = lawful.1 ∙ ap (λ n. Some n) (sym f.of) in
          ends f lawful.0 (unwrap_or (host_values h.arrays f.m.args it.args) []) (record { objects = objects; host = h }) (entry_of p f.m it.method (host_values h.arrays f.m.args it.args) n (record { objects = objects; host = h }))
          (entry-runs places p accepted lawful.0 lens buffers objects h lawful.2 stands.host stands.short it.method f.m it.args n f.numbered first f.fits can.buffers_once)

  -- Where lawful actions lead, and that the next one may be performed there.
  record Led (last : HostAction Buffer) (state : SourceState) (h : Host) : Type 0 where
    lens : List ℕ
    buffers : ℕ
    stands : Standing lens buffers state h
    may : MayAct (surface_of p) receivers buffers (length lens) last

  led : (last : HostAction Buffer) (actions : List (HostAction Buffer)) (lens : List ℕ) (buffers : ℕ) (state : SourceState) (h : Host) → AreLawful (surface_of p) receivers buffers (length lens) (actions ++ last ∷ [])
      → Standing lens buffers state h → (after : SourceState) (left : Host) → stands_after (source_steps p) state h actions ≡ Some (after, left) → Led last after left
  led last [] lens buffers state h may stands after left e =
      let same : (state, h) ≡ (after, left) = cc (e) in
      let P : SourceState × Host → Type 0 = λ it. Led last it.0 it.1 in
      subst P same (record { lens = lens; buffers = buffers; stands = stands; may = may.0 })
  led last (action ∷ actions) lens buffers state h may stands after left e =
      let a : Acted places p accepted receivers lens buffers state h action = acted places p accepted receivers lens buffers state h action may.0 stands in
      let P : ℕ → Type 0 = λ n. AreLawful (surface_of p) receivers (buffers_behind action buffers) n (actions ++ last ∷ []) in
      by a.now (act (source_steps p) state h action) a.stands (λ state h further e. led last actions a.now (buffers_behind action buffers) state h (subst P (sym a.long) may.1) further after left e) e
    where
      by : (now : List ℕ) (r : Response (SourceState × Host)) → Answers places p accepted receivers now (buffers_behind action buffers) r
          → ((state : SourceState) (h : Host) → Standing now (buffers_behind action buffers) state h → stands_after (source_steps p) state h actions ≡ Some (after, left) → Led last after left)
          → after_answer r (λ state h. stands_after (source_steps p) state h actions) ≡ Some (after, left) → Led last after left
      by now (answers answer it) k further e = further it.0 it.1 k e
      by now needs_more k further e = absurd (cc (e))
      by now not_defined k further e = absurd k

pub answers-have-kinds : AnswersHaveKinds
answers-have-kinds places p accepted many receivers actions called turns declared lawful state host at m objects numbered known left it e =
    let l : Led places p accepted receivers (call called.receiver called.method called.args turns) state host =
    led places p accepted receivers (call called.receiver called.method called.args turns) actions [] 0 (fresh_state p receivers) empty_host lawful (fresh-stands places p accepted receivers declared) state host at in
    let P : Outcome (Answered × World) → Type 0 = λ o. EndsAsOutcome places p accepted receivers m o in
    let has : HasOutcome p m it.0 = subst P e (call-ends places p accepted receivers l.lens l.buffers state host called turns l.may l.stands m objects numbered known) in
    is-outcome p many m it.0 has (answer-known p accepted.typed many receivers actions state host at called m objects known turns left it e)

pub refusals-have-kinds : RefusalsHaveKinds
refusals-have-kinds places p accepted many number m known n status =
    is-outcome p many m (refusal_of m n) (refusal-outcome p m n (results-fit p accepted.typed number m known)) (refusal-known p many m n status)
