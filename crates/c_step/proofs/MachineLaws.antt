-- What a machine's inits and calls give, as an engine.
use Rattle.std.proofs.Common.{◌≡◌, ℕ, Bool, false, List, refl, sym, subst, ap, ◌∙◌}
use Rattle.wf_text.specs.Surface.{Surface}
use Rattle.wf_base.specs.HostRun.{Host, HostCall, Response, answers, needs_more, not_defined}
use Rattle.wf_bufs.specs.declared.outcomes.Outcome.{Outcome}
use Rattle.wf_bufs.specs.declared.outcomes.Reply.{Reply}
use Rattle.wf_bufs.specs.declared.outcomes.Reply.TheVariants.{Done, Turns, Undefined}
use Rattle.wf_bufs.specs.EngineLaw.{done, Replies, stops}
use Rattle.c_meaning.specs.CMemory.{Memory}
use Rattle.c_meaning.specs.CRun.{Loaded, c_init, c_call}
use Rattle.c_step_engine.specs.Engines.{EngineState, given, outcome_for, after_init, after_call, init_gives, call_gives, OnDone}
use Rattle.c_step_run.specs.declared.store.Store.{Store}
use Rattle.c_step_calls.specs.declared.room.Room.{Room}
use Rattle.c_step_calls.specs.Resting.{RestsAgain}
use Rattle.c_step.specs.declared.known.Known.{Known}
use Rattle.c_step.specs.Machines.{loaded_of, IsReady, ReadyUnless}
use Rattle.c_step_run.specs.Coding.{AreCoded}
use Rattle.c_step_frames.specs.Frames.{FrameView}

-- What a response gives is carried on.
both_done : {A B : Type 0} (f : A → B) (a b : Outcome) (x y : A) → done a x ≡ done b y → done a (f x) ≡ done b (f y)
both_done f a b x y e =
    let s : a ≡ b = cc (e) in
    let t : x ≡ y = cc (e) in
    ap (λ (o : Outcome). done o (f x)) s ∙ ap (λ (z : _). done b (f z)) t

carried : {A B : Type 0} (s : Surface) (f : A → B) (r : Response A) (reply : Reply) (after : A) → Replies (given s (λ (x : A). x) r) reply after → Replies (given s f r) reply (f after)
carried s f (answers a left) (Done outcome) after h = both_done f (outcome_for s a) outcome left after h
carried s f (answers a left) Turns after h = absurd (cc (h))
carried s f (answers a left) Undefined after h = absurd (cc (h))
carried s f needs_more (Done outcome) after h = absurd (cc (h))
carried s f needs_more Turns after h = refl
carried s f needs_more Undefined after h = absurd (cc (h))
carried s f not_defined (Done outcome) after h = absurd (cc (h))
carried s f not_defined Turns after h = absurd (cc (h))
carried s f not_defined Undefined after h = refl

-- A machine's state.
abbrev pub state_at : Loaded → Memory → Bool → EngineState
state_at it memory stopped = record { loaded = it; memory = memory; stopped = stopped }

module _ (it : Loaded) (old new : Memory) (stopped : Bool) (v : EngineState) (seen : state_at it old stopped ≡ v) (on : v.stopped ≡ false) where
  pub goes_on : stopped ≡ false
  goes_on = ap (λ (v : EngineState). v.stopped) seen ∙ on

  pub init_law : (receiver n : ℕ) (reply : Reply) (s : Bool) → s ≡ stops reply → Replies (given it.surface (λ (x : Memory). x) (c_init it old receiver n)) reply new → Replies (init_gives v receiver n) reply (state_at it new s)
  init_law receiver n reply s e h =
      let P : EngineState → Type 0 = λ v. Replies (init_gives v receiver n) reply (state_at it new s) in
      subst P seen (by reply e (carried it.surface (after_init (state_at it old stopped)) (c_init it old receiver n) reply new h))
    where
      by : (reply : Reply) → s ≡ stops reply → Replies (given it.surface (after_init (state_at it old stopped)) (c_init it old receiver n)) reply (state_at it new stopped)
          → Replies (given it.surface (after_init (state_at it old stopped)) (c_init it old receiver n)) reply (state_at it new s)
      by (Done outcome) e k = k ∙ ap (λ (b : Bool). done outcome (state_at it new b)) (goes_on ∙ sym e)
      by Turns e k = k
      by Undefined e k = k

  pub call_law : (called : HostCall) (before after : Host) (n : ℕ) (reply : Reply) (s : Bool) → s ≡ stops reply → Replies (given it.surface (λ (x : Memory × Host). x) (c_call it old called before n)) reply (new, after)
      → Replies (call_gives v called before n) reply (state_at it new s, after)
  call_law called before after n reply s e h =
      let P : EngineState → Type 0 = λ v. Replies {After = EngineState × Host} (call_gives v called before n) reply (state_at it new s, after) in
      subst P seen (by reply e (carried it.surface (after_call (state_at it old stopped)) (c_call it old called before n) reply (new, after) h))
    where
      by : (reply : Reply) → s ≡ stops reply → Replies {After = EngineState × Host} (given it.surface (after_call (state_at it old stopped)) (c_call it old called before n)) reply (state_at it new stopped, after)
          → Replies {After = EngineState × Host} (given it.surface (after_call (state_at it old stopped)) (c_call it old called before n)) reply (state_at it new s, after)
      by (Done outcome) e k = k ∙ ap (λ (b : Bool). done outcome (state_at it new b, after)) (goes_on ∙ sym e)
      by Turns e k = k
      by Undefined e k = k

  pub told : {A : Type 0} (f : EngineState → A) → f (state_at it old stopped) ≡ f v
  told f = ap f seen

-- It can begin another one, unless it has stopped.
pub ready_again : (k : Known) (room now : Room) (old st : Store) → IsReady k room old → RestsAgain k.code room now old st → IsReady k now st
ready_again k room now old st ready rests = record {
  coded = subst (λ (fs : List FrameView). AreCoded k.code fs st.args.items (loaded_of k).program (loaded_of k).program.functions) (sym rests.frames)
      (subst (λ (as_ : List FrameView). AreCoded k.code old.frames.items as_ (loaded_of k).program (loaded_of k).program.functions) (sym rests.args) ready.coded);
  rests = rests.rests;
  most = rests.most ∙ ready.most;
}

pub ready_after : (k : Known) (room now : Room) (old st : Store) (reply : Reply) (s : Bool) → s ≡ stops reply → IsReady k room old → OnDone reply (RestsAgain k.code room now old st) → ReadyUnless s k now st
ready_after k room now old st (Done outcome) s e ready rests = subst (λ (b : Bool). ReadyUnless b k now st) (sym e) (ready_again k room now old st ready rests)
ready_after k room now old st Turns s e ready rests = subst (λ (b : Bool). ReadyUnless b k now st) (sym e) tt
ready_after k room now old st Undefined s e ready rests = subst (λ (b : Bool). ReadyUnless b k now st) (sym e) tt

pub ready_now : (k : Known) (room : Room) (st : Store) (s : Bool) → s ≡ false → ReadyUnless s k room st → IsReady k room st
ready_now k room st s e h = subst (λ (b : Bool). ReadyUnless b k room st) e h
