-- What is seen of the engines of the loaders.
use Rattle.std.proofs.Common.{◌≡◌, ℕ, ◌<◌, false, Result, Ok, Err, IfOk, List, [], ◌∷◌, length, map, Some, ap, ◌∙◌, arith}
use Rattle.std.specs.Prelude.{slice_get}
use Rattle.wf_text.specs.Surface.{Surface}
use Rattle.wf_text.specs.HostActions.{HostAction, Receiver}
use Rattle.wf_base.specs.BaseOps.{Buffer}
use Rattle.wf_base.specs.HostRun.{empty_host, run}
use Rattle.wf_base.specs.LawfulActions.{AreLawful}
use Rattle.wf_bufs.specs.declared.calls.ReceiverDecl.{ReceiverDecl}
use Rattle.wf_bufs.specs.EngineLaw.{steps_of}
use Rattle.wf_bufs.specs.SurfaceViews.{receiver_of}
use Rattle.wf_bufs.specs.ZeroAnswers.{zero_init, zero_call}
use Rattle.c_text.specs.CTree.{ItemTree}
use Rattle.c_form.specs.declared.faults.LoadFault.{LoadFault}
use Rattle.c_meaning.specs.CRun.{c_run}
use Rattle.c_step_engine.specs.Engines.{EngineState, surface_of as surface_in, init_gives, call_gives, first_state}
use Rattle.c_step.specs.Loading.{zero_seen}
use Rattle.c_step.specs.Machines.{MachineView, state_of}

-- Where the first status is ok, there is one.
pub has_status : (xs : List (List ℕ)) → slice_get xs 0 ≡ Some [] → 0 < length xs
has_status [] e = absurd (cc (e))
has_status (x ∷ xs) e = omega arith

pub zero_run : (v : Surface × List Receiver) (mine s : Surface) (own rs : List ReceiverDecl) → v ≡ (mine, map receiver_of own) → mine ≡ s → own ≡ rs → (items : List ItemTree) (actions : List (HostAction Buffer))
    → run (steps_of (λ (state : Surface × List Receiver). state.0) (λ state receiver turns. zero_init state) (λ state called host turns. zero_call state called host)) v empty_host actions ≡ zero_seen items s (map receiver_of rs) actions
zero_run v mine s own rs e f g items actions =
    ap (λ (v : Surface × List Receiver). run (steps_of (λ (state : Surface × List Receiver). state.0) (λ state receiver turns. zero_init state) (λ state called host turns. zero_call state called host)) v empty_host actions)
    (e ∙ (ap (λ (x : Surface). (x, map receiver_of own)) f ∙ ap (λ (xs : List ReceiverDecl). (s, map receiver_of xs)) g))

-- What is seen of a machine that was made of a text.
abbrev pub IsFirst : List ItemTree → Surface → List Receiver → MachineView → Type 0
IsFirst items s receivers it = state_of it ≡ first_state items s receivers

pub first_surface : (items : List ItemTree) (s : Surface) (receivers : List Receiver) (r : Result MachineView LoadFault) → IfOk r (IsFirst items s receivers) → IfOk r (λ it. it.surface ≡ s)
first_surface items s receivers (Ok it) h = ap (λ (state : EngineState). state.loaded.surface) h
first_surface items s receivers (Err fault) h = tt

pub first_receivers : (items : List ItemTree) (s : Surface) (receivers : List Receiver) (r : Result MachineView LoadFault) → IfOk r (IsFirst items s receivers) → IfOk r (λ it. it.receivers ≡ receivers)
first_receivers items s receivers (Ok it) h = ap (λ (state : EngineState). state.loaded.receivers) h
first_receivers items s receivers (Err fault) h = tt

pub first_goes_on : (items : List ItemTree) (s : Surface) (receivers : List Receiver) (r : Result MachineView LoadFault) → IfOk r (IsFirst items s receivers) → IfOk r (λ it. it.stopped ≡ false)
first_goes_on items s receivers (Ok it) h = ap (λ (state : EngineState). state.stopped) h
first_goes_on items s receivers (Err fault) h = tt

pub first_seen : (items : List ItemTree) (s : Surface) (receivers : List Receiver) (r : Result MachineView LoadFault) → ((actions : List (HostAction Buffer)) → run (steps_of surface_in init_gives call_gives) (first_state items s receivers) empty_host actions ≡ c_run items s receivers actions)
    → IfOk r (IsFirst items s receivers) → IfOk r (λ it. (actions : List (HostAction Buffer)) → AreLawful s receivers 0 0 actions → run (steps_of surface_in init_gives call_gives) (state_of it) empty_host actions ≡ c_run items s receivers actions)
first_seen items s receivers (Ok it) law h = λ actions lawful. ap (λ (state : EngineState). run (steps_of surface_in init_gives call_gives) state empty_host actions) h ∙ law actions
first_seen items s receivers (Err fault) law h = tt
