-- What is seen of the engines that a loader makes.
use Rattle.std.specs.Prelude.{◌≡◌, Bool, true, false, List}
use Rattle.wf_text.specs.Surface.{Surface}
use Rattle.wf_text.specs.HostActions.{HostAction, Receiver}
use Rattle.wf_text.specs.Seen.{Seen}
use Rattle.wf_base.specs.BaseOps.{Buffer}
use Rattle.wf_base.specs.HostRun.{empty_host, run}
use Rattle.wf_bufs.specs.EngineLaw.{steps_of}
use Rattle.wf_bufs.specs.ZeroAnswers.{zero_init, zero_call}
use Rattle.c_text.specs.CTree.{ItemTree}
use Rattle.c_meaning.specs.CRun.{c_run}

-- By a text's items, a package's public surface, the receivers and the list of actions.
abbrev pub SeenOf : Type 0
SeenOf = List ItemTree → Surface → List Receiver → List (HostAction Buffer) → List Seen

-- Of a plain loader's engine this is seen which the meaning of C gives.
abbrev pub IsPlain : Bool → SeenOf → Type 0
IsPlain true seen = (items : List ItemTree) (surface : Surface) (receivers : List Receiver) (actions : List (HostAction Buffer)) → seen items surface receivers actions ≡ c_run items surface receivers actions
IsPlain false seen = Unit {0}

-- An engine that runs nothing, whatever the text.
abbrev pub zero_seen : SeenOf
zero_seen items surface receivers actions = run (steps_of (λ (state : Surface × List Receiver). state.0) (λ state receiver turns. zero_init state) (λ state called host turns. zero_call state called host)) (surface, receivers) empty_host actions
