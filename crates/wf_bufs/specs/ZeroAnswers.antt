-- What the engine that runs nothing answers.
use Rattle.std.specs.Prelude.{false, List, option_map, unwrap_or}
use Rattle.wf_text.specs.Surface.{Surface, AnswerKind, status, numeric, truth, nothing}
use Rattle.wf_text.specs.HostActions.{Receiver}
use Rattle.wf_base.specs.HostRun.{Host, HostCall}
use Rattle.wf_base.specs.LawfulActions.{called_method}
use Rattle.wf_bufs.specs.declared.outcomes.Outcome.{Outcome}
use Rattle.wf_bufs.specs.declared.outcomes.Outcome.TheVariants.{Status, Num, Flag, Nothing}
use Rattle.wf_bufs.specs.EngineLaw.{Gives, done}

-- Ok, 0, false or nothing.
abbrev pub zero_of : AnswerKind → Outcome
zero_of status = Status (record { 0 = 0 })
zero_of (numeric bits) = Num 0
zero_of truth = Flag false
zero_of nothing = Nothing

abbrev pub zero_init : Surface × List Receiver → Gives (Surface × List Receiver)
zero_init state = done (Status (record { 0 = 0 })) state

abbrev pub zero_call : Surface × List Receiver → HostCall → Host → Gives ((Surface × List Receiver) × Host)
zero_call state called host = done (unwrap_or (option_map (λ method. zero_of method.answers) (called_method state.0 state.1 called)) Nothing) (state, host)
