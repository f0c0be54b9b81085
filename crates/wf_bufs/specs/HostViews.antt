-- What a host's own types say in the words of host actions.
use Rattle.std.specs.Prelude.{[], map, get_or}
use Rattle.wf_text.specs.HostActions.{HostArg, num, flag, io, bytes}
use Rattle.wf_text.specs.Surface.{Surface}
use Rattle.wf_text.specs.Seen.{Answer, status, num as number, flag as truth, nothing}
use Rattle.wf_base.specs.HostRun.{HostCall}
use Rattle.wf_bufs.specs.declared.calls.Arg.{Arg}
use Rattle.wf_bufs.specs.declared.calls.Arg.TheVariants.{Num, Flag, Io, Bytes}
use Rattle.wf_bufs.specs.declared.calls.Call.{Call}
use Rattle.wf_bufs.specs.declared.outcomes.Outcome.{Outcome}
use Rattle.wf_bufs.specs.declared.outcomes.Outcome.TheVariants.{Status, Num as Number, Flag as Truth, Nothing}

abbrev pub arg_of : Arg → HostArg
arg_of (Num n) = num n
arg_of (Flag b) = flag b
arg_of (Io name) = io name
arg_of (Bytes name) = bytes name

abbrev pub call_of : Call → HostCall
call_of call = record { receiver = call.receiver; method = call.method.0; args = map arg_of call.args.now }

-- A status's number stands for its text.
abbrev pub answer_of : Surface → Outcome → Answer
answer_of surface (Status id) = status (get_or surface.statuses id.0 [])
answer_of surface (Number n) = number n
answer_of surface (Truth b) = truth b
answer_of surface Nothing = nothing
