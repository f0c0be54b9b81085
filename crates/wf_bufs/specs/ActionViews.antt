-- What a host's own lists of actions, and what it notes of them, say in the words of host actions.
use Rattle.std.specs.Prelude.{ℕ, ◌≡◌, ⊤, map, length}
use Rattle.wf_text.specs.Surface.{Surface}
use Rattle.wf_text.specs.HostActions.{HostAction, init, call, put, close, compact, replace}
use Rattle.wf_text.specs.Seen.{Seen, turns, undefined}
use Rattle.wf_base.specs.BaseOps.{Buffer}
use Rattle.wf_base.specs.HostRun.{Host, Response, answers, needs_more, not_defined, seen_of}
use Rattle.wf_bufs.specs.declared.actions.Action.{Action}
use Rattle.wf_bufs.specs.declared.actions.Action.TheVariants.{Init, Call, Put, Close, Compact, Replace}
use Rattle.wf_bufs.specs.declared.actions.Saw.{Saw}
use Rattle.wf_bufs.specs.declared.outcomes.Reply.{Reply}
use Rattle.wf_bufs.specs.declared.outcomes.Reply.TheVariants.{Done, Turns, Undefined}
use Rattle.wf_bufs.specs.HostViews.{arg_of, answer_of}
use Rattle.wf_bufs.specs.HostSeen.{host_of}

abbrev pub action_of : Action → HostAction Buffer
action_of (Init receiver within) = init receiver within
action_of (Call it) = call it.receiver it.method.0 (map arg_of it.args.items) it.turns
action_of (Put buffer bytes) = put buffer bytes.items
action_of (Close buffer) = close buffer
action_of (Compact buffer) = compact buffer
action_of (Replace host) = replace host.bufs host.arrays

-- The reply is this response's, and after an outcome what stands is too.
abbrev pub Responds : {After : Type 0} → Surface → Response After → Reply → After → Type 0
Responds surface response (Done outcome) after = response ≡ answers (answer_of surface outcome) after
Responds surface response Turns after = response ≡ needs_more
Responds surface response Undefined after = response ≡ not_defined

-- After an outcome so many buffers and byte arrays stand.
abbrev pub Leaves : Reply → (buffers arrays : ℕ) → Host → Type 0
Leaves (Done _) buffers arrays host = (length host.buffers ≡ buffers) × (length host.arrays ≡ arrays)
Leaves Turns buffers arrays host = ⊤
Leaves Undefined buffers arrays host = ⊤

-- What a note tells.
abbrev pub told_of : Surface → Reply → Host → Seen
told_of surface (Done outcome) host = seen_of (answer_of surface outcome) host
told_of surface Turns host = turns
told_of surface Undefined host = undefined

abbrev pub seen_as : Surface → Saw → Seen
seen_as surface saw = told_of surface saw.reply (host_of saw.host)
