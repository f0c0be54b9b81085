-- What a script's own types say in the words of its definition, and what reading one answers.
use Rattle.std.specs.Prelude.{◌≡◌, ⊤, map, Result, Ok, Err}
use Rattle.wf_text.specs.HostActions.{init, call, put, close, compact}
use Rattle.wf_bufs.specs.HostViews.{arg_of}
use Rattle.wf_script_rules.specs.declared.rules.XRule.{XRule}
use Rattle.wf_script_rules.specs.declared.rules.Verb.{Verb}
use Rattle.wf_script_rules.specs.declared.rules.Verb.TheVariants as verb
use Rattle.wf_script_rules.specs.declared.faults.LineFault.{LineFault}
use Rattle.wf_script_rules.specs.Names.{Declared as Declares}
use Rattle.wf_script_rules.specs.Lines.{Command as Does, declares, acts, shows, sets_turns, Line}
use Rattle.wf_script_rules.specs.Scripts.{Script as Read, Refusal}
use Rattle.wf_script_rules.specs.Answers.{Fails}
use Rattle.wf_script.specs.declared.commands.Command.{Command}
use Rattle.wf_script.specs.declared.commands.Command.TheVariants.{Declares as Declared, Init, Call, Put, Close, Compact, Shows, Turns}
use Rattle.wf_script.specs.declared.faults.ScriptFault.{ScriptFault}
use Rattle.wf_script.specs.declared.faults.ScriptFault.TheVariants.{Refused, Memory}

abbrev pub command_of : Command → Does
command_of (Declared it) = declares it
command_of (Init receiver within) = acts (init receiver within)
command_of (Call it) = acts (call it.receiver it.method.0 (map arg_of it.args.items) it.turns)
command_of (Put buffer bytes) = acts (put buffer bytes.items)
command_of (Close buffer) = acts (close buffer)
command_of (Compact buffer) = acts (compact buffer)
command_of (Shows it) = shows it
command_of (Turns n) = sets_turns n

-- The line gives this command and leaves what is then declared, or is refused, unless memory was refused.
abbrev pub Reads : Result Command LineFault → Declares → Line → Type 0
Reads (Ok command) after line = line ≡ Ok (after, command_of command)
Reads (Err fault) after line = Fails fault line

-- The same for a line that takes no memory.
abbrev pub Judges : Result Command XRule → Declares → Line → Type 0
Judges (Ok command) after line = line ≡ Ok (after, command_of command)
Judges (Err rule) after line = line ≡ Err rule

-- The word of a line that declares nothing and sets nothing.
abbrev pub Acts : Verb → Type 0
Acts verb.New = ⊥
Acts verb.Null = ⊥
Acts verb.Buf = ⊥
Acts verb.Bytes = ⊥
Acts verb.Turns = ⊥
Acts _ = ⊤

abbrev pub FailsScript : {X : Type 0} → ScriptFault → Result X Refusal → Type 0
FailsScript (Refused line rule) read = read ≡ Err (record { line = line; rule = rule })
FailsScript Memory read = ⊤

abbrev pub ReadsOn : Result (Unit {0}) ScriptFault → Read → Result Read Refusal → Type 0
ReadsOn (Ok _) after read = read ≡ Ok after
ReadsOn (Err fault) after read = FailsScript fault read

abbrev pub ReadsScript : Result Read ScriptFault → Result Read Refusal → Type 0
ReadsScript (Ok script) read = read ≡ Ok script
ReadsScript (Err fault) read = FailsScript fault read
