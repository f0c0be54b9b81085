-- The exit statuses.
use Rattle.std.specs.Prelude.{ℕ}
use Rattle.wf_tool.specs.declared.ending.Ending.{Ending}
use Rattle.wf_tool.specs.declared.ending.Ending.TheVariants.{Done, Refused, Usage, InputFault, OutputFault, ScriptRefused, NoMemory, Turns, TextRefused, Undefined}

abbrev pub status_of : Ending → ℕ
status_of Done = 0
status_of Refused = 1
status_of Usage = 2
status_of InputFault = 3
status_of OutputFault = 4
status_of ScriptRefused = 5
status_of NoMemory = 6
status_of Turns = 7
status_of TextRefused = 8
status_of Undefined = 9
