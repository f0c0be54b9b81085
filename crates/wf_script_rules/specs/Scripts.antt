-- What the bytes of a script are over a package's public surface: what it declares, and its commands; or its first
-- refusal. Both are what one function gives, so a script has no two readings.
use Rattle.std.specs.Prelude.{ℕ, ◌+◌, List, [], ◌∷◌, ◌++◌, length, map, Result, Ok, Err, nat_lt, if◌then◌else◌}
use Rattle.wf_text.specs.HostActions.{HostAction, replace}
use Rattle.wf_text.specs.Surface.{Surface}
use Rattle.wf_base.specs.BaseOps.{Buffer, empty_buffer}
use Rattle.wf_base.specs.HostRun.{Host}
use Rattle.wf_script_rules.specs.declared.rules.XRule.{XRule}
use Rattle.wf_script_rules.specs.declared.rules.XRule.TheVariants.{X4}
use Rattle.wf_script_rules.specs.Text.{lines_of, words_of}
use Rattle.wf_script_rules.specs.Words.{◌>>=◌}
use Rattle.wf_script_rules.specs.Names.{Declared, nothing_declared}
use Rattle.wf_script_rules.specs.Lines.{Command, acts, Line, is_skipped, line_of}

-- A command with the number of its line, from 1; skipped lines count.
pub record Numbered : Type 0 where
  pub line : ℕ
  pub command : Command

pub record Script : Type 0 where
  pub declared : Declared
  pub commands : List Numbered

abbrev pub empty_script : Script
empty_script = record { declared = nothing_declared; commands = [] }

-- The first line that breaks a rule, with the first rule that it breaks.
pub record Refusal : Type 0 where
  pub line : ℕ
  pub rule : XRule

-- The script with the line of this number.
abbrev pub with_line : (number : ℕ) → Script → Line → Result Script Refusal
with_line number script (Ok read) = Ok (record { declared = read.0; commands = script.commands ++ (record { line = number; command = read.1 }) ∷ [] })
with_line number script (Err rule) = Err (record { line = number; rule = rule })

-- One line more. There are at most 65,536 lines.
unfoldable pub read_line : Surface → (number : ℕ) → Script → List (List ℕ) → Result Script Refusal
read_line surface number script words =
    if nat_lt 65536 number then Err (record { line = number; rule = X4 })
    else if is_skipped words then Ok script
    else with_line number script (line_of surface script.declared words)

-- The lines from the one of this number on.
unfoldable pub read_lines : Surface → (number : ℕ) → Script → List (List ℕ) → Result Script Refusal
read_lines surface number script [] = Ok script
read_lines surface number script (line ∷ lines) = read_line surface number script (words_of line) >>= (λ more. read_lines surface (number + 1) more lines)

-- A script has at most 1,048,576 bytes.
unfoldable pub script_of : Surface → List ℕ → Result Script Refusal
script_of surface bytes = if nat_lt 1048576 (length bytes) then Err (record { line = 1; rule = X4 }) else read_lines surface 1 empty_script (lines_of bytes)

-- The buffers, empty, and the byte arrays that a script declares.
abbrev pub declared_host : Declared → Host
declared_host declared = record { buffers = map empty_buffer declared.sizes; arrays = declared.arrays }

abbrev pub actions_in : List Numbered → List (HostAction Buffer)
actions_in [] = []
actions_in (one ∷ others) = of_command one.command (actions_in others)
  where
    of_command : Command → List (HostAction Buffer) → List (HostAction Buffer)
    of_command (acts action) rest = action ∷ rest
    of_command _ rest = rest

-- A script's host actions: what it declares is there from the first, and one action stands for each init, call, put,
-- close and compact.
abbrev pub actions_of : Script → List (HostAction Buffer)
actions_of script = replace (map empty_buffer script.declared.sizes) script.declared.arrays ∷ actions_in script.commands
