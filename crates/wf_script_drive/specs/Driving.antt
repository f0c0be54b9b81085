-- What is left of a report, and what one command more does.
use Rattle.std.specs.Prelude.{◌≡◌, ◌<◌, ◌≤◌, ◌-◌, ⊤, ℕ, List, [], ◌∷◌, ◌++◌, length, take, codes, decimal, Bool, true, false, Option, Some, None}
use Rattle.std.specs.Io.KnownBytes.{Appends}
use Rattle.wf_text.specs.Surface.{Surface}
use Rattle.wf_text.specs.Seen.{Answer, nothing}
use Rattle.wf_base.specs.HostRun.{Host, Response, answers, needs_more, not_defined as isnt_defined, Steps, act, run}
use Rattle.wf_script_rules.specs.Names.{Declared}
use Rattle.wf_script_rules.specs.Lines.{Command, declares, acts, shows, sets_turns}
use Rattle.wf_script_rules.specs.Scripts.{Numbered, actions_in}
use Rattle.wf_script_rules.specs.Report.{Sight, Report, End, finished, out_of_turns, not_defined, report_from, declares_text, shows_text, action_text, outcome_text}
use Rattle.wf_script_drive.specs.declared.driving.DriveEnd.{DriveEnd}
use Rattle.wf_script_drive.specs.declared.driving.DriveEnd.TheVariants.{Done, Turns, Undefined, OutFailed}
use Rattle.wf_script_drive.specs.declared.steps.Step.{Step}
use Rattle.wf_script_drive.specs.declared.steps.Step.TheVariants as step
use Rattle.wf_script_drive.specs.Sights.{sight_of}

-- The report of commands over what answers inits and calls, from a state and what the host then holds.
abbrev pub report_at : {State : Type 0} → Steps State → Surface → Declared → State → Host → List Numbered → Report
report_at steps surface declared state host commands = report_from surface declared (sight_of host) commands (run steps state host (actions_in commands))

-- These bytes before a report.
abbrev pub in_front : List ℕ → Report → Report
in_front text report = record { text = text ++ report.text; end = report.end }

-- What stands on a command's line before its answer. Only actions have one.
abbrev pub words_text : Surface → Declared → Sight → Command → List ℕ
words_text surface declared sight (declares it) = declares_text declared it
words_text surface declared sight (acts action) = action_text surface declared action
words_text surface declared sight (shows it) = shows_text declared.names sight it
words_text surface declared sight (sets_turns n) = codes "turns " ++ decimal n

-- And the answer.
abbrev pub answered_text : Declared → (before after : Sight) → Command → Answer → List ℕ
answered_text declared before after (acts action) answer = outcome_text declared before after action answer
answered_text declared before after (declares it) answer = []
answered_text declared before after (shows it) answer = []
answered_text declared before after (sets_turns n) answer = []

-- A command that is no action leaves all as it is.
abbrev pub response_to : {State : Type 0} → Steps State → State → Host → Command → Response (State × Host)
response_to steps state host (acts action) = act steps state host action
response_to steps state host (declares it) = answers nothing (state, host)
response_to steps state host (shows it) = answers nothing (state, host)
response_to steps state host (sets_turns n) = answers nothing (state, host)

-- This is the response, and its text was written.
abbrev pub Responds : {State : Type 0} → (List ℕ → Type 0) → Response (State × Host) → (Host → Answer → List ℕ) → Step → State → Host → Type 0
Responds Writes response text step.GoesOn after left = (answer : Answer) × (response ≡ answers answer (after, left)) × Writes (text left answer)
Responds Writes response text step.Turns after left = (response ≡ needs_more) × Writes (codes "turns")
Responds Writes response text step.Undefined after left = (response ≡ isnt_defined) × Writes (codes "undefined")

-- A command's line was written: the report goes on after it, or ends with it.
abbrev pub WritesLine : {State : Type 0} → (List ℕ → Type 0) → Steps State → Surface → Declared → State → Host → Numbered → Step → State → Host → Type 0
WritesLine Writes steps surface declared state host one step.GoesOn after left = (text : List ℕ) × Writes text × ((others : List Numbered) → report_at steps surface declared state host (one ∷ others) ≡ in_front text (report_at steps surface declared after left others))
WritesLine Writes steps surface declared state host one step.Turns after left = (text : List ℕ) × Writes text × ((others : List Numbered) → report_at steps surface declared state host (one ∷ others) ≡ record { text = text; end = out_of_turns one.line })
WritesLine Writes steps surface declared state host one step.Undefined after left = (text : List ℕ) × Writes text × ((others : List Numbered) → report_at steps surface declared state host (one ∷ others) ≡ record { text = text; end = not_defined one.line })

-- An engine has stopped after a call or an init without an outcome.
abbrev pub stops_at : Step → Bool
stops_at step.GoesOn = false
stops_at step.Turns = true
stops_at step.Undefined = true

-- The host has as many buffers and byte arrays as before, where the script goes on.
abbrev pub KeepsCounts : Step → Host → Host → Type 0
KeepsCounts step.GoesOn before after = (length after.buffers ≡ length before.buffers) × (length after.arrays ≡ length before.arrays)
KeepsCounts step.Turns before after = ⊤
KeepsCounts step.Undefined before after = ⊤

-- How driving ends: as the report does, or because the pen was lost.
abbrev pub EndsAs : DriveEnd → End → Bool → Type 0
EndsAs Done end lost = end ≡ finished
EndsAs (Turns line) end lost = end ≡ out_of_turns line
EndsAs (Undefined line) end lost = end ≡ not_defined line
EndsAs OutFailed end lost = lost ≡ true

-- What is then written: the whole report, whose end this is, or a front of it.
abbrev pub Drives : Option (List ℕ) → Option (List ℕ) → DriveEnd → Report → Type 0
Drives before now Done report = Appends before now report.text × (report.end ≡ finished)
Drives before now (Turns line) report = Appends before now report.text × (report.end ≡ out_of_turns line)
Drives before now (Undefined line) report = Appends before now report.text × (report.end ≡ not_defined line)
Drives before now OutFailed report = (count : ℕ) × Appends before now (take count report.text) × (count ≤ length report.text)

-- The count of faults rises where the sink failed, and stays at every other end.
abbrev pub CountsDrive : ℕ → ℕ → DriveEnd → Type 0
CountsDrive before now Done = now ≡ before
CountsDrive before now (Turns line) = now ≡ before
CountsDrive before now (Undefined line) = now ≡ before
CountsDrive before now OutFailed = before < now

abbrev pub is_failed : DriveEnd → Bool
is_failed OutFailed = true
is_failed Done = false
is_failed (Turns line) = false
is_failed (Undefined line) = false

-- Where a room is told that holds so many bytes, the sink didn't fail, and the room falls by them.
abbrev pub FitsDrive : Option ℕ → Option ℕ → DriveEnd → ℕ → Type 0
FitsDrive None now end count = ⊤
FitsDrive (Some room) now end count = count ≤ room → (is_failed end ≡ false) × (now ≡ Some (room - count))
