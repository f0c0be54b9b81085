-- A report by what is seen of actions none of which is undefined doesn't end with one that is.
use Rattle.std.proofs.Common.{◌≡◌, ℕ, suc, List, [], ◌∷◌, refl}
use Rattle.wf_text.specs.HostActions.{HostAction}
use Rattle.wf_text.specs.Seen.{Seen, answered, turns, undefined}
use Rattle.wf_text.specs.Surface.{Surface}
use Rattle.wf_base.specs.BaseOps.{Buffer}
use Rattle.wf_sound_runs.specs.Accepted.{IsDefined}
use Rattle.wf_script_rules.specs.Lines.{Command, declares, acts, shows, sets_turns}
use Rattle.wf_script_rules.specs.Names.{Declared}
use Rattle.wf_script_rules.specs.Report.{Sight, Report, not_defined, after_action, after_command, report_from, report_of}
use Rattle.wf_script_rules.specs.Scripts.{Numbered, Script}

abbrev EndsDefined : Report → Type 0
EndsDefined report = (line : ℕ) → report.end ≡ not_defined line → ⊥

defined-behind : (one : Seen) (others : List Seen) → IsDefined (one ∷ others) → IsDefined others
defined-behind one others d = record { never = λ i is. d.never (suc i) is }

action-ends : (surface : Surface) (declared : Declared) (sight : Sight) (line : ℕ) (action : HostAction Buffer) (seen : List Seen) (rest : Sight → List Seen → Report)
    → IsDefined seen → ((after : Sight) (more : List Seen) → IsDefined more → EndsDefined (rest after more)) → EndsDefined (after_action surface declared sight line action seen rest)
action-ends surface declared sight line action [] rest d behind = λ n e. absurd (cc e)
action-ends surface declared sight line action (answered answer buffers arrays ∷ seen) rest d behind =
    behind (record { buffers = buffers; arrays = arrays }) seen (defined-behind (answered answer buffers arrays) seen d)
action-ends surface declared sight line action (turns ∷ seen) rest d behind = λ n e. absurd (cc e)
action-ends surface declared sight line action (undefined ∷ seen) rest d behind = absurd (d.never 0 refl)

command-ends : (surface : Surface) (declared : Declared) (sight : Sight) (line : ℕ) (command : Command) (seen : List Seen) (rest : Sight → List Seen → Report)
    → IsDefined seen → ((after : Sight) (more : List Seen) → IsDefined more → EndsDefined (rest after more)) → EndsDefined (after_command surface declared sight line command seen rest)
command-ends surface declared sight line (declares it) seen rest d behind = behind sight seen d
command-ends surface declared sight line (shows it) seen rest d behind = behind sight seen d
command-ends surface declared sight line (sets_turns n) seen rest d behind = behind sight seen d
command-ends surface declared sight line (acts action) seen rest d behind = action-ends surface declared sight line action seen rest d behind

ends-from : (surface : Surface) (declared : Declared) (commands : List Numbered) (sight : Sight) (seen : List Seen) → IsDefined seen → EndsDefined (report_from surface declared sight commands seen)
unfolding report_from
ends-from surface declared [] sight seen d = λ n e. absurd (cc e)
ends-from surface declared (one ∷ others) sight seen d =
    command-ends surface declared sight one.line one.command seen (λ after more. report_from surface declared after others more) d (λ after more defined. ends-from surface declared others after more defined)

pub defined-report : (surface : Surface) (script : Script) (seen : List Seen) → IsDefined seen → (line : ℕ) → (report_of surface script seen).end ≡ not_defined line → ⊥
defined-report surface script [] d = λ n e. absurd (cc e)
defined-report surface script (answered answer buffers arrays ∷ seen) d =
    ends-from surface script.declared script.commands (record { buffers = buffers; arrays = arrays }) seen (defined-behind (answered answer buffers arrays) seen d)
defined-report surface script (turns ∷ seen) d = λ n e. absurd (cc e)
defined-report surface script (undefined ∷ seen) d = λ n e. absurd (cc e)
