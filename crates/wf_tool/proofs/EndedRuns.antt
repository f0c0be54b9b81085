-- How the program ends where a script was run, and what it has written then.
use Rattle.std.proofs.Common.{◌≡◌, ◌≤◌, ℕ, List, [], length, Option, IfOk, IsErr, MatchResult, Result, Ok, Err, string_bytes, sym, ◌∙◌, subst}
use Rattle.wf_text.specs.Surface.{Surface}
use Rattle.wf_text.specs.declared.faults.NoMemory.{NoMemory as Wants}
use Rattle.c_text.specs.CTree.{ItemTree}
use Rattle.c_read_grammar.specs.Outcomes.{HasOutcome, whole}
use Rattle.c_meaning.specs.UnitForm.{HasUnitForm}
use Rattle.c_step.specs.Loading.{SeenOf}
use Rattle.wf_script.specs.declared.faults.ScriptFault.TheVariants as script_faults
use Rattle.wf_script_rules.specs.declared.rules.XRule.{XRule}
use Rattle.wf_script_rules.specs.Report.{Report, End}
use Rattle.wf_script_rules.specs.Scripts.{Script, Refusal, script_of}
use Rattle.wf_script_drive.specs.declared.driving.DriveEnd.{DriveEnd}
use Rattle.wf_script_drive.specs.declared.driving.DriveEnd.TheVariants.{Done, Turns, Undefined, OutFailed}
use Rattle.wf_tool_runs.specs.declared.texts.RunFault.TheVariants as run_faults
use Rattle.wf_tool_runs.specs.declared.texts.TextFault.{TextFault}
use Rattle.wf_tool_runs.specs.Runs.{CountsRun}
use Rattle.wf_tool_runs.specs.Units.{RefusesText, RunsText, most_text, text_report}
use Rattle.wf_tool.specs.declared.ending.Ending.{Ending}
use Rattle.wf_tool.specs.declared.ending.Ending.TheVariants as endings
use Rattle.wf_tool.specs.declared.tool.Answer.{Answer}
use Rattle.wf_tool.specs.Answer.{Writes}
use Rattle.wf_tool.specs.Lines.{script_line, text_line}
use Rattle.wf_tool.specs.Runs.{IsReportOf, IsTextReportOf, ScriptCallsFor, TextCallsFor}
use Rattle.wf_tool.specs.Told.{EndsRun, IsTold}
use Rattle.wf_tool.proofs.DrivenRuns.{failed-run, refused-run}
use Rattle.wf_tool.proofs.WritingLemmas.{writes-after, writes-more}

-- No fault is counted where nothing was driven.
pub uncounted : {F : Type 0} (before now : ℕ) (r : Result DriveEnd F) → CountsRun before now r → IsErr r → now ≡ before
uncounted before now (Ok end) counts is = absurd (cc is)
uncounted before now (Err fault) counts is = counts

-- Whatever script was run.
module _ (mid : Option (List ℕ)) (left : Option ℕ) where
  pub ends-failed : EndsRun (Ok OutFailed) mid mid left endings.OutputFault
  ends-failed surface report bytes old room d = failed-run surface report bytes old mid room left d

pub ends-refused : {S F : Type 0} (spelt : S → List ℕ) (mid new : Option (List ℕ)) (left : Option ℕ) (ending : Ending) (rule : XRule) (number : ℕ) (line : Result S F) (text : Answer → S)
    (told : (it : Answer) → spelt (text it) ≡ string_bytes it.line) (r : Result Answer Wants)
    → IfOk line (λ it. spelt it ≡ script_line rule number) → MatchResult r (λ it. (it.ending ≡ endings.ScriptRefused) × (line ≡ Ok (text it))) (λ _. IsErr line)
    → Writes (IsTold r) mid new left ending → EndsRun (Err (script_faults.Refused number rule)) mid new left ending
ends-refused spelt mid new left ending rule number line text told r writes made wrote surface report bytes old room runs =
    writes-more (IsTold r) (ScriptCallsFor surface report bytes) (refused-run spelt surface report bytes rule number line text told r runs.0 writes made) old new room ending
    (writes-after (IsTold r) old mid new room left ending runs.1 runs.2 wrote)

-- A script over a text that is handed in.
module _ (seen : SeenOf) (surface : Surface) (bytes text : List ℕ) where
  -- What it calls for over the text's items it calls for over the text.
  module _ (short : length text ≤ most_text) (items : List ItemTree) (read : HasOutcome text (whole items)) (form : HasUnitForm surface items) where
    text-reported : (line : List ℕ) (end : End) → IsReportOf surface (text_report seen items surface) bytes line end → IsTextReportOf seen surface bytes text line end
    text-reported line end is = record { short = short; items = items; read = read; form = form; reported = is }

    text-called : (ending : Ending) (line : List ℕ) → ScriptCallsFor surface (text_report seen items surface) bytes ending line → TextCallsFor seen surface bytes text ending line
    text-called endings.Done line c = text-reported line _ c
    text-called endings.Refused line c = absurd c
    text-called endings.Usage line c = absurd c
    text-called endings.InputFault line c = absurd c
    text-called endings.OutputFault line c = absurd c
    text-called endings.ScriptRefused line c = c
    text-called endings.NoMemory line c = absurd c
    text-called endings.Turns line c = (c.0, text-reported line _ c.1)
    text-called endings.TextRefused line c = absurd c
    text-called endings.Undefined line c = (c.0, text-reported line _ c.1)

  -- What it calls for where it is refused, it calls for over any text.
  module _ (report : Script → Report) (refusal : Refusal) (refused : script_of surface bytes ≡ Err refusal) where
    not-read : (line : List ℕ) (end : End) → IsReportOf surface report bytes line end → ⊥
    not-read line end is = let never = sym refused ∙ is.reads in absurd (cc never)

    refused-called : (ending : Ending) (line : List ℕ) → ScriptCallsFor surface report bytes ending line → TextCallsFor seen surface bytes text ending line
    refused-called endings.Done line c = absurd (not-read line _ c)
    refused-called endings.Refused line c = absurd c
    refused-called endings.Usage line c = absurd c
    refused-called endings.InputFault line c = absurd c
    refused-called endings.OutputFault line c = absurd c
    refused-called endings.ScriptRefused line c = c
    refused-called endings.NoMemory line c = absurd c
    refused-called endings.Turns line c = absurd (not-read line _ c.1)
    refused-called endings.TextRefused line c = absurd c
    refused-called endings.Undefined line c = absurd (not-read line _ c.1)

  -- The line tells why the text is refused.
  text-told : {S F : Type 0} (spelt : S → List ℕ) (fault : TextFault) (line : Result S F) (of : Answer → S) (told : (it : Answer) → spelt (of it) ≡ string_bytes it.line) (r : Result Answer Wants) (script : Script)
      → script_of surface bytes ≡ Ok script → RefusesText surface text fault → IfOk line (λ it. spelt it ≡ text_line fault)
      → MatchResult r (λ it. (it.ending ≡ endings.TextRefused) × (line ≡ Ok (of it))) (λ _. IsErr line) → (ending : Ending) (written : List ℕ) → IsTold r ending written → TextCallsFor seen surface bytes text ending written
  text-told spelt fault line of told (Err wants) script reads refuses writes made ending written is = absurd is
  text-told {S} {F} spelt fault line of told (Ok it) script reads refuses writes made ending written is =
      let L : Result S F → Type 0 = λ found. IfOk found (λ l. spelt l ≡ text_line fault) in
      let same : spelt (of it) ≡ text_line fault = subst L made.1 writes in
      let C : Ending → Type 0 = λ e. TextCallsFor seen surface bytes text e written in
      subst C (sym (is.0 ∙ made.0)) (record { script = script; reads = reads; fault = fault; refused = refuses; writes = is.1 ∙ sym (told it) ∙ same })

  -- What is written, however the run ended.
  module _ (old mid new : Option (List ℕ)) (room left : Option ℕ) (ending : Ending) where
    pub text-driven : (end : DriveEnd) → RunsText seen surface bytes text old mid room left (Ok end) → EndsRun (Ok end) mid new left ending → Writes (TextCallsFor seen surface bytes text) old new room ending
    text-driven end runs ends =
        let of = runs.runs in
        let report : Script → Report = text_report seen of.items surface in
        writes-more (ScriptCallsFor surface report bytes) (TextCallsFor seen surface bytes text) (text-called of.short of.items of.read of.form) old new room ending
        (ends surface report bytes old room (record { script = runs.script; reads = runs.reads; drives = of.drives; fits = of.fits }))

    pub script-refused : (number : ℕ) (rule : XRule) → RunsText seen surface bytes text old mid room left (Err (run_faults.Script number rule)) → EndsRun (Err (script_faults.Refused number rule)) mid new left ending
        → Writes (TextCallsFor seen surface bytes text) old new room ending
    script-refused number rule runs ends =
        let report : Script → Report = text_report seen [] surface in
        writes-more (ScriptCallsFor surface report bytes) (TextCallsFor seen surface bytes text) (refused-called report (record { line = number; rule = rule }) runs.0) old new room ending
        (ends surface report bytes old room runs)

    pub text-refused : {S F : Type 0} (spelt : S → List ℕ) (fault : TextFault) (line : Result S F) (of : Answer → S) (told : (it : Answer) → spelt (of it) ≡ string_bytes it.line) (r : Result Answer Wants)
        → RunsText seen surface bytes text old mid room left (Err (run_faults.Text fault)) → IfOk line (λ it. spelt it ≡ text_line fault)
        → MatchResult r (λ it. (it.ending ≡ endings.TextRefused) × (line ≡ Ok (of it))) (λ _. IsErr line) → Writes (IsTold r) mid new left ending → Writes (TextCallsFor seen surface bytes text) old new room ending
    text-refused spelt fault line of told r runs writes made wrote =
        writes-more (IsTold r) (TextCallsFor seen surface bytes text) (text-told spelt fault line of told r runs.script runs.reads runs.runs.0 writes made) old new room ending
        (writes-after (IsTold r) old mid new room left ending runs.runs.1 runs.runs.2 wrote)
