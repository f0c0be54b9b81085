-- What a script's run over the engine of an accepted package calls for is what it calls for by the package's source.
use Rattle.std.proofs.Common.{◌≡◌, inl, inr, ◌<◌, ℕ, true, List, [], length, Option, None, Some, IfSome, Ok, Err, nat_lt, refl, sym, ap, ◌∙◌, subst, arith}
use Rattle.std.proofs.lemmas.Bool.Decides.{nat_tests}
use Rattle.wf_text.specs.Precedence.{Decides}
use Rattle.wf_text.specs.Surface.{Surface}
use Rattle.wf_ast.specs.TypedPackage.{PackageTree, surface_of}
use Rattle.wf_ast.specs.ReadPackage.{decls_of}
use Rattle.wf_types_rules.specs.TypeRules.{Breaks}
use Rattle.wf_bounds_laws.specs.BoundsRules.{bounds_refusal}
use Rattle.wf_bounds_laws.proofs.AnyOrder.{bounds_ignore_order}
use Rattle.wf_mean_laws.specs.SourceSeen.{ShowsItsSource, SourceIsSeen}
use Rattle.wf_mean_laws.proofs.SeenPackages.{read-seen}
use Rattle.wf_script_rules.specs.declared.rules.XRule.TheVariants.{X4}
use Rattle.wf_script_rules.specs.Report.{Report, End, report_of, not_defined}
use Rattle.wf_script_rules.specs.Scripts.{Script, actions_of, script_of}
use Rattle.wf_script_drive.specs.Lawful.{IsScript}
use Rattle.wf_script_drive.proofs.Numbers.{own_numbers}
use Rattle.wf_script_drive.proofs.Scripts.{script_sound, script_lawful}
use Rattle.c_step.specs.Loading.{SeenOf}
use Rattle.wf_tool_runs.specs.declared.texts.TextFault.{TextFault}
use Rattle.wf_tool_runs.specs.declared.texts.TextFault.TheVariants.{TooLong, TooDeep, NotC, NoSuchForm}
use Rattle.wf_tool_runs.specs.Lowered.{lowered_report}
use Rattle.wf_tool_runs.specs.Sources.{engine_report}
use Rattle.wf_tool_runs.specs.Units.{RefusesText, text_report}
use Rattle.wf_tool.specs.declared.ending.Ending.{Ending}
use Rattle.wf_tool.specs.declared.ending.Ending.TheVariants as endings
use Rattle.wf_tool.specs.Answer.{AreHeld, CallsForRun, CallsForText}
use Rattle.wf_tool.specs.Runs.{IsAcceptedAs, IsReportOf, IsRefusedAs, IsTextReportOf, ScriptCallsFor, TextCallsFor, source_report}
use Rattle.wf_tool.specs.Sizes.{most_bytes}
use Rattle.wf_tool.specs.Soundness.{in_order}
use Rattle.wf_tool.specs.Taken.{IsScriptOf, TakesScript}
use Rattle.wf_tool.specs.Told.{ExecTold, MeanTold, RunTold}
use Rattle.wf_tool.specs.Verdict.{resolved}
use Rattle.wf_tool.specs.Words.{PackageWords}
use Rattle.wf_tool.proofs.OrderLemmas.{any-order}
use Rattle.wf_tool.proofs.ScriptEnds.{defined-report}

-- A script that is too long is refused, wherever it goes on.
long-script : (surface : Surface) (bytes : List ℕ) → most_bytes < length bytes → script_of surface bytes ≡ Err (record { line = 1; rule = X4 })
unfolding script_of
long-script surface bytes long =
    let is : nat_lt 1048576 (length bytes) ≡ true = grind (arith, nat_tests, long) in
    rw is refl

-- The bytes that a script's name holds are read as those that were taken.
abbrev IsWhole : Surface → (told : Option (List ℕ)) → (bytes : List ℕ) → Type 0
IsWhole surface told bytes = (whole : List ℕ) × IfSome told (λ it. whole ≡ it) × (script_of surface whole ≡ script_of surface bytes)

whole-script : (surface : Surface) (told : Option (List ℕ)) (bytes : List ℕ) → IfSome told (λ it. IsScriptOf it bytes) → IsWhole surface told bytes
whole-script surface None bytes taken = (bytes, tt, refl)
whole-script surface (Some it) bytes taken = by_case taken
  where
    by_case : IsScriptOf it bytes → IsWhole surface (Some it) bytes
    by_case (inl same) = (bytes, same, refl)
    by_case (inr long) = (it, refl, long-script surface it long.0 ∙ sym (long-script surface bytes long.1))

-- A script that is read as another runs as that does.
module _ (surface : Surface) (bytes whole : List ℕ) (same : script_of surface whole ≡ script_of surface bytes) where
  same-reported : (report : Script → Report) (text : List ℕ) (end : End) → IsReportOf surface report bytes text end → IsReportOf surface report whole text end
  same-reported report text end is = record { script = is.script; reads = same ∙ is.reads; is = is.is }

  same-refused : (text : List ℕ) → IsRefusedAs surface bytes text → IsRefusedAs surface whole text
  same-refused text is = record { refusal = is.refusal; refused = same ∙ is.refused; writes = is.writes }

module _ (surface : Surface) (report : Script → Report) (bytes whole : List ℕ) (same : script_of surface whole ≡ script_of surface bytes) where
  same-called : (ending : Ending) (text : List ℕ) → ScriptCallsFor surface report bytes ending text → ScriptCallsFor surface report whole ending text
  same-called endings.Done text c = same-reported surface bytes whole same report text _ c
  same-called endings.Refused text c = c
  same-called endings.Usage text c = c
  same-called endings.InputFault text c = c
  same-called endings.OutputFault text c = c
  same-called endings.ScriptRefused text c = same-refused surface bytes whole same text c
  same-called endings.NoMemory text c = c
  same-called endings.Turns text c = (c.0, same-reported surface bytes whole same report text _ c.1)
  same-called endings.TextRefused text c = c
  same-called endings.Undefined text c = (c.0, same-reported surface bytes whole same report text _ c.1)

module _ (seen : SeenOf) (surface : Surface) (bytes whole : List ℕ) (same : script_of surface whole ≡ script_of surface bytes) (text : List ℕ) where
  same-text-reported : (line : List ℕ) (end : End) → IsTextReportOf seen surface bytes text line end → IsTextReportOf seen surface whole text line end
  same-text-reported line end is =
      record { short = is.short; items = is.items; read = is.read; form = is.form; reported = same-reported surface bytes whole same (text_report seen is.items surface) line end is.reported }

  same-text-called : (ending : Ending) (line : List ℕ) → TextCallsFor seen surface bytes text ending line → TextCallsFor seen surface whole text ending line
  same-text-called endings.Done line c = same-text-reported line _ c
  same-text-called endings.Refused line c = c
  same-text-called endings.Usage line c = c
  same-text-called endings.InputFault line c = c
  same-text-called endings.OutputFault line c = c
  same-text-called endings.ScriptRefused line c = same-refused surface bytes whole same line c
  same-text-called endings.NoMemory line c = c
  same-text-called endings.Turns line c = (c.0, same-text-reported line _ c.1)
  same-text-called endings.TextRefused line c = record { script = c.script; reads = same ∙ c.reads; fault = c.fault; refused = c.refused; writes = c.writes }
  same-text-called endings.Undefined line c = (c.0, same-text-reported line _ c.1)

-- A text of which only the front was taken is too long, as its front is.
module _ (seen : SeenOf) (surface : Surface) (bytes text whole : List ℕ) (long : most_bytes < length text) (longer : most_bytes < length whole) where
  long-reported : (line : List ℕ) (end : End) → IsTextReportOf seen surface bytes text line end → IsTextReportOf seen surface bytes whole line end
  long-reported line end is = absurd (omega (arith, long, is.short))

  long-refused : (fault : TextFault) → RefusesText surface text fault → RefusesText surface whole fault
  long-refused TooLong r = longer
  long-refused (TooDeep at) r = absurd (omega (arith, long, r.0))
  long-refused (NotC at) r = absurd (omega (arith, long, r.0))
  long-refused (NoSuchForm item) r = absurd (omega (arith, long, r.0))

  long-called : (ending : Ending) (line : List ℕ) → TextCallsFor seen surface bytes text ending line → TextCallsFor seen surface bytes whole ending line
  long-called endings.Done line c = long-reported line _ c
  long-called endings.Refused line c = c
  long-called endings.Usage line c = c
  long-called endings.InputFault line c = c
  long-called endings.OutputFault line c = c
  long-called endings.ScriptRefused line c = c
  long-called endings.NoMemory line c = c
  long-called endings.Turns line c = (c.0, long-reported line _ c.1)
  long-called endings.TextRefused line c = record { script = c.script; reads = c.reads; fault = c.fault; refused = long-refused c.fault c.refused; writes = c.writes }
  long-called endings.Undefined line c = (c.0, long-reported line _ c.1)

abbrev IsWholeText : SeenOf → Surface → (bytes : List ℕ) → (told : Option (List ℕ)) → Ending → (line : List ℕ) → Type 0
IsWholeText seen surface bytes told ending line = (whole : List ℕ) × IfSome told (λ it. whole ≡ it) × TextCallsFor seen surface bytes whole ending line

whole-text : (seen : SeenOf) (surface : Surface) (bytes : List ℕ) (told : Option (List ℕ)) (text : List ℕ) (ending : Ending) (line : List ℕ) → IfSome told (λ it. IsScriptOf it text)
    → TextCallsFor seen surface bytes text ending line → IsWholeText seen surface bytes told ending line
whole-text seen surface bytes None text ending line taken c = (text, tt, c)
whole-text seen surface bytes (Some it) text ending line taken c = by_case taken
  where
    by_case : IsScriptOf it text → IsWholeText seen surface bytes (Some it) ending line
    by_case (inl same) = (text, same, c)
    by_case (inr long) = (it, refl, long-called seen surface bytes text it long.1 long.0 ending line c)

-- An accepted package shows its source.
pub shows-source : (name : List ℕ) (files : List (List ℕ)) (p : PackageTree) → IsAcceptedAs name files p → ShowsItsSource p
shows-source name files p accepted =
    let read = accepted.verdict.read in
    let order = accepted.order in
    let struct_order = accepted.struct_order in
    let types : Decides (Breaks (in_order read order struct_order)) None = λ refusal breaks. accepted.verdict.types refusal (any-order read.name read.texts (decls_of read) order struct_order [] [] refusal breaks) in
    let bounds : bounds_refusal (in_order read order struct_order) ≡ None = bounds_ignore_order (resolved read) order struct_order ∙ accepted.verdict.bounds in
    subst ShowsItsSource (sym accepted.tree) (read-seen name files read accepted.verdict.parsed accepted.verdict.names order struct_order accepted.ordered types bounds)

module _ (p : PackageTree) (shows : ShowsItsSource p) (bytes : List ℕ) where
  pub script-seen : (script : Script) → script_of (surface_of p) bytes ≡ Ok script → SourceIsSeen p script.declared.receivers (actions_of script)
  script-seen script reads =
      let numbers = own_numbers p in
      let is : IsScript (surface_of p) script = (bytes, reads) in
      shows script.declared.receivers (actions_of script) (script_sound (surface_of p) script numbers is).sound.receivers (script_lawful (surface_of p) script numbers is)

  report-same : (script : Script) → SourceIsSeen p script.declared.receivers (actions_of script) → engine_report p script ≡ source_report p script
  report-same script seen = ap (report_of (surface_of p) script) seen.same

  -- For the bytes that are held, whatever of them was taken.
  module _ (whole : List ℕ) (same : script_of (surface_of p) whole ≡ script_of (surface_of p) bytes) where
    source-reported : (text : List ℕ) (end : End) → IsReportOf (surface_of p) (engine_report p) bytes text end → IsReportOf (surface_of p) (source_report p) whole text end
    source-reported text end is = record {
      script = is.script;
      reads = same ∙ is.reads;
      is = sym (report-same is.script (script-seen is.script is.reads)) ∙ is.is;
    }

    source-refused : (text : List ℕ) → IsRefusedAs (surface_of p) bytes text → IsRefusedAs (surface_of p) whole text
    source-refused text is = record { refusal = is.refusal; refused = same ∙ is.refused; writes = is.writes }

    pub source-called : (ending : Ending) (text : List ℕ) → ScriptCallsFor (surface_of p) (engine_report p) bytes ending text → ScriptCallsFor (surface_of p) (source_report p) whole ending text
    source-called endings.Done text c = source-reported text _ c
    source-called endings.Refused text c = c
    source-called endings.Usage text c = c
    source-called endings.InputFault text c = c
    source-called endings.OutputFault text c = c
    source-called endings.ScriptRefused text c = source-refused text c
    source-called endings.NoMemory text c = c
    source-called endings.Turns text c = (c.0, source-reported text _ c.1)
    source-called endings.TextRefused text c = c
    source-called endings.Undefined text c = (c.0, source-reported text _ c.1)

  never-undefined : (text : List ℕ) (line : ℕ) → IsReportOf (surface_of p) (engine_report p) bytes text (not_defined line) → ⊥
  never-undefined text line is =
      let seen = script-seen is.script is.reads in
      defined-report (surface_of p) is.script _ seen.defined line (ap (λ (r : Report). r.end) is.is)

-- What running a script that was taken calls for, over a package's source.
module _ (held : List ℕ → Option (List ℕ)) (failed : Option (List ℕ)) (asked : PackageWords) (script : List ℕ) (before now : ℕ) (kept : now ≡ before) (files : List (List ℕ)) (p : PackageTree) (bytes : List ℕ)
    (hold : AreHeld held asked.files files) (accepted : IsAcceptedAs asked.package_name files p) (taken : TakesScript held script bytes) where
  mean-calls : (ending : Ending) (text : List ℕ) → ScriptCallsFor (surface_of p) (engine_report p) bytes ending text → CallsForRun source_report held asked script ending text
  mean-calls ending text c =
      let shows = shows-source asked.package_name files p accepted in
      let whole = whole-script (surface_of p) (held script) bytes taken in
      record {
        files = files;
        bytes = whole.0;
        tree = p;
        hold = hold;
        script_holds = whole.1;
        accepted = accepted;
        calls = source-called p shows bytes whole.0 whole.2 ending text c;
      }

  pub mean-told : (ending : Ending) (text : List ℕ) → ScriptCallsFor (surface_of p) (engine_report p) bytes ending text → MeanTold held failed asked script before now ending text
  mean-told endings.Done text c = (mean-calls endings.Done text c, kept)
  mean-told endings.Refused text c = absurd c
  mean-told endings.Usage text c = absurd c
  mean-told endings.InputFault text c = absurd c
  mean-told endings.OutputFault text c = absurd c
  mean-told endings.ScriptRefused text c = (mean-calls endings.ScriptRefused text c, kept)
  mean-told endings.NoMemory text c = absurd c
  mean-told endings.Turns text c = (mean-calls endings.Turns text c, kept)
  mean-told endings.TextRefused text c = absurd c
  mean-told endings.Undefined text c = absurd (never-undefined p (shows-source asked.package_name files p accepted) bytes text c.0 c.1)

  -- Over its C text.
  module _ (seen : SeenOf) where
    run-calls : (ending : Ending) (text : List ℕ) → ScriptCallsFor (surface_of p) (lowered_report seen p) bytes ending text → CallsForRun (lowered_report seen) held asked script ending text
    run-calls ending text c =
        let whole = whole-script (surface_of p) (held script) bytes taken in
        record {
          files = files;
          bytes = whole.0;
          tree = p;
          hold = hold;
          script_holds = whole.1;
          accepted = accepted;
          calls = same-called (surface_of p) (lowered_report seen p) bytes whole.0 whole.2 ending text c;
        }

    pub run-told : (ending : Ending) (text : List ℕ) → ScriptCallsFor (surface_of p) (lowered_report seen p) bytes ending text → RunTold seen held failed asked script before now ending text
    run-told endings.Done text c = (run-calls endings.Done text c, kept)
    run-told endings.Refused text c = absurd c
    run-told endings.Usage text c = absurd c
    run-told endings.InputFault text c = absurd c
    run-told endings.OutputFault text c = absurd c
    run-told endings.ScriptRefused text c = (run-calls endings.ScriptRefused text c, kept)
    run-told endings.NoMemory text c = absurd c
    run-told endings.Turns text c = (run-calls endings.Turns text c, kept)
    run-told endings.TextRefused text c = absurd c
    run-told endings.Undefined text c = (run-calls endings.Undefined text c, kept)

    -- Over another text.
    module _ (other text : List ℕ) (text_taken : TakesScript held other text) where
      exec-calls : (ending : Ending) (line : List ℕ) → TextCallsFor seen (surface_of p) bytes text ending line → CallsForText seen held asked script other ending line
      exec-calls ending line c =
          let whole = whole-script (surface_of p) (held script) bytes taken in
          let whole_text = whole-text seen (surface_of p) bytes (held other) text ending line text_taken c in
          record {
            files = files;
            bytes = whole.0;
            text_bytes = whole_text.0;
            tree = p;
            hold = hold;
            script_holds = whole.1;
            text_holds = whole_text.1;
            accepted = accepted;
            calls = same-text-called seen (surface_of p) bytes whole.0 whole.2 whole_text.0 ending line whole_text.2;
          }

      pub exec-told : (ending : Ending) (line : List ℕ) → TextCallsFor seen (surface_of p) bytes text ending line → ExecTold seen held failed asked script other before now ending line
      exec-told endings.Done line c = (exec-calls endings.Done line c, kept)
      exec-told endings.Refused line c = absurd c
      exec-told endings.Usage line c = absurd c
      exec-told endings.InputFault line c = absurd c
      exec-told endings.OutputFault line c = absurd c
      exec-told endings.ScriptRefused line c = (exec-calls endings.ScriptRefused line c, kept)
      exec-told endings.NoMemory line c = absurd c
      exec-told endings.Turns line c = (exec-calls endings.Turns line c, kept)
      exec-told endings.TextRefused line c = (exec-calls endings.TextRefused line c, kept)
      exec-told endings.Undefined line c = (exec-calls endings.Undefined line c, kept)
