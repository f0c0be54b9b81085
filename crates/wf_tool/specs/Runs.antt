-- What is answered where a script is run over a package that is accepted.
use Rattle.std.specs.Prelude.{◌≡◌, ◌≤◌, ℕ, List, length, Ok, Err}
use Rattle.wf_text.specs.Surface.{Surface}
use Rattle.wf_ast.specs.TypedPackage.{PackageTree, surface_of}
use Rattle.wf_typed_tree.specs.ElaboratedPackage.{typed_package}
use Rattle.wf_names_laws.specs.Ordered.{HasOrder}
use Rattle.wf_meaning.specs.SourceCall.{source_run}
use Rattle.c_text.specs.CTree.{ItemTree}
use Rattle.c_read_grammar.specs.Outcomes.{HasOutcome, whole}
use Rattle.c_meaning.specs.UnitForm.{HasUnitForm}
use Rattle.c_step.specs.Loading.{SeenOf}
use Rattle.wf_script_rules.specs.Report.{Report, End, finished, out_of_turns, not_defined, report_of}
use Rattle.wf_script_rules.specs.Scripts.{Script, Refusal, actions_of, script_of}
use Rattle.wf_tool_runs.specs.declared.texts.TextFault.{TextFault}
use Rattle.wf_tool_runs.specs.Units.{RefusesText, most_text, text_report}
use Rattle.wf_tool.specs.declared.ending.Ending.{Ending}
use Rattle.wf_tool.specs.declared.ending.Ending.TheVariants.{Done, Refused, Usage, InputFault, OutputFault, ScriptRefused, NoMemory, Turns, TextRefused, Undefined}
use Rattle.wf_tool.specs.Lines.{script_line, text_line}
use Rattle.wf_tool.specs.Soundness.{NeverStuck, in_order}
use Rattle.wf_tool.specs.Verdict.{IsAccepted}

-- The files are accepted as a package that has this typed tree, and so it is never stuck. Its methods stand in an order in which
-- each is after those that it calls, and its structs in one in which each is after those that its fields hold.
pub record IsAcceptedAs (name : List ℕ) (files : List (List ℕ)) (p : PackageTree) : Type 0 where
  pub verdict : IsAccepted name files (length p.methods)
  pub runs : NeverStuck name files
  pub order : List ℕ
  pub struct_order : List ℕ
  pub ordered : HasOrder (in_order verdict.read order struct_order)
  pub tree : p ≡ typed_package (in_order verdict.read order struct_order)

-- The report of a script by what is seen of the package's source.
abbrev pub source_report : PackageTree → Script → Report
source_report p script = report_of (surface_of p) script (source_run p script.declared.receivers (actions_of script))

-- The bytes are a script over this surface, of which this is the report with its end.
pub record IsReportOf (surface : Surface) (report : Script → Report) (bytes text : List ℕ) (end : End) : Type 0 where
  pub script : Script
  pub reads : script_of surface bytes ≡ Ok script
  pub is : report script ≡ record { text = text; end = end }

-- They are refused: the line tells the first line that breaks a rule, and the rule.
pub record IsRefusedAs (surface : Surface) (bytes text : List ℕ) : Type 0 where
  pub refusal : Refusal
  pub refused : script_of surface bytes ≡ Err refusal
  pub writes : text ≡ script_line refusal.rule refusal.line

-- Running a script with these bytes calls for this ending, with this text.
abbrev pub ScriptCallsFor : Surface → (report : Script → Report) → (bytes : List ℕ) → Ending → (text : List ℕ) → Type 0
ScriptCallsFor surface report bytes Done text = IsReportOf surface report bytes text finished
ScriptCallsFor surface report bytes Refused text = ⊥
ScriptCallsFor surface report bytes Usage text = ⊥
ScriptCallsFor surface report bytes InputFault text = ⊥
ScriptCallsFor surface report bytes OutputFault text = ⊥
ScriptCallsFor surface report bytes ScriptRefused text = IsRefusedAs surface bytes text
ScriptCallsFor surface report bytes NoMemory text = ⊥
ScriptCallsFor surface report bytes Turns text = (line : ℕ) × IsReportOf surface report bytes text (out_of_turns line)
ScriptCallsFor surface report bytes TextRefused text = ⊥
ScriptCallsFor surface report bytes Undefined text = (line : ℕ) × IsReportOf surface report bytes text (not_defined line)

-- The bytes of a text are that of these items, which have the unit form, and this is the report of a script with these bytes, with
-- its end, by what is seen of the text.
pub record IsTextReportOf (seen : SeenOf) (surface : Surface) (bytes text line : List ℕ) (end : End) : Type 0 where
  pub short : length text ≤ most_text
  pub items : List ItemTree
  pub read : HasOutcome text (whole items)
  pub form : HasUnitForm surface items
  pub reported : IsReportOf surface (text_report seen items surface) bytes line end

-- The script is read, and the text is refused: the line tells why.
pub record IsTextRefusedAs (surface : Surface) (bytes text line : List ℕ) : Type 0 where
  pub script : Script
  pub reads : script_of surface bytes ≡ Ok script
  pub fault : TextFault
  pub refused : RefusesText surface text fault
  pub writes : line ≡ text_line fault

-- Running a script with these bytes over a text with these calls for this ending, with this line or report.
abbrev pub TextCallsFor : SeenOf → Surface → (bytes text : List ℕ) → Ending → (line : List ℕ) → Type 0
TextCallsFor seen surface bytes text Done line = IsTextReportOf seen surface bytes text line finished
TextCallsFor seen surface bytes text Refused line = ⊥
TextCallsFor seen surface bytes text Usage line = ⊥
TextCallsFor seen surface bytes text InputFault line = ⊥
TextCallsFor seen surface bytes text OutputFault line = ⊥
TextCallsFor seen surface bytes text ScriptRefused line = IsRefusedAs surface bytes line
TextCallsFor seen surface bytes text NoMemory line = ⊥
TextCallsFor seen surface bytes text Turns line = (at : ℕ) × IsTextReportOf seen surface bytes text line (out_of_turns at)
TextCallsFor seen surface bytes text TextRefused line = IsTextRefusedAs surface bytes text line
TextCallsFor seen surface bytes text Undefined line = (at : ℕ) × IsTextReportOf seen surface bytes text line (not_defined at)
