-- What comes of a script that is run over the C text of an accepted package.
use Rattle.wf_ast.specs.TypedPackage.{PackageTree, surface_of}
use Rattle.c_text.specs.CGrammar.{unit_tokens}
use Rattle.c_read_grammar.specs.Outcomes.{IsShallow}
use Rattle.c_meaning.specs.UnitForm.{HasUnitForm}
use Rattle.c_step.specs.Loading.{SeenOf}
use Rattle.wf_script_rules.specs.Report.{Report}
use Rattle.wf_script_rules.specs.Scripts.{Script}
use Rattle.wf_lower.specs.Unit.{lowered_unit}
use Rattle.wf_tool_runs.specs.Units.{text_report}

-- The report of a script by what is seen of the C text of a package.
abbrev pub lowered_report : SeenOf → PackageTree → Script → Report
lowered_report seen p = text_report seen (lowered_unit p) (surface_of p)

-- The text has the unit form for the package's surface, and never opens a bracket where 512 are open.
pub record IsLowered (p : PackageTree) : Type 0 where
  pub form : HasUnitForm (surface_of p) (lowered_unit p)
  pub shallow : IsShallow 0 (unit_tokens (lowered_unit p))
