-- What comes of a script that is run over the source of a package.
use Rattle.wf_ast.specs.TypedPackage.{PackageTree, surface_of}
use Rattle.wf_bufs.specs.EngineLaw.{steps_of}
use Rattle.wf_mean.specs.SourceEngines.{call_gives, first_state, init_gives, surface_told}
use Rattle.wf_script_rules.specs.Report.{Report}
use Rattle.wf_script_rules.specs.Scripts.{Script}
use Rattle.wf_tool_runs.specs.Runs.{report_over}

-- The report of a script over the engine of a package's source.
abbrev pub engine_report : PackageTree → Script → Report
engine_report p script = report_over (steps_of surface_told init_gives call_gives) (first_state p script.declared.receivers) (surface_of p) script
