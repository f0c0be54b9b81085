-- That a text and a package answer one list of host actions alike.
use Rattle.std.specs.Prelude.{◌≡◌, List}
use Rattle.wf_text.specs.HostActions.{HostAction, Receiver}
use Rattle.wf_base.specs.BaseOps.{Buffer}
use Rattle.wf_ast.specs.TypedPackage.{PackageTree, surface_of}
use Rattle.wf_meaning.specs.SourceCall.{source_run}
use Rattle.c_text.specs.CTree.{ItemTree}
use Rattle.c_meaning.specs.CRun.{c_run}

abbrev pub RunsAlike : PackageTree → List ItemTree → List Receiver → List (HostAction Buffer) → Type 0
RunsAlike p items receivers actions = c_run items (surface_of p) receivers actions ≡ source_run p receivers actions
