-- What words call for over a plain loader, of whose engines that is seen which the meaning of C gives of a text.
use Rattle.std.specs.Prelude.{◌≡◌, ℕ, Bool, true, List, Option}
use Rattle.wf_text.specs.Surface.{Surface}
use Rattle.wf_ast.specs.TypedPackage.{PackageTree}
use Rattle.c_text.specs.CTree.{ItemTree}
use Rattle.c_meaning.specs.CRun.{c_run}
use Rattle.c_step.specs.Loading.{SeenOf, IsPlain}
use Rattle.wf_script_rules.specs.Scripts.{Script}
use Rattle.wf_tool_runs.specs.Lowered.{lowered_report}
use Rattle.wf_tool_runs.specs.Units.{text_report}
use Rattle.wf_tool.specs.declared.ending.Ending.{Ending}
use Rattle.wf_tool.specs.Answer.{CallFor}

-- The report of a script over a package's C text, and over one that is handed in, is by `c_run` of the text; and so whatever words
-- call for, they call for by `c_run`, and for nothing else.
pub record RunsByC (seen : SeenOf) : Type 0 where
  pub packages : (p : PackageTree) (script : Script) → lowered_report seen p script ≡ lowered_report c_run p script
  pub texts : (items : List ItemTree) (surface : Surface) (script : Script) → text_report seen items surface script ≡ text_report c_run items surface script
  pub to : (held : List ℕ → Option (List ℕ)) (failed : Option (List ℕ)) (words : List (List ℕ)) (ending : Ending) (text : List ℕ) → CallFor seen held failed words ending text → CallFor c_run held failed words ending text
  pub from : (held : List ℕ → Option (List ℕ)) (failed : Option (List ℕ)) (words : List (List ℕ)) (ending : Ending) (text : List ℕ) → CallFor c_run held failed words ending text → CallFor seen held failed words ending text

-- So it is over each loader that is plain: `plain` and `seen` are what it tells, and the first premise is its law.
abbrev pub PlainLoadersRunByC : Type 0
PlainLoadersRunByC = (plain : Bool) (seen : SeenOf) → IsPlain plain seen → plain ≡ true → RunsByC seen
