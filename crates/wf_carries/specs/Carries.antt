-- That a C text carries a package: whatever a host does, it sees of the text what it sees of the package.
use Rattle.std.specs.Prelude.{ℕ, ◌≡◌, List}
use Rattle.wf_text.specs.HostActions.{HostAction, Receiver}
use Rattle.wf_base.specs.BaseOps.{Buffer}
use Rattle.wf_base.specs.LawfulActions.{AreDeclared, AreLawful}
use Rattle.wf_ast.specs.TypedPackage.{PackageTree, surface_of}
use Rattle.wf_meaning.specs.SourceCall.{source_run}
use Rattle.c_text.specs.CTree.{ItemTree}
use Rattle.c_text.specs.CGrammar.{IsTextOf}
use Rattle.c_meaning.specs.UnitForm.{HasUnitForm}
use Rattle.c_meaning.specs.CRun.{c_run}

-- The two meanings give the same for these receivers and these actions: the same answers, bytes and places, call by
-- call, up to the first call that needs more turns.
abbrev pub AnswersAlike : PackageTree → List ItemTree → List Receiver → List (HostAction Buffer) → Type 0
AnswersAlike p items receivers actions = c_run items (surface_of p) receivers actions ≡ source_run p receivers actions

-- The tree of a text carries a package: it has the unit form for the package's public surface, and answers every
-- lawful list of host actions as the package does, whatever receivers are declared.
pub record TreeCarries (p : PackageTree) (items : List ItemTree) : Type 0 where
  pub form : HasUnitForm (surface_of p) items
  pub alike : (receivers : List Receiver) (actions : List (HostAction Buffer))
      → AreDeclared (surface_of p) receivers → AreLawful (surface_of p) receivers 0 0 actions
      → AnswersAlike p items receivers actions

-- A text carries a package: it is a text of the C subset, and its tree carries the package.
pub record Carries (p : PackageTree) (text : List ℕ) : Type 0 where
  pub items : List ItemTree
  pub written : IsTextOf text items
  pub tree : TreeCarries p items
