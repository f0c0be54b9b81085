-- What holds of the nodes of a package whose files are read.
use Rattle.std.specs.Prelude.{◌≡◌, ◌≤◌, true, List, length}
use Rattle.std.specs.List.{list_all}
use Rattle.wf_ast.specs.ParsedParts.{Parsed}
use Rattle.wf_ast.specs.ParsedTree.{DeclTree}
use Rattle.wf_ast.specs.ParsedTrees.{decl_trees}
use Rattle.wf_ast.specs.StatementPlaces.{bodies_rise}
use Rattle.wf_ast.specs.WellFormed.{well_formed}

-- The declarations of a package, as trees.
abbrev pub decls_of : Parsed → List DeclTree
decls_of p = decl_trees p.exprs p.stmts p.decls

-- They are as the grammar gives, the statements of each method stand in order of place, and there are at most 65,536.
pub record IsRead (p : Parsed) : Type 0 where
  pub formed : list_all well_formed (decls_of p) ≡ true
  pub rises : bodies_rise (decls_of p) ≡ true
  pub few : length p.decls ≤ 65536
