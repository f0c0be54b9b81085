-- A text and its package's surface.
use Rattle.std.specs.Prelude.{◌≡◌, ℕ, true, List, Some, slice_get}
use Rattle.wf_text.specs.Surface.{Surface}
use Rattle.wf_ast.specs.TypedPackage.{PackageTree, surface_of}
use Rattle.wf_ast.specs.WellTyped.{well_typed}
use Rattle.c_text.specs.CTree.{ItemTree}
use Rattle.c_meaning.specs.UnitForm.{meets_surface, is_complete}
use Rattle.wf_lower.specs.Unit.{lowered_unit}
use Rattle.wf_lower_laws.specs.ItemLaw.{HasItemNames}

-- An item with the name of one of the surface's functions or structs is that one, and each function is there.
pub record MeetsSurface (surface : Surface) (items : List ItemTree) : Type 0 where
  pub meets : (i : ℕ) (item : ItemTree) → slice_get items i ≡ Some item → meets_surface surface item ≡ true
  pub complete : is_complete surface items ≡ true

-- So it is in the text of a package that keeps the rules of types and has such names.
abbrev pub TextsMeetSurfaces : Type 0
TextsMeetSurfaces = (p : PackageTree) → well_typed p ≡ true → HasItemNames p → MeetsSurface (surface_of p) (lowered_unit p)
