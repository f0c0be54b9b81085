-- The names of an accepted package, as its text needs them.
use Rattle.std.specs.Prelude.{◌≡◌, false, bytes_eq, codes}
use Rattle.wf_ast.specs.declared.typed_nodes.TypedNodes.{TypedNodes}
use Rattle.wf_ast.specs.TypedInvariant.{IsTyped}
use Rattle.wf_ast.specs.TypedPackage.{PackageTree, package_of}
use Rattle.wf_typed_laws.specs.PlainNames.{HasPlainNames}
use Rattle.wf_typed_laws.specs.ApartNames.{HasApartNames}
use Rattle.wf_lower_laws.specs.FieldLaw.{HasFieldNames}
use Rattle.wf_lower_laws.specs.NameLaw.{HasNames}
use Rattle.wf_lower_laws.specs.ItemLaw.{HasItemNames}

-- Names that are plain and differ, of a package that isn't named `base`.
pub record IsNamed (p : PackageTree) : Type 0 where
  pub plain : HasPlainNames p
  pub apart : HasApartNames p
  pub package_name : bytes_eq p.package_name (codes "base") ≡ false

pub record KeepsNames (p : PackageTree) : Type 0 where
  pub variables : HasNames p
  pub items : HasItemNames p
  pub fields : HasFieldNames p

abbrev pub NamesAreKept : Type 0
NamesAreKept = (nodes : TypedNodes) → IsTyped nodes → IsNamed (package_of nodes) → KeepsNames (package_of nodes)
