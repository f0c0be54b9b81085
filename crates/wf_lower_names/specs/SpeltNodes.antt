-- The names of a typed package, and the texts of its statuses, as C spells names and strings.
use Rattle.std.specs.Prelude.{◌≡◌, ◌<◌, true, length}
use Rattle.std.specs.List.{AllByRecursion, list_all}
use Rattle.wf_ast.specs.declared.typed_nodes.TypedNodes.{TypedNodes}
use Rattle.wf_ast.specs.TypedInvariant.{IsTyped}
use Rattle.wf_ast.specs.TypedPackage.{MethodTree, PackageTree, package_of}
use Rattle.wf_tokens.specs.Runs.{is_run}
use Rattle.wf_typed_laws.specs.PlainNames.{HasPlainNames}
use Rattle.wf_typed_laws.specs.StatusTexts.{is_plain_text}
use Rattle.wf_lower.specs.Made.{IsSpelt}

-- What is told of a package whose text C can spell.
pub record IsPlainPackage (p : PackageTree) : Type 0 where
  pub name : list_all is_run p.package_name ≡ true
  pub names : HasPlainNames p
  pub texts : list_all is_plain_text p.statuses ≡ true
  pub owners : AllByRecursion (λ (m : MethodTree). m.of < length p.structs) p.methods

abbrev pub NodesAreSpelt : Type 0
NodesAreSpelt = (nodes : TypedNodes) → IsTyped nodes → IsPlainPackage (package_of nodes) → IsSpelt nodes
