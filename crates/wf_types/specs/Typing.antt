-- What the phase of types answers of a resolved package.
use Rattle.std.specs.Prelude.{◌≡◌, ⊤}
use Rattle.wf_text.specs.declared.faults.PhaseFault.{PhaseFault}
use Rattle.wf_text.specs.declared.faults.PhaseFault.TheVariants as phase
use Rattle.wf_text.specs.declared.rules.Refusal.{Refusal}
use Rattle.wf_text.specs.Precedence.{IsFirst}
use Rattle.wf_ast.specs.declared.typed_nodes.TypedNodes.{TypedNodes}
use Rattle.wf_ast.specs.TypedPackage.{package_of}
use Rattle.wf_named.specs.NamedParts.{NamedParts, named_package}
use Rattle.wf_types_rules.specs.TypeRules.{Breaks}
use Rattle.wf_typed_tree.specs.ElaboratedPackage.{typed_package}
use Rattle.wf_typed_tree.specs.Entries as known
use Rattle.wf_typed_tree.specs.Entries.{package_entries}
use Rattle.wf_types.specs.Bodies.{without_bodies}
use Rattle.wf_types.specs.DeclaredNodes.{declared_nodes}

-- A package that breaks rules of types and effects is refused by the first refusal of all that it breaks. Want of memory says
-- nothing of it.
abbrev pub IsMistyped : NamedParts → PhaseFault → Type 0
IsMistyped named (phase.Refused refusal) = IsFirst (Breaks (named_package named)) refusal
IsMistyped named phase.Memory = ⊤

-- A package breaks no rule of types and effects, and these are the nodes of its typed tree, with the names, the places and the
-- types of all that it declares. Of its expressions it has those of the package, each at its place and with its type and its
-- number, and no other.
pub record IsElaborated (named : NamedParts) (typed : TypedNodes) : Type 0 where
  pub kept : (refusal : Refusal) → Breaks (named_package named) refusal → ⊥
  pub tree : package_of typed ≡ typed_package (named_package named)
  pub declared : without_bodies typed ≡ declared_nodes named
  pub entries : known.entries typed ≡ package_entries (named_package named)
