-- What is promised of an accepted package: whatever a host does with it, it is never stuck.
use Rattle.std.specs.Prelude.{ℕ, List}
use Rattle.wf_ast.specs.ParsedParts.{Parsed}
use Rattle.wf_ast.specs.ReadPackage.{decls_of}
use Rattle.wf_parse.specs.Parsing.{IsParsed}
use Rattle.wf_named.specs.NamedTree.{NamedPackageTree}
use Rattle.wf_names_resolve.specs.Package.{resolved_package}
use Rattle.wf_names_laws.specs.Ordered.{HasOrder}
use Rattle.wf_typed_tree.specs.ElaboratedPackage.{typed_package}
use Rattle.wf_sound_laws.specs.SoundLaws.{IsNeverStuck}
use Rattle.wf_tool.specs.Verdict.{IsAccepted}

-- The package that is read, with every name standing for what it names, and its methods and its structs in orders.
abbrev pub in_order : Parsed → (order struct_order : List ℕ) → NamedPackageTree
in_order read order struct_order = resolved_package read.name read.texts (decls_of read) order struct_order

-- There are orders in which each method stands after those that it calls, and each struct after those that its fields hold.
abbrev pub HasSomeOrder : Parsed → Type 0
HasSomeOrder read = (order : List ℕ) × (struct_order : List ℕ) × HasOrder (in_order read order struct_order)

-- In all such orders its typed tree means something at every step: with receivers of its public structs no action of a host,
-- within whatever number of turns, is stuck.
abbrev pub RunsInOrder : Parsed → Type 0
RunsInOrder read = (order struct_order : List ℕ) → HasOrder (in_order read order struct_order) → IsNeverStuck (typed_package (in_order read order struct_order))

-- The package that these files have is never stuck.
pub record NeverStuck (name : List ℕ) (files : List (List ℕ)) : Type 0 where
  pub read : Parsed
  pub parsed : IsParsed name files read
  pub ordered : HasSomeOrder read
  pub defined : RunsInOrder read

-- So it is of every package that is accepted: it has such orders, and in all of them it is never stuck.
abbrev pub AcceptedAreNeverStuck : Type 0
AcceptedAreNeverStuck = (name : List ℕ) (files : List (List ℕ)) (methods : ℕ) → IsAccepted name files methods → NeverStuck name files
