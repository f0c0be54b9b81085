-- What the phase of names answers of a parsed package.
use Rattle.std.specs.Prelude.{◌≡◌, ℕ, ⊤, List}
use Rattle.wf_text.specs.declared.faults.PhaseFault.{PhaseFault}
use Rattle.wf_text.specs.declared.faults.PhaseFault.TheVariants as phase
use Rattle.wf_text.specs.declared.rules.Refusal.{Refusal}
use Rattle.wf_text.specs.Precedence.{IsFirst, Decides}
use Rattle.wf_ast.specs.ParsedParts.{Parsed}
use Rattle.wf_ast.specs.ParsedTrees.{decl_trees}
use Rattle.wf_named.specs.NamedParts.{NamedParts, named_package}
use Rattle.wf_names_rules.specs.Declarations.{Declared, declared_in}
use Rattle.wf_names_rules.specs.NameRules.{Breaks}
use Rattle.wf_names_scopes.specs.Agreeing.{TellsPackage}
use Rattle.wf_names_cycles.specs.CyclesFound.{IsCallOrder, IsStructOrder}
use Rattle.wf_names_resolve.specs.Package.{resolved_package}
use Rattle.wf_names_laws.specs.Ordered.{HasOrder}
use Rattle.wf_names.specs.declared.findings.Findings.{Findings}

-- What is found of a package: the first refusal, tables that tell what it declares, and orders of its methods and of its
-- structs.
pub record AreFindings (d : Declared) (found : Findings) : Type 0 where
  pub decides : Decides (Breaks d) found.refusal
  pub tables : TellsPackage d found.tables
  pub order : IsCallOrder d found.order.items
  pub struct_order : IsStructOrder d found.struct_order.items

-- A package is refused by the first refusal of all that it breaks of the rules of names. Want of memory says nothing of it.
abbrev pub IsMisnamed : Parsed → PhaseFault → Type 0
IsMisnamed parsed (phase.Refused refusal) = IsFirst (Breaks (declared_in parsed)) refusal
IsMisnamed parsed phase.Memory = ⊤

-- A package breaks no rule of names, and this is its resolved tree: every name stands for what it names. One order has
-- the numbers of all methods, and each method calls only those before it; the other those of all structs, and the fields
-- of each hold only those before it.
pub record IsResolved (parsed : Parsed) (named : NamedParts) : Type 0 where
  pub kept : (refusal : Refusal) → Breaks (declared_in parsed) refusal → ⊥
  pub order : List ℕ
  pub struct_order : List ℕ
  pub tree : named_package named ≡ resolved_package parsed.name parsed.texts (decl_trees parsed.exprs parsed.stmts parsed.decls) order struct_order
  pub ordered : HasOrder (named_package named)
