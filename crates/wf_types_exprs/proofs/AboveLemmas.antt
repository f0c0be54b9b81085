-- A number above those of the parts of a type.
use Rattle.std.proofs.Common.{ℕ, ◌≤◌, arith}
use Rattle.wf_ast.proofs.AboveLemmas.{prefixes_above, bounds_above}
use Rattle.wf_named.specs.declared.nodes.NamedType.{NamedType}
use Rattle.wf_named.specs.NamedParts.{NamedTypeBelow}
use Rattle.wf_types_exprs.specs.Above.{above_type}

pub type_above : (k : ℕ) (t : NamedType) → NamedTypeBelow k t → above_type t ≤ k
type_above k t h = omega (arith, prefixes_above k t.prefixes h.0, bounds_above k t.bounds h.1)
