-- A number above those of the parts of a type: what a walk's measure counts from.
use Rattle.std.specs.Prelude.{ℕ, max}
use Rattle.wf_ast.specs.Above.{above_prefixes, above_bounds}
use Rattle.wf_named.specs.declared.nodes.NamedType.{NamedType}

abbrev pub above_type : NamedType → ℕ
above_type t = max (above_prefixes t.prefixes) (above_bounds t.bounds)
