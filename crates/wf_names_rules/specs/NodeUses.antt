-- What the parts of nodes use that have no tree of their own.
use Rattle.std.specs.Prelude.{List, []}
use Rattle.wf_ast.specs.declared.parsed.Prefix.{Prefix}
use Rattle.wf_ast.specs.declared.parsed.Prefix.TheVariants as prefixes
use Rattle.wf_ast.specs.ParsedTree.{ExprTree}
use Rattle.wf_ast.specs.ParsedTrees.{expr_at}
use Rattle.wf_names_rules.specs.Uses.{Use, uses_of}

-- What stands before a type.
abbrev pub prefix_uses : List ExprTree → Prefix → List Use
prefix_uses ts (prefixes.Slice at) = []
prefix_uses ts (prefixes.Array length at) = uses_of (expr_at ts length)
