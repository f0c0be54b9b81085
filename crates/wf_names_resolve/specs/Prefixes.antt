-- What types begin and end with, resolved.
use Rattle.std.specs.Prelude.{◌≡◌, ℕ, List, Option, Some}
use Rattle.wf_ast.specs.declared.parsed.Core.{Core}
use Rattle.wf_ast.specs.declared.parsed.Core.TheVariants as cores
use Rattle.wf_ast.specs.declared.parsed.Prefix.{Prefix}
use Rattle.wf_ast.specs.ParsedTree.{ExprTree, TypeTree}
use Rattle.wf_ast.specs.ParsedTrees as parsed
use Rattle.wf_named.specs.declared.nodes.BaseType.TheVariants as bases
use Rattle.wf_named.specs.declared.nodes.NamedCore.{NamedCore}
use Rattle.wf_named.specs.declared.nodes.NamedCore.TheVariants as named_cores
use Rattle.wf_named.specs.NamedTree.{NamedExprTree}
use Rattle.wf_named.specs.NamedTrees.{prefixed, all_prefixed}
use Rattle.wf_names_resolve.specs.Standing.{Standing}
use Rattle.wf_names_resolve.specs.Resolved.{number_or, base_type_named, resolved_type}

-- Before whatever type, the resolved prefix makes the resolved type; `es` are the parsed trees and `ts` the
-- resolved ones.
abbrev pub ResolvesPrefix : Standing → (es : List ExprTree) → Prefix → (ts : List NamedExprTree) → Prefix → Type 0
ResolvesPrefix k es p ts r = (of : TypeTree) → prefixed ts r (resolved_type k of) ≡ resolved_type k (parsed.prefixed es p of)

abbrev pub ResolvesPrefixes : Standing → (es : List ExprTree) → List Prefix → (ts : List NamedExprTree) → List Prefix → Type 0
ResolvesPrefixes k es ps ts rs = (of : TypeTree) → all_prefixed ts rs (resolved_type k of) ≡ resolved_type k (parsed.all_prefixed es ps of)

-- What a type ends with, by the bytes of texts and the numbers of structs.
abbrev pub resolved_core : (bytes : ℕ → List ℕ) → (structure : ℕ → Option ℕ) → Core → NamedCore
resolved_core bytes structure (cores.Base name at) = named_cores.Base (base_type_named (bytes name.text.0)) at
resolved_core bytes structure (cores.BaseStatus at) = named_cores.Base (Some bases.Status) at
resolved_core bytes structure (cores.Struct name) = named_cores.Struct (record { 0 = number_or (structure name.text.0) }) name.at
