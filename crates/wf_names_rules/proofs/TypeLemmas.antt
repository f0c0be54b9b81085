-- Types of more than one prefix.
use Rattle.std.proofs.Common.{◌≡◌, ℕ, ◌≤◌, List, [], ◌∷◌, length, refl, arith}
use Rattle.wf_ast.specs.declared.parsed.Prefix.{Prefix}
use Rattle.wf_ast.specs.declared.parsed.Prefix.TheVariants as prefixes
use Rattle.wf_ast.specs.ParsedTree.{ExprTree, TypeTree}
use Rattle.wf_ast.specs.ParsedTrees.{all_prefixed}
use Rattle.wf_names_rules.specs.declared.sorts.Sort.TheVariants as sorts
use Rattle.wf_names_rules.specs.Meanings.{sort_of}

-- Nothing may be called on an array or slice of arrays or slices.
pub deep_sort : (bytes : ℕ → List ℕ) (es : List ExprTree) (ps : List Prefix) (core : TypeTree) → 2 ≤ length ps → sorts.Plain ≡ sort_of bytes (all_prefixed es ps core)
deep_sort bytes es [] core h = absurd (omega (arith, h))
deep_sort bytes es (p ∷ []) core h = absurd (omega (arith, h))
deep_sort bytes es (prefixes.Slice at ∷ prefixes.Slice at2 ∷ ps) core h = refl
deep_sort bytes es (prefixes.Slice at ∷ prefixes.Array l at2 ∷ ps) core h = refl
deep_sort bytes es (prefixes.Array l at ∷ prefixes.Slice at2 ∷ ps) core h = refl
deep_sort bytes es (prefixes.Array l at ∷ prefixes.Array l2 at2 ∷ ps) core h = refl
