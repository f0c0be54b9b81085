-- Fields by their types.
use Rattle.std.proofs.Common.{◌≡◌, ◌≤◌, false, List, [], ◌∷◌, length, None, refl, arith}
use Rattle.wf_ast.specs.declared.parsed.Prefix.{Prefix}
use Rattle.wf_ast.specs.declared.parsed.Prefix.TheVariants as prefixes
use Rattle.wf_ast.specs.ParsedTree.{ExprTree, TypeTree}
use Rattle.wf_ast.specs.ParsedTrees.{all_prefixed}
use Rattle.wf_names_rules.specs.Declarations.{Declared, text_of}
use Rattle.wf_names_rules.specs.ConstantValues.{known_constants, value_of}
use Rattle.wf_names_rules.specs.Sizes.{plain_bytes, struct_held}
use Rattle.wf_names_sizes.specs.declared.environment.Environment.{Environment}
use Rattle.wf_names_sizes.specs.ValuesBy.{Knows, constant_by, value_by}
use Rattle.wf_names_sizes.proofs.ValueLemmas.{constant_is, value_is, not_hidden}

-- A slice, and an array of arrays or slices, can't be a field.
pub deep_bytes : (d : Declared) (es : List ExprTree) (ps : List Prefix) (of : TypeTree) → 2 ≤ length ps → plain_bytes d (all_prefixed es ps of) ≡ 0
deep_bytes d es [] of h = absurd (omega (arith, h))
deep_bytes d es (p ∷ []) of h = absurd (omega (arith, h))
deep_bytes d es (prefixes.Slice at ∷ p ∷ ps) of h = refl
deep_bytes d es (prefixes.Array l at ∷ prefixes.Slice at2 ∷ ps) of h = omega arith
deep_bytes d es (prefixes.Array l at ∷ prefixes.Array l2 at2 ∷ ps) of h = omega arith

-- No array or slice is a struct.
pub deep_held : (d : Declared) (es : List ExprTree) (ps : List Prefix) (of : TypeTree) → 1 ≤ length ps → None ≡ struct_held d (all_prefixed es ps of)
deep_held d es [] of h = absurd (omega (arith, h))
deep_held d es (prefixes.Slice at ∷ ps) of h = refl
deep_held d es (prefixes.Array l at ∷ ps) of h = refl

-- A number by the tables, where nothing is hidden.
pub value_by_all : (d : Declared) (env : Environment) → env.locals ≡ None → Knows env.constants.now (known_constants d) → (e : ExprTree)
    → value_by (text_of d) (constant_by env) e ≡ value_of d (λ text. false) (known_constants d) e
value_by_all d env outside k =
    value_is d (λ text. false) (known_constants d) (constant_by env) (constant_is env (known_constants d) (λ text. false) k (not_hidden env outside))
