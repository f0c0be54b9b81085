-- Types that are not plain widths.
use Rattle.std.proofs.Common.{◌≡◌, false, List, [], ◌∷◌, length, Some, None, refl}
use Rattle.std.specs.Bool.{◌==◌}
use Rattle.wf_ast.specs.declared.parsed.Bounds.{Bounds}
use Rattle.wf_ast.specs.declared.parsed.Prefix.{Prefix}
use Rattle.wf_ast.specs.declared.parsed.Prefix.TheVariants as prefixes
use Rattle.wf_named.specs.declared.nodes.BaseType.TheVariants as bases
use Rattle.wf_named.specs.declared.nodes.NamedCore.{NamedCore}
use Rattle.wf_named.specs.declared.nodes.NamedCore.TheVariants as cores
use Rattle.wf_named.specs.NamedTree.{NamedExprTree, NamedTypeTree}
use Rattle.wf_named.specs.NamedTrees.{core_at, all_prefixed}
use Rattle.wf_types_rules.specs.ExprTypes.{plain_width}

-- After a prefix.
pub prefixed-no_width : (ts : List NamedExprTree) (ps : List Prefix) (t : NamedTypeTree) → false ≡ (length ps == 0) → plain_width (all_prefixed ts ps t) ≡ None
prefixed-no_width ts [] t h = absurd (cc h)
prefixed-no_width ts (prefixes.Slice at ∷ ps) t h = refl
prefixed-no_width ts (prefixes.Array n at ∷ ps) t h = refl

-- With bounds.
refined-no_width : (ts : List NamedExprTree) (core : NamedCore) (b : Bounds) → plain_width (core_at ts core (Some b)) ≡ None
refined-no_width ts (cores.Base None at) b = refl
refined-no_width ts (cores.Base (Some (bases.Number w)) at) b = refl
refined-no_width ts (cores.Base (Some bases.Flag) at) b = refl
refined-no_width ts (cores.Base (Some bases.Status) at) b = refl
refined-no_width ts (cores.Base (Some bases.Reader) at) b = refl
refined-no_width ts (cores.Base (Some bases.Writer) at) b = refl
refined-no_width ts (cores.Struct of at) b = refl

pub bounded-no_width : (ts : List NamedExprTree) (ps : List Prefix) (core : NamedCore) (b : Bounds) → plain_width (all_prefixed ts ps (core_at ts core (Some b))) ≡ None
bounded-no_width ts [] core b = refined-no_width ts core b
bounded-no_width ts (prefixes.Slice at ∷ ps) core b = refl
bounded-no_width ts (prefixes.Array n at ∷ ps) core b = refl
