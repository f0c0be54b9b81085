-- The nodes of the names in `var`: each local of a method has one at the place of its name.
use Rattle.std.specs.Prelude.{◌≡◌, ◌+◌, ◌<◌, ℕ, ⊤, List, [], ◌∷◌, map, Some, slice_get}
use Rattle.wf_text.specs.declared.place.Place.{Place}
use Rattle.wf_ast.specs.declared.numbers.ExprId.{ExprId}
use Rattle.wf_ast.specs.declared.typed_nodes.TypedNodes.{TypedNodes}
use Rattle.wf_named.specs.declared.declarations.NamedVar.{NamedVar}
use Rattle.wf_named.specs.declared.nodes.NamedPath.{NamedPath}
use Rattle.wf_named.specs.declared.nodes.Variable.TheVariants as variables
use Rattle.wf_named.specs.NamedTree.{VarTree, NamedMethodTree, NamedPackageTree}
use Rattle.wf_types_rules.specs.declared.settings.Setting.{Setting}
use Rattle.wf_types_rules.specs.DeclaredTypes.{in_method}
use Rattle.wf_typed_exprs.specs.Nodes.{StandsForPath}
use Rattle.wf_typed_exprs.specs.Right.{IsRightPath}
use Rattle.wf_typed_stmts.specs.Right.{known_in}

-- The places of the names of locals, in order.
abbrev pub places_of : List VarTree → List Place
places_of locals = map (λ x. x.name.at) locals

abbrev pub places_named : List NamedVar → List Place
places_named locals = map (λ x. x.name.at) locals

-- The path of the local with this number, which stands at this place.
abbrev pub local_path : ℕ → Place → NamedPath
local_path l at = record { of = variables.Local (record { 0 = l }); at = at }

-- The expression with the number `e` is the path of the local, at this place and of the local's type.
abbrev pub IsNode : Setting → TypedNodes → (e l : ℕ) → Place → Type 0
IsNode s nodes e l at = StandsForPath s (local_path l at) nodes (record { 0 = e })

-- So it is for each of the first locals, whose names stand at these places, and for each of all: the expression of the first has
-- the number `first`, and those of the others follow it.
abbrev pub FirstHaveNodes : Setting → TypedNodes → (first count : ℕ) → List Place → Type 0
FirstHaveNodes s nodes first count places = (l : ℕ) (at : Place) → l < count → slice_get places l ≡ Some at → IsNode s nodes (first + l) l at

abbrev pub HaveNodes : Setting → TypedNodes → (first : ℕ) → List Place → Type 0
HaveNodes s nodes first places = (l : ℕ) (at : Place) → slice_get places l ≡ Some at → IsNode s nodes (first + l) l at

-- Each local of each of these methods has a node, which is its path.
abbrev pub MethodsHaveNodes : NamedPackageTree → TypedNodes → (firsts : List ExprId) → List NamedMethodTree → Type 0
MethodsHaveNodes p nodes [] [] = ⊤
MethodsHaveNodes p nodes (e ∷ es) (m ∷ ms) = HaveNodes (in_method p m) nodes e.0 (places_of m.locals) × MethodsHaveNodes p nodes es ms
MethodsHaveNodes p nodes es ms = ⊥

-- The paths of locals, whose names stand at these places, break no rule.
abbrev pub AreRightPaths : Setting → (statuses : ℕ) → List Place → Type 0
AreRightPaths s statuses places = (l : ℕ) (at : Place) → slice_get places l ≡ Some at → IsRightPath s statuses (local_path l at)

abbrev pub AreRightLocals : NamedPackageTree → Type 0
AreRightLocals p = (i : ℕ) (m : NamedMethodTree) → slice_get p.methods i ≡ Some m → AreRightPaths (in_method p m) (known_in p).statuses (places_of m.locals)
