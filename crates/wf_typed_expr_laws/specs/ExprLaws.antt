-- What the rules of types work out of an expression, and where its typed tree stands.
use Rattle.std.specs.Prelude.{◌≡◌, true, Some}
use Rattle.wf_text.specs.declared.place.Place.{Place}
use Rattle.wf_ast.specs.TypedTree as typed
use Rattle.wf_ast.specs.TypedTree.{NumTree, SliceTree, StatusTree, CondTree, ValueTree, numeric, logical, state, elements, io, lost}
use Rattle.wf_ast.specs.TypedTrees.{no_place}
use Rattle.wf_named.specs.NamedTree.{NamedExprTree}
use Rattle.wf_named.specs.Grammar.{by_grammar}
use Rattle.wf_types_rules.specs.declared.meanings.Meaning.{Meaning}
use Rattle.wf_types_rules.specs.declared.settings.Setting.{Setting}
use Rattle.wf_types_rules.specs.Meanings.{place_of}
use Rattle.wf_types_rules.specs.ExprTypes.{meaning}
use Rattle.wf_typed_tree.specs.ElaboratedExprs.{expr_tree}
use Rattle.wf_typed_expr_laws.specs.Typing.{HasType}

-- What an expression of the grammar means, by the rules as they are worked out, is what the rule of its form gives.
abbrev pub MeaningsAreTyped : Type 0
MeaningsAreTyped = (s : Setting) (e : NamedExprTree) (m : Meaning) → by_grammar e ≡ true → meaning s e ≡ Some m → HasType s e m

-- The place of a typed tree.
abbrev pub num_place : NumTree → Place
num_place (typed.number at value) = at
num_place (typed.read at of path) = at
num_place (typed.element at of on place) = at
num_place (typed.link at sign op bits joined a b) = at
num_place (typed.convert at sign bits a) = at
num_place (typed.length_of at on) = at
num_place (typed.asked at question a) = at

abbrev pub slice_place : SliceTree → Place
slice_place (typed.slice at bits path) = at
slice_place (typed.array at of count path) = at
slice_place (typed.cut at on from to) = at

abbrev pub status_place : StatusTree → Place
status_place (typed.status at n) = at
status_place (typed.held at path) = at
status_place typed.no_status = no_place

abbrev pub cond_place : CondTree → Place
cond_place (typed.truth at value) = at
cond_place (typed.flag at path) = at
cond_place (typed.compare at sign a op b) = at
cond_place (typed.same_status at sign a one b) = at
cond_place (typed.junction at both joined a b) = at
cond_place (typed.negation at a) = at
cond_place (typed.closed at a) = at
cond_place (typed.has_category at a category) = at

abbrev pub value_place : ValueTree → Place
value_place (numeric t) = num_place t
value_place (logical t) = cond_place t
value_place (state t) = status_place t
value_place (elements t) = slice_place t
value_place (io at a) = at
value_place lost = no_place

-- The typed tree of an expression that means something stands where the expression stands.
abbrev pub TreesKeepPlaces : Type 0
TreesKeepPlaces = (s : Setting) (e : NamedExprTree) (m : Meaning) → by_grammar e ≡ true → meaning s e ≡ Some m → value_place (expr_tree s e) ≡ place_of e
