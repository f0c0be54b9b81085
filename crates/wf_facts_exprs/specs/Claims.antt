-- What facts claim, over the typed trees: that two numbers compare in some way, or that a condition has an answer.
use Rattle.std.specs.Prelude.{◌≡◌, ℕ, ◌+◌, Bool, true, false, not, ◌&&◌, ◌||◌, List, [], ◌∷◌, ◌++◌, map, Option, Some, option_and_then, option_map, if◌then◌else◌, All}
use Rattle.wf_ast.specs.declared.numbers.ExprId.{ExprId}
use Rattle.wf_ast.specs.declared.things.Thing.{Thing}
use Rattle.wf_ast.specs.declared.types.Ty.{Ty}
use Rattle.wf_ast.specs.declared.types.Ty.TheVariants as types
use Rattle.wf_ast.specs.declared.typed_nodes.TypedNodes.{TypedNodes}
use Rattle.wf_ast.specs.TypedTree.{NumTree, number, link, length_of, asked, plus, Order, less, at_most, equal, differs, at_least, greater, reader_length, writer_length, CondTree, truth, compare, junction, negation, ValueTree, elements, io}
use Rattle.wf_ast.specs.TypedTrees.{no_place, no_number, num_in, cond_in, tree_of, type_of_node, place_of_node}
use Rattle.wf_ast.specs.TypedInvariant.{is_expr, is_list, is_io}
use Rattle.wf_ast.specs.Value.{State, value, truth_of, compares, same_truth}
use Rattle.wf_ast.specs.Same.{same_num, same_cond, same_order}
use Rattle.wf_ast.specs.Mentions.{num_mentions, cond_mentions}
use Rattle.wf_ast.specs.NodeKinds.{is_number_at, is_condition_at}
use Rattle.wf_facts_exprs.specs.declared.facts.Cmp.{Cmp}
use Rattle.wf_facts_exprs.specs.declared.facts.Cmp.TheVariants.{Lt, Le, Eq, Ne, Ge, Gt}
use Rattle.wf_facts_exprs.specs.declared.facts.Side.{Side}
use Rattle.wf_facts_exprs.specs.declared.facts.Side.TheVariants as sides
use Rattle.wf_facts_exprs.specs.declared.facts.Fact.{Fact}
use Rattle.wf_facts_exprs.specs.declared.facts.Fact.TheVariants as facts

-- A side of a comparison: one number, or the sum of two as a whole number, which has no width.
pub data SideTree : Type 0 where
  single : NumTree → SideTree
  sum : NumTree → NumTree → SideTree

pub data Claim : Type 0 where
  compared : SideTree → Order → SideTree → Claim
  stands : CondTree → (answer : Bool) → Claim

-- The tree of a side: a sum is the same side as a `+` of the same two operands.
abbrev pub tree_of_side : SideTree → NumTree
tree_of_side (single t) = t
tree_of_side (sum a b) = link no_place no_place plus 0 false a b

abbrev pub same_side : (a b : SideTree) → Bool
same_side a b = same_num (tree_of_side a) (tree_of_side b)

-- Whether two claims are one.
abbrev pub same_claim : (f g : Claim) → Bool
same_claim (compared a op b) (compared a' op' b') = same_order op op' && (same_side a a' && same_side b b')
same_claim (stands c answer) (stands c' answer') = same_truth answer answer' && same_cond c c'
same_claim f g = false

-- Whether the claim is one of these.
abbrev pub is_among : List Claim → Claim → Bool
is_among [] f = false
is_among (g ∷ gs) f = same_claim g f || is_among gs f

-- Truth.

abbrev pub side_value : State → SideTree → Option ℕ
side_value s (single t) = value s t
side_value s (sum a b) = option_and_then (λ m. option_map (λ n. m + n) (value s b)) (value s a)

-- Whether a claim is true in a state; None where one of its sides or its condition has no value.
abbrev pub claim_truth : State → Claim → Option Bool
claim_truth s (compared a op b) = option_and_then (λ m. option_map (compares op m) (side_value s b)) (side_value s a)
claim_truth s (stands c answer) = option_map (same_truth answer) (truth_of s c)

-- All claims of a list are true in a state.
abbrev pub AllTrue : State → List Claim → Type 0
AllTrue s [] = Unit {0}
AllTrue s (f ∷ fs) = (claim_truth s f ≡ Some true) × AllTrue s fs

-- What a claim mentions.

abbrev pub side_mentions : Thing → SideTree → Bool
side_mentions x (single t) = num_mentions x t
side_mentions x (sum a b) = num_mentions x a || num_mentions x b

abbrev pub claim_mentions : Thing → Claim → Bool
claim_mentions x (compared a op b) = side_mentions x a || side_mentions x b
claim_mentions x (stands c answer) = cond_mentions x c

-- The facts of a condition with an answer.

-- The comparison that holds exactly where the other doesn't, and the one with its sides exchanged.
abbrev pub complement : Order → Order
complement less = at_least
complement at_most = greater
complement equal = differs
complement differs = equal
complement at_least = less
complement greater = at_most

abbrev pub flip : Order → Order
flip less = greater
flip at_most = at_least
flip equal = equal
flip differs = differs
flip at_least = at_most
flip greater = less

abbrev pub with_answer : Bool → Order → Order
with_answer true op = op
with_answer false op = complement op

-- A constant that stands on the left goes to the right, and the comparison is flipped.
abbrev pub turned : NumTree → Order → NumTree → Claim
turned (number at n) op b = compared (single b) (flip op) (single (number at n))
turned a op b = compared (single a) op (single b)

-- A comparison, or its complement; the facts of all operands of `and` with yes, and of `or` with no; those of what is
-- negated, with the other answer; none of what is plain; else the condition itself.
abbrev pub facts_of : CondTree → (answer : Bool) → List Claim
facts_of (truth at b) answer = if same_truth b answer then [] else stands (truth at b) answer ∷ []
facts_of (compare at sign a op b) answer = turned a (with_answer answer op) b ∷ []
facts_of (junction at both joined a b) answer =
    if same_truth both answer then facts_of a answer ++ facts_of b answer else stands (junction at both joined a b) answer ∷ []
facts_of (negation at a) answer = facts_of a (not answer)
facts_of c answer = stands c answer ∷ []

-- From facts, which name expressions by number, to claims.

abbrev pub order_of : Cmp → Order
order_of Lt = less
order_of Le = at_most
order_of Eq = equal
order_of Ne = differs
order_of Ge = at_least
order_of Gt = greater

-- The sum of two constants is the number that it comes to.
abbrev pub sum_of : NumTree → NumTree → SideTree
sum_of (number at m) (number at' n) = single (number at (m + n))
sum_of a b = sum a b

-- The length of a slice or an array, and that of a reader or a writer, as `length()` gives it.
abbrev pub length_in : TypedNodes → ExprId → Ty → ValueTree → NumTree
length_in nodes e types.Reader (io at a) = asked (place_of_node nodes e.0) reader_length a
length_in nodes e types.Writer (io at a) = asked (place_of_node nodes e.0) writer_length a
length_in nodes e ty (elements t) = length_of (place_of_node nodes e.0) t
length_in nodes e ty t = no_number

abbrev pub side_in : TypedNodes → Side → SideTree
side_in nodes (sides.Expr e) = single (num_in (tree_of nodes e))
side_in nodes (sides.Sum a b) = sum_of (num_in (tree_of nodes a)) (num_in (tree_of nodes b))
side_in nodes (sides.Length e) = single (length_in nodes e (type_of_node nodes e.0) (tree_of nodes e))
side_in nodes (sides.Num n) = single (number no_place n)

abbrev pub claim_in : TypedNodes → Fact → Claim
claim_in nodes (facts.Compare left op right) = compared (side_in nodes left) (order_of op) (side_in nodes right)
claim_in nodes (facts.Cond e answer) = stands (cond_in (tree_of nodes e)) answer

abbrev pub claims_in : TypedNodes → List Fact → List Claim
claims_in nodes fs = map (claim_in nodes) fs

-- The numbers in a fact name expressions of the package, of the kinds that the fact wants.
abbrev pub is_side : TypedNodes → Side → Bool
is_side nodes (sides.Expr e) = is_number_at nodes e
is_side nodes (sides.Sum a b) = is_number_at nodes a && is_number_at nodes b
is_side nodes (sides.Length e) = is_expr nodes e && (is_list (type_of_node nodes e.0) || is_io (type_of_node nodes e.0))
is_side nodes (sides.Num n) = true

abbrev pub is_fact : TypedNodes → Fact → Bool
is_fact nodes (facts.Compare left op right) = is_side nodes left && is_side nodes right
is_fact nodes (facts.Cond e answer) = is_condition_at nodes e

-- Every fact of the list is one over this package.
abbrev pub AreFacts : TypedNodes → List Fact → Type 0
AreFacts nodes fs = All (λ f. is_fact nodes f ≡ true) fs
