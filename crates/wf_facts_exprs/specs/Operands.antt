-- What the code's parts answer: operators by their signs, the passes over facts by name, and the demands and the range of
-- an expression together, so that no part is looked at twice.
use Rattle.std.specs.Prelude.{ℕ, Bool, true, false, ◌&&◌, ◌||◌, nat_lt, slice_index_or, List, [], ◌∷◌, Option, None, Some, Result, Ok, Err}
use Rattle.wf_text.specs.declared.place.Place.{Place}
use Rattle.wf_text.specs.declared.rules.Rule.TheVariants.{B1}
use Rattle.wf_text.specs.declared.rules.Refusal.{Refusal}
use Rattle.wf_num.specs.declared.ranges.Range.{Range}
use Rattle.wf_num.specs.Ranges.{fits_width, exact_range, width_range}
use Rattle.wf_ast.specs.declared.types.Ty.{Ty}
use Rattle.wf_ast.specs.declared.types.Ty.TheVariants as types
use Rattle.wf_ast.specs.Value.{same_truth}
use Rattle.wf_facts_exprs.specs.Given.{gives}
use Rattle.wf_ast.specs.declared.numbers.ExprId.{ExprId}
use Rattle.wf_ast.specs.declared.operators.Op.{Op}
use Rattle.wf_ast.specs.declared.typed_nodes.TypedNodes.{TypedNodes}
use Rattle.wf_ast.specs.TypedTree.{Arith, minus, mod_minus, sat_minus, Order, NumTree, link, SliceTree, EndTree, ValueTree}
use Rattle.wf_ast.specs.TypedTrees.{OperatorKind, joining, operator_kind, first_sign, slice_in, tree_of, type_of_node}
use Rattle.wf_ast.specs.OperatorForms.{arith_in}
use Rattle.wf_ast.specs.NodeKinds.{node_number, node_cond, is_number_at, is_condition_at}
use Rattle.wf_facts_exprs.specs.Claims.{Claim}
use Rattle.wf_facts_exprs.specs.RangeOf.{narrowed, thinned, operator_range, is_ordered, length_range, rule_range, range_of}
use Rattle.wf_facts_exprs.specs.Demands.{demand, or_else, operand_demand, num_refusal, slice_refusal, end_refusal, ends_demand, cond_refusal, unless_refused}
use Rattle.wf_facts_exprs.specs.declared.meeting.Pass.{Pass}
use Rattle.wf_facts_exprs.specs.declared.meeting.Pass.TheVariants.{Narrow, Thin}

abbrev pub arith_of : Op → Arith
arith_of op = arith_in (operator_kind op)

-- An operator that takes its right operand from the left one, so that it counts which of them is larger.
abbrev pub is_difference : Arith → Bool
is_difference minus = true
is_difference mod_minus = true
is_difference sat_minus = true
is_difference op = false

abbrev pub pass_of : Pass → Order → ℕ → Range → Range
pass_of Narrow = narrowed
pass_of Thin = thinned

-- The demands of an expression but for that of its own width, and that one, of the range r.
abbrev pub rule_refusal : List Claim → NumTree → Option Refusal
rule_refusal fs (link at sign op bits joined a b) = or_else (num_refusal fs joined a) (or_else (num_refusal fs false b) (operand_demand op bits sign (range_of fs b)))
rule_refusal fs t = num_refusal fs false t

abbrev pub width_demand : NumTree → Range → Option Refusal
width_demand (link at sign op bits joined a b) r = demand (fits_width r bits) B1 sign
width_demand t r = None

-- What is answered of an expression: by its rule alone, and in full.
abbrev pub ruled : List Claim → NumTree → Result Range Refusal
ruled fs t = unless_refused (rule_refusal fs t) (rule_range fs t)

abbrev pub judged : List Claim → NumTree → Result Range Refusal
judged fs t = unless_refused (num_refusal fs false t) (range_of fs t)

abbrev pub judged_slice : List Claim → SliceTree → Result (Unit {0}) Refusal
judged_slice fs t = unless_refused (slice_refusal fs t) tt

-- An operator has a range that may leave its width; every other form hasn't.
abbrev pub is_operator : NumTree → Bool
is_operator (link at sign op bits joined a b) = true
is_operator t = false

-- The operators and operands of a chain, in order, where the range of the part so far is r and `first` its first operand.
abbrev pub after : Option Refusal → Result Range Refusal → Result Range Refusal
after None answer = answer
after (Some refusal) answer = Err refusal

abbrev pub rest_signs : List Place → List Place
rest_signs [] = []
rest_signs (sign ∷ signs) = signs

abbrev pub is_last : {X : Type 0} → List X → Bool
is_last [] = true
is_last (x ∷ xs) = false

-- One more operand, and the width of the part so far where the chain goes on.
abbrev pub part_demand : (last : Bool) → (bits : ℕ) → (sign : Place) → Range → Option Refusal
part_demand true bits sign r = None
part_demand false bits sign r = demand (fits_width r bits) B1 sign

abbrev pub one_more : List Claim → Arith → (bits : ℕ) → (sign : Place) → (ordered last : Bool) → Range → NumTree → Result Range Refusal
one_more fs op bits sign ordered last r t =
    after (num_refusal fs false t) (after (operand_demand op bits sign (range_of fs t))
    (unless_refused (part_demand last bits sign (operator_range op bits ordered r (range_of fs t))) (operator_range op bits ordered r (range_of fs t))))

abbrev pub and_then_range : Result Range Refusal → (Range → Result Range Refusal) → Result Range Refusal
and_then_range (Ok r) next = next r
and_then_range (Err refusal) next = Err refusal

abbrev pub chain_on : List Claim → Place → Arith → (bits : ℕ) → (joined : Bool) → (first : NumTree) → Range → List NumTree → List Place → Result Range Refusal
chain_on fs at op bits joined first r [] signs = Ok r
chain_on fs at op bits joined first r (t ∷ ts) signs =
    and_then_range (one_more fs op bits (first_sign at signs) (is_ordered fs joined first t) (is_last ts) r t)
    (λ s. chain_on fs at op bits true first s ts (rest_signs signs))

-- The range of a variable's length by its type, and that of any length by its rule.
abbrev pub variable_range : Ty → Range
variable_range (types.Array width lo hi count) = exact_range count
variable_range ty = width_range 64

abbrev pub length_rule : Ty → ValueTree → Range
length_rule types.Reader t = width_range 64
length_rule types.Writer t = width_range 64
length_rule ty t = length_range (slice_in t)

abbrev pub rule_of_length : TypedNodes → ExprId → Range
rule_of_length nodes e = length_rule (type_of_node nodes e.0) (tree_of nodes e)

-- The ends of a slice stand before it, and are numbers.
abbrev pub end_fits : TypedNodes → (e end : ExprId) → Bool
end_fits nodes e i = nat_lt i.0 e.0 && is_number_at nodes i

abbrev pub optional_end_fits : TypedNodes → ExprId → Option ExprId → Bool
optional_end_fits nodes e None = true
optional_end_fits nodes e (Some i) = end_fits nodes e i

abbrev pub ends_fit : TypedNodes → ExprId → (from to : Option ExprId) → Bool
ends_fit nodes e from to = optional_end_fits nodes e from && optional_end_fits nodes e to

-- The demands of a slice after those of what is sliced.
abbrev pub ends_refusal : List Claim → Place → SliceTree → (from to : EndTree) → Option Refusal
ends_refusal fs at cells from to = or_else (end_refusal fs from) (or_else (end_refusal fs to) (ends_demand fs at cells from to))

-- The tree of an operand by its place.
abbrev pub part_number : TypedNodes → List ExprId → ℕ → NumTree
part_number nodes es i = node_number nodes (slice_index_or es i (record { 0 = 0 }))

-- The first demand of several conditions in order.
abbrev pub conds_refusal : List Claim → TypedNodes → List ExprId → Option Refusal
conds_refusal fs nodes [] = None
conds_refusal fs nodes (e ∷ es) = or_else (cond_refusal fs (node_cond nodes e)) (conds_refusal fs nodes es)

abbrev pub is_condition_below : TypedNodes → (e part : ExprId) → Bool
is_condition_below nodes e p = nat_lt p.0 e.0 && is_condition_at nodes p

-- `and` with yes and `or` with no need all of their operands.
abbrev pub joins_all : OperatorKind → (answer : Bool) → Bool
joins_all (joining both) answer = same_truth both answer
joins_all sort answer = false

abbrev pub all_given : List Claim → TypedNodes → List ExprId → (answer : Bool) → Bool
all_given fs nodes [] answer = true
all_given fs nodes (e ∷ es) answer = gives fs (node_cond nodes e) answer && all_given fs nodes es answer

abbrev pub any_given : List Claim → TypedNodes → List ExprId → (answer : Bool) → Bool
any_given fs nodes [] answer = false
any_given fs nodes (e ∷ es) answer = gives fs (node_cond nodes e) answer || any_given fs nodes es answer
