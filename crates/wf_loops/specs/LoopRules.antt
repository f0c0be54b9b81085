-- What the promises of a loop ask, and what they tell. `pre` and `inv` are asked wherever the loop's condition is about to
-- be tested: where the loop is entered, and on each way back. `inv` and `post` are asked where the loop is left, by its
-- condition or by a `break`. At its head and after it a loop knows what is promised there, and nothing of what was known
-- before it.
use Rattle.std.specs.Prelude.{Bool, true, false, List, [], ◌∷◌, length, Option, None, if◌then◌else◌, nat_le}
use Rattle.wf_text.specs.declared.place.Place.{Place}
use Rattle.wf_text.specs.declared.rules.Rule.{Rule}
use Rattle.wf_text.specs.declared.rules.Rule.TheVariants.{B10, B11, B12, L8}
use Rattle.wf_text.specs.declared.rules.Refusal.{Refusal}
use Rattle.wf_ast.specs.declared.parsed.Clause.{Clause}
use Rattle.wf_ast.specs.declared.parsed.Clause.TheVariants.{Pre, Inv, Post}
use Rattle.wf_ast.specs.TypedTree.{CondTree, Head}
use Rattle.wf_ast.specs.WellTyped.{is_word_true}
use Rattle.wf_facts_exprs.specs.Claims.{Claim}
use Rattle.wf_facts_exprs.specs.Given.{gives}
use Rattle.wf_facts_exprs.specs.Demands.{demand, or_else, cond_refusal}
use Rattle.wf_facts.specs.FactLists.{with_condition}
use Rattle.wf_loops.specs.declared.moments.Moment.{Moment}
use Rattle.wf_loops.specs.declared.moments.Moment.TheVariants.{Test, Leave}

-- Which promises are asked at a moment.
abbrev pub is_asked : Moment → Clause → Bool
is_asked Test Pre = true
is_asked Test Inv = true
is_asked Test Post = false
is_asked Leave Pre = false
is_asked Leave Inv = true
is_asked Leave Post = true

-- The rule of a promise that isn't given.
abbrev pub rule_of : Clause → Rule
rule_of Pre = B10
rule_of Inv = B11
rule_of Post = B12

-- To require a condition is to check its value, by rules and at places of its own, and then to ask that it be given.
abbrev pub required : List Claim → Rule → Place → CondTree → Option Refusal
required fs rule at c = or_else (cond_refusal fs c) (demand (gives fs c true) rule at)

-- The first promise of those asked at a moment, in written order, that isn't met; None where all are.
abbrev pub promises_refusal : Moment → List Claim → Place → List (Clause × CondTree) → Option Refusal
promises_refusal moment fs at [] = None
promises_refusal moment fs at (c ∷ cs) =
    or_else (if is_asked moment c.0 then required fs (rule_of c.0) at c.1 else None) (promises_refusal moment fs at cs)

-- A list with the facts of the promises asked at a moment, in written order.
abbrev pub with_promises : Moment → List Claim → List (Clause × CondTree) → List Claim
with_promises moment fs [] = fs
with_promises moment fs (c ∷ cs) = with_promises moment (if is_asked moment c.0 then with_condition fs c.1 true else fs) cs

-- A list has at most 512 facts; one that would get another is refused.
abbrev pub limit : Place → List Claim → Option Refusal
limit at fs = demand (nat_le (length fs) 512) L8 at

-- Entry: at the place of the `while`. Way back: at the `continue`, or at the closing brace where the body's end is
-- reached. Break: at the `break`. Each is asked under the facts that stand there.
abbrev pub entry_refusal : List Claim → Place → Head → Option Refusal
entry_refusal fs at head = promises_refusal Test fs at head.clauses

abbrev pub way_back_refusal : List Claim → Place → Head → Option Refusal
way_back_refusal fs at head = promises_refusal Test fs at head.clauses

abbrev pub break_refusal : List Claim → Place → Head → Option Refusal
break_refusal fs at head = promises_refusal Leave fs at head.clauses

-- What is known at the head, whenever the condition is about to be tested.
abbrev pub head_list : Head → List Claim
head_list head = with_promises Test [] head.clauses

-- What is known where the condition lets into the body, and where it doesn't.
abbrev pub body_list : (at_head : List Claim) → Head → List Claim
body_list fs head = with_condition fs head.cond true

abbrev pub exit_list : (at_head : List Claim) → Head → List Claim
exit_list fs head = with_condition fs head.cond false

-- Exit by the condition, at the place of the `while`. The word `true` as a condition has none.
abbrev pub exit_refusal : (at_head : List Claim) → Place → Head → Option Refusal
exit_refusal fs at head =
    if is_word_true head.cond then None
    else or_else (limit at (exit_list fs head)) (promises_refusal Leave (exit_list fs head) at head.clauses)

-- What is known after the loop. Where no `break` leaves it, its condition doesn't hold there.
abbrev pub after_list : Head → List Claim
after_list head =
    if head.is_left then with_promises Leave [] head.clauses else with_condition (with_promises Leave [] head.clauses) head.cond false

-- What the test of the condition asks: that the head list has room, the condition's value, the exit, and that the list has
-- room with which the body starts.
abbrev pub test_refusal : Place → Head → Option Refusal
test_refusal at head =
    or_else (limit at (head_list head)) (or_else (cond_refusal (head_list head) head.cond)
    (or_else (exit_refusal (head_list head) at head) (limit at (body_list (head_list head) head))))

-- What a loop asks before its body.
abbrev pub front_refusal : List Claim → Place → Head → Option Refusal
front_refusal fs at head = or_else (entry_refusal fs at head) (test_refusal at head)
