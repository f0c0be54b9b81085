-- The steps of a function's body (ISO/IEC 9899:1999, 6.8): a statement and what follows it, labels that are found in the
-- function's tree, and turns.
use Rattle.std.specs.Prelude.{ℕ, zero, suc, ◌+◌, ◌^◌, Bool, true, false, if◌then◌else◌, nat_eq, nat_lt, List, [], ◌∷◌, Option, Some, None, option_and_then, bytes_eq, codes}
use Rattle.wf_num.specs.CArithmetic.{modulo}
use Rattle.turns.specs.Run.{Next, Go, Turn, End, Out, Fail, Outcome, onward, holding}
use Rattle.c_text.specs.declared.kinds.CNumber.{CNumber}
use Rattle.c_text.specs.CTree.{TypeTree, ExprTree, Code, finish, nested, empty, assign, call, jump, branch, repeat, select, leave, case_label, default_label, name_label}
use Rattle.c_meaning.specs.CValues.{Number, whole, literal_number, converted, Pointer, same_pointer, CValue, numeric, holds}
use Rattle.c_meaning.specs.CMemory.{Memory, stored, move_bytes, zeroed}
use Rattle.c_meaning.specs.CTypes.{CScope}
use Rattle.c_meaning.specs.CExprs.{Surroundings, value, place, pointed_place, as_type, arg_values, all_some}

-- What follows a block. `passed` is the text between the block's end and `rest` that is passed over: the `else` side,
-- after the block of an `if`. After the block of a `while` stands its test, which is a turn (6.8).
pub data Continuation : Type 0 where
  stop : Continuation
  behind : (passed rest : Code) → Continuation → Continuation
  again : (test : ExprTree) → (body : Code) → Continuation → Continuation

-- A statement of a function, with the rest of its block and what follows the block (6.8).
pub record Place : Type 0 where
  pub code : Code
  pub continuation : Continuation

-- A place, by its parts (6.8).
abbrev pub at : Code → Continuation → Place
at code continuation = record { code = code; continuation = continuation }

-- The text that is left from a place to the function's end (6.8).
abbrev pub code_weight : Code → ℕ
code_weight finish = 0
code_weight (nested inner rest) = code_weight inner + code_weight rest + 2
code_weight (empty rest) = code_weight rest + 1
code_weight (assign target value rest) = code_weight rest + 1
code_weight (call target function given rest) = code_weight rest + 1
code_weight (jump label rest) = code_weight rest + 1
code_weight (branch test body otherwise other rest) = code_weight body + code_weight other + code_weight rest + 2
code_weight (repeat test body rest) = code_weight body + code_weight rest + 2
code_weight (select on body rest) = code_weight body + code_weight rest + 2
code_weight (leave value rest) = code_weight rest + 1
code_weight (case_label n rest) = code_weight rest + 1
code_weight (default_label rest) = code_weight rest + 1
code_weight (name_label name rest) = code_weight rest + 1

-- The same after a block (6.8).
abbrev pub continuation_weight : Continuation → ℕ
continuation_weight stop = 0
continuation_weight (behind passed rest k) = code_weight passed + code_weight rest + continuation_weight k + 1
continuation_weight (again test body k) = continuation_weight k

-- The same of a place (6.8).
abbrev pub place_weight : Place → ℕ
place_weight p = code_weight p.code + continuation_weight p.continuation

-- Labels. A name is looked for in all blocks of the function; `case` and `default` belong to the innermost `switch`
-- round them (6.8.1).
pub data Label : Type 0 where
  by_name : (name : List ℕ) → Label
  by_case : Number → Label
  by_default : Label

-- A name is looked for in a `switch` too (6.8.1).
abbrev pub enters_switch : Label → Bool
enters_switch (by_name name) = true
enters_switch label = false

-- The label has this name (6.8.1).
abbrev pub is_named : Label → List ℕ → Bool
is_named (by_name name) other = bytes_eq name other
is_named label other = false

-- The number of a `case` is converted to the type of what is switched on (6.8.4.2p5).
abbrev pub is_case : Label → CNumber → Bool
is_case (by_case n) k = nat_eq n.bits (converted n.ty (literal_number k)).bits
is_case label k = false

-- The label is `default` (6.8.4.2p4).
abbrev pub is_default : Label → Bool
is_default by_default = true
is_default label = false

-- The first of two that is there (6.8.1).
abbrev pub first_of : Option Place → Option Place → Option Place
first_of (Some p) other = Some p
first_of None other = other

-- The label stands here, or elsewhere (6.8.1).
abbrev pub here : Bool → Place → Option Place → Option Place
here true p other = Some p
here false p other = other

-- The labelled statement, its label included, with what follows it (6.8.1, 6.8.4.2, 6.8.6.1).
abbrev pub find : Label → Code → Continuation → Option Place
find label finish k = None
find label (nested inner rest) k = first_of (find label inner (behind finish rest k)) (find label rest k)
find label (empty rest) k = find label rest k
find label (assign target value rest) k = find label rest k
find label (call target function given rest) k = find label rest k
find label (jump name rest) k = find label rest k
find label (branch test body otherwise other rest) k =
    first_of (find label body (behind other rest k)) (first_of (find label other (behind finish rest k)) (find label rest k))
find label (repeat test body rest) k = first_of (find label body (again test body (behind finish rest k))) (find label rest k)
find label (select on body rest) k =
    first_of (if enters_switch label then find label body (behind finish rest k) else None) (find label rest k)
find label (leave value rest) k = find label rest k
find label (case_label n rest) k = here (is_case label n) (at (case_label n rest) k) (find label rest k)
find label (default_label rest) k = here (is_default label) (at (default_label rest) k) (find label rest k)
find label (name_label name rest) k = here (is_named label name) (at (name_label name rest) k) (find label rest k)

-- A function that has returned: the memory that it leaves, and its value where it returned one (6.8.6.4).
pub record Returned : Type 0 where
  pub memory : Memory
  pub value : Option CValue

-- A function as its callers see it: what it gives within so many turns, for its arguments and the memory that it
-- finds (6.5.2.2).
abbrev pub Meaning : Type 0
Meaning = ℕ → List CValue → Memory → Outcome Returned

-- What a step of a function's body depends on beside the place and memory: its names, the object of its parameters and
-- locals, its whole body, the type of its result, and the functions that it can call (6.5.2.2, 6.9.1).
pub record Running : Type 0 where
  pub scope : CScope
  pub frame : ℕ
  pub body : Code
  pub result_type : Option TypeTree
  pub in_expressions : Memory → List ℕ → List CValue → Option CValue
  pub callee : List ℕ → Meaning

-- Where a function is, and memory (5.1.2.3).
pub record State : Type 0 where
  pub place : Place
  pub memory : Memory

-- The same by its parts (5.1.2.3).
abbrev pub state : Code → Continuation → Memory → State
state code k memory = record { place = at code k; memory = memory }

-- The text that is left to the function's end (6.8).
abbrev pub weight : State → ℕ
weight s = place_weight s.place

-- What the expressions of a function depend on (6.5).
abbrev pub surroundings : Running → Memory → Surroundings
surroundings r memory = record { scope = r.scope; frame = r.frame; memory = memory; called = r.in_expressions memory }

-- To the next statement in memory as it then is, where that is defined (6.8p3).
abbrev pub goes_on : Code → Continuation → Option Memory → Next State Returned
goes_on rest k None = Fail
goes_on rest k (Some memory) = Go (state rest k memory)

-- By a condition, where it has a value (6.8.4.1p2, 6.8.5p4).
abbrev pub by_test : Option CValue → (met unmet : Next State Returned) → Next State Returned
by_test None met unmet = Fail
by_test (Some v) met unmet = if holds v then met else unmet

-- One turn is taken, where one is left (6.8.5p4).
abbrev pub takes_turn : ℕ → (ℕ → Next State Returned) → Next State Returned
takes_turn zero next = Out
takes_turn (suc n) next = next n

-- The test after a whole pass of a `while`: a turn, and then the test (6.8.5.1).
abbrev pub tested_again : Running → ExprTree → Code → Continuation → Memory → ℕ → Next State Returned
tested_again r test body k memory n = by_test (value (surroundings r memory) test) (Turn n (state body (again test body k) memory)) (Turn n (state finish k memory))

-- A jump to a place: a turn where that doesn't stand after the statement that jumps (6.8.6.1).
abbrev pub leaps : Bool → ℕ → Place → Memory → Next State Returned
leaps true n target memory = Go (record { place = target; memory = memory })
leaps false n target memory = takes_turn n (λ left. Turn left (record { place = target; memory = memory }))

-- The same to a label, where it is found (6.8.6.1).
abbrev pub jumps : ℕ → Place → Option Place → Memory → Next State Returned
jumps n from None memory = Fail
jumps n from (Some target) memory = leaps (nat_lt (place_weight target) (place_weight from)) n target memory

-- `switch`: its case, else its `default`, else after it (6.8.4.2p4, p5).
abbrev pub enters : Option Place → Code → Continuation → Memory → Next State Returned
enters None rest k memory = Go (state rest k memory)
enters (Some p) rest k memory = Go (record { place = p; memory = memory })

-- By the number that is switched on (6.8.4.2p4, p5).
abbrev pub switches : Option CValue → Code → Code → Continuation → Memory → Next State Returned
switches (Some (numeric n)) body rest k memory =
    enters (first_of (find (by_case n) body (behind finish rest k)) (find by_default body (behind finish rest k))) rest k memory
switches v body rest k memory = Fail

-- The place of a call's target. C leaves open whether it is found before the call or after it (6.5.16p4), so there is
-- none where the two differ, or one of them isn't defined.
abbrev pub one_place : (before after : Option Pointer) → Option Pointer
one_place (Some p) (Some q) = if same_pointer p q then Some q else None
one_place before after = None

-- A call that found memory as it was before has ended: its value is assigned to its target (6.5.2.2, 6.5.16).
abbrev pub kept : Running → (before : Memory) → Option ExprTree → Returned → Option Memory
kept r before None done = Some done.memory
kept r before (Some target) done = option_and_then (λ v. option_and_then (λ p. stored done.memory p v) (one_place (place (surroundings r before) target) (place (surroundings r done.memory) target))) done.value

-- After a call (6.5.2.2, 6.8.3).
abbrev pub goes_back : ℕ → ℕ → Code → Continuation → Option Memory → Next State Returned
goes_back n left rest k None = Fail
goes_back n left rest k (Some memory) = onward n left (state rest k memory)

-- A call of a function, where its arguments have values (6.5.2.2p4).
abbrev pub calls : Running → ℕ → Option ExprTree → Meaning → Option (List CValue) → Code → Continuation → Memory → Next State Returned
calls r n target meaning None rest k memory = Fail
calls r n target meaning (Some given) rest k memory = holding (meaning n given memory) (λ left done. goes_back n left rest k (kept r memory target done))

-- `memmove(to, from, n)` and `memset(p, 0, sizeof(*p))`; a null pointer is undefined (7.1.4p1).
pub data Callee : Type 0 where
  memory_move : Callee
  memory_set : Callee
  own : Callee

-- The function of a name (7.21.2.2, 7.21.6.1).
abbrev pub callee_of : List ℕ → Callee
callee_of name = if bytes_eq name (codes "memmove") then memory_move else if bytes_eq name (codes "memset") then memory_set else own

-- A number of bytes (6.3.1.3, 7.17).
abbrev pub as_size : Option CValue → Option ℕ
as_size (Some (numeric n)) = Some (modulo (whole n) (2 ^ 64))
as_size v = None

-- `memmove`, where no pointer is null (7.21.2.2, 7.1.4p1).
abbrev pub moves : Memory → (to from : Option Pointer) → (bytes : Option ℕ) → Option Memory
moves memory (Some to) (Some from) (Some n) = move_bytes memory to from n
moves memory to from n = None

-- `memset`, where the pointer isn't null (7.21.6.1, 7.1.4p1).
abbrev pub zeroes : Memory → Option Pointer → Option Memory
zeroes memory (Some p) = if nat_eq p.index 0 then zeroed memory p.object else None
zeroes memory None = None

-- `memmove` of its arguments (7.21.2.2).
abbrev pub move_given : Memory → List (Option CValue) → Option Memory
move_given memory (to ∷ from ∷ n ∷ []) = moves memory (pointed_place to) (pointed_place from) (as_size n)
move_given memory given = None

-- `memset` of its arguments (7.21.6.1).
abbrev pub set_given : Memory → List (Option CValue) → Option Memory
set_given memory (p ∷ others) = zeroes memory (pointed_place p)
set_given memory [] = None

-- A call as a statement (6.5.2.2, 6.8.3).
abbrev pub calls_function : Callee → Running → ℕ → Option ExprTree → List ℕ → List (Option CValue) → Code → Continuation → Memory → Next State Returned
calls_function memory_move r n target name given rest k memory = goes_on rest k (move_given memory given)
calls_function memory_set r n target name given rest k memory = goes_on rest k (set_given memory given)
calls_function own r n target name given rest k memory = calls r n target (r.callee name) (all_some given) rest k memory

-- `return`, with the conversion to the type of the function's result (6.8.6.4p3).
abbrev pub returns : ℕ → Memory → Option CValue → Next State Returned
returns n memory None = Fail
returns n memory (Some v) = End n (record { memory = memory; value = Some v })

-- A value as the function's result (6.8.6.4p3).
abbrev pub result_value : Option TypeTree → Option CValue → Option CValue
result_value type v = option_and_then (λ t. option_and_then (as_type t) v) type

-- An assignment, where both sides are defined (6.5.16).
abbrev pub assigned : Memory → Option Pointer → Option CValue → Option Memory
assigned memory (Some p) (Some v) = stored memory p v
assigned memory p v = None

-- At the end of a block; at the end of the function's block it returns without a value (6.9.1p12).
abbrev pub at_end : Running → ℕ → Continuation → Memory → Next State Returned
at_end r n stop memory = End n (record { memory = memory; value = None })
at_end r n (behind passed rest k) memory = Go (state rest k memory)
at_end r n (again test body k) memory = takes_turn n (tested_again r test body k memory)

-- One step, by the statement that stands first (6.8).
abbrev pub step_at : Running → ℕ → Code → Continuation → Memory → Next State Returned
step_at r n finish k memory = at_end r n k memory
step_at r n (nested inner rest) k memory = Go (state inner (behind finish rest k) memory)
step_at r n (empty rest) k memory = Go (state rest k memory)
step_at r n (assign target v rest) k memory = goes_on rest k (assigned memory (place (surroundings r memory) target) (value (surroundings r memory) v))
step_at r n (call target function given rest) k memory = calls_function (callee_of function) r n target function (arg_values (surroundings r memory) given) rest k memory
step_at r n (jump label rest) k memory = jumps n (at (jump label rest) k) (find (by_name label) r.body stop) memory
step_at r n (branch test body otherwise other rest) k memory = by_test (value (surroundings r memory) test) (Go (state body (behind other rest k) memory)) (Go (state other (behind finish rest k) memory))
step_at r n (repeat test body rest) k memory = by_test (value (surroundings r memory) test) (Go (state body (again test body (behind finish rest k)) memory)) (Go (state rest k memory))
step_at r n (select on body rest) k memory = switches (value (surroundings r memory) on) body rest k memory
step_at r n (leave None rest) k memory = End n (record { memory = memory; value = None })
step_at r n (leave (Some v) rest) k memory = returns n memory (result_value r.result_type (value (surroundings r memory) v))
step_at r n (case_label number rest) k memory = Go (state rest k memory)
step_at r n (default_label rest) k memory = Go (state rest k memory)
step_at r n (name_label name rest) k memory = Go (state rest k memory)

-- One step (6.8).
abbrev pub step : Running → ℕ → State → Next State Returned
step r n s = step_at r n s.place.code s.place.continuation s.memory
