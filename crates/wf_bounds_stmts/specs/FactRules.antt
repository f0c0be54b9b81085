-- The rules of facts, statement by statement. What is known where a statement is reached is a list of facts; the statement
-- requires something of it, and changes it. The rule of one statement is told for any lists at the ends of its blocks: so it
-- can be asked of lists that come from elsewhere. What is known in a method follows from it.
use Rattle.std.specs.Prelude.{ℕ, true, false, ◌&&◌, not, List, [], ◌∷◌, Option, None, Some, Result, Ok, Err, if◌then◌else◌, nat_eq, option_and_then}
use Rattle.wf_text.specs.declared.place.Place.{Place}
use Rattle.wf_text.specs.declared.rules.Rule.TheVariants.{B1}
use Rattle.wf_text.specs.declared.rules.Refusal.{Refusal}
use Rattle.wf_ast.specs.declared.types.Ty.{Ty}
use Rattle.wf_ast.specs.TypedTree.{CondTree, ValueTree, Simple, assign, await, perform, invoke, break_from, continue_in, give_back, yield, claim, Site, Head}
use Rattle.wf_ast.specs.WellTyped.{Context, is_word_true}
use Rattle.wf_facts_exprs.specs.Claims.{Claim}
use Rattle.wf_facts_exprs.specs.Demands.{or_else, cond_refusal, value_refusal}
use Rattle.wf_facts.specs.FactLists.{with_condition, common}
use Rattle.wf_loops.specs.LoopRules.{limit, front_refusal, way_back_refusal, break_refusal, head_list, body_list, after_list}
use Rattle.wf_bounds_stmts.specs.Statements.{Form, single, branches, repeated, Body, nothing_more, statement, Blocks, no_block, block}
use Rattle.wf_bounds_stmts.specs.Requirements.{limits, number_type, lies_refusal}
use Rattle.wf_bounds_stmts.specs.Targets.{assign_refusal, assigned}
use Rattle.wf_bounds_stmts.specs.Calls.{interrupted, await_refusal, awaited, perform_refusal, performed, invoke_refusal, invoked}
use Rattle.wf_bounds_stmts.specs.Assertions.{claim_refusal}

-- What is known at a block's end or after a statement; None where it doesn't go on.
abbrev pub Known : Type 0
Known = Option (List Claim)

-- What stands round a statement: its package and its method, and the loops round it by their numbers, the innermost first.
pub record Around : Type 0 where
  pub context : Context
  pub loops : List (ℕ × Head)

abbrev pub loop_numbered : List (ℕ × Head) → ℕ → Option Head
loop_numbered [] w = None
loop_numbered (l ∷ loops) w = if nat_eq l.0 w then Some l.1 else loop_numbered loops w

-- A loop's blocks stand inside it.
abbrev pub inside : Around → Site → Form → Around
inside a site (repeated head) = record { context = a.context; loops = (site.number, head) ∷ a.loops }
inside a site form = a

-- Statements without blocks: what they require, and what is known after them.

-- What is returned is checked, and lies in the method's result.
abbrev pub return_refusal : List Claim → (result : Option Ty) → Option ValueTree → Option Refusal
return_refusal fs result None = None
return_refusal fs result (Some v) = or_else (value_refusal fs v) (lies_refusal B1 fs (option_and_then number_type result) v)

abbrev pub jump_refusal : (Head → Option Refusal) → Option Head → Option Refusal
jump_refusal require None = None
jump_refusal require (Some head) = require head

abbrev pub single_refusal : Around → List Claim → Site → Simple → Option Refusal
single_refusal a fs site (assign target op v) = assign_refusal fs target v
single_refusal a fs site (await at target io_arg call) = await_refusal fs at target call
single_refusal a fs site (perform at target call) = perform_refusal fs at target call
single_refusal a fs site (invoke at target keep mark called vs) = invoke_refusal a.context fs at target keep mark called vs
single_refusal a fs site (break_from w) = jump_refusal (break_refusal fs site.at) (loop_numbered a.loops w)
single_refusal a fs site (continue_in w) = jump_refusal (way_back_refusal fs site.at) (loop_numbered a.loops w)
single_refusal a fs site (give_back v) = return_refusal fs a.context.method.gives v
single_refusal a fs site (yield status) = None
single_refusal a fs site (claim goal by) = claim_refusal fs site.at goal by

abbrev pub known_behind : List Claim → Simple → Known
known_behind fs (assign target op v) = Some (assigned fs target op v)
known_behind fs (await at target io_arg call) = Some (awaited fs target)
known_behind fs (perform at target call) = Some (performed fs target call)
known_behind fs (invoke at target keep mark called vs) = Some (invoked fs target keep mark vs)
known_behind fs (break_from w) = None
known_behind fs (continue_in w) = None
known_behind fs (give_back v) = None
known_behind fs (yield status) = Some (interrupted fs)
known_behind fs (claim goal by) = Some (with_condition fs goal true)

-- `if`: each condition is checked where those before it have failed, and each block is entered where its own holds
-- besides; the last is entered where all have failed.

abbrev pub conditions_refusal : List Claim → Site → List CondTree → Option Refusal
conditions_refusal fs site [] = None
conditions_refusal fs site (c ∷ cs) =
    or_else (cond_refusal fs c) (or_else (limit site.at (with_condition fs c false)) (conditions_refusal (with_condition fs c false) site cs))

abbrev pub branch_fronts : List Claim → List CondTree → List (List Claim)
branch_fronts fs [] = fs ∷ []
branch_fronts fs (c ∷ cs) = with_condition fs c true ∷ branch_fronts (with_condition fs c false) cs

-- After it stand, of the facts of the first block that goes on, those that all the others that do have too.
abbrev pub in_all : List Claim → List Known → List Claim
in_all fs [] = fs
in_all fs (None ∷ ends) = in_all fs ends
in_all fs (Some gs ∷ ends) = in_all (common fs gs) ends

abbrev pub merged : List Known → Known
merged [] = None
merged (None ∷ ends) = merged ends
merged (Some fs ∷ ends) = Some (in_all fs ends)

-- `while` goes on after its body where its condition may fail, or a `break` leaves it.
abbrev pub behind_loop : Head → Known
behind_loop head = if is_word_true head.cond && not head.is_left then None else Some (after_list head)

-- At the body's end, where it is reached, the way back begins, at the closing brace.
abbrev pub ways_back_refusal : Head → List Known → Option Refusal
ways_back_refusal head [] = None
ways_back_refusal head (None ∷ ends) = ways_back_refusal head ends
ways_back_refusal head (Some fs ∷ ends) = or_else (way_back_refusal fs head.close head) (ways_back_refusal head ends)

-- The rule of one statement.

-- The first requirement of the statement itself that isn't met: of the lists before its blocks too, but of nothing inside
-- them.
abbrev pub statement_refusal : Around → List Claim → Site → Form → Option Refusal
statement_refusal a fs site (single s) = single_refusal a fs site s
statement_refusal a fs site (branches cs) = or_else (conditions_refusal fs site cs) (limits site.at (branch_fronts fs cs))
statement_refusal a fs site (repeated head) = front_refusal fs site.at head

-- What is known before each of its blocks.
abbrev pub fronts : List Claim → Form → List (List Claim)
fronts fs (single s) = []
fronts fs (branches cs) = branch_fronts fs cs
fronts fs (repeated head) = body_list (head_list head) head ∷ []

-- What is known after it, where `ends` is known at the ends of its blocks.
abbrev pub behind : List Claim → Form → (ends : List Known) → Known
behind fs (single s) ends = known_behind fs s
behind fs (branches cs) ends = merged ends
behind fs (repeated head) ends = behind_loop head

-- The first requirement at the ends of its blocks that isn't met, or after the statement.
abbrev pub required_at_ends : Form → (ends : List Known) → Option Refusal
required_at_ends (single s) ends = None
required_at_ends (branches cs) ends = None
required_at_ends (repeated head) ends = ways_back_refusal head ends

abbrev pub limit_behind : (at : Place) → Known → Option Refusal
limit_behind at None = None
limit_behind at (Some fs) = limit at fs

abbrev pub ends_refusal : List Claim → Site → Form → (ends : List Known) → Option Refusal
ends_refusal fs site form ends = or_else (required_at_ends form ends) (limit_behind site.at (behind fs form ends))

-- What is known after statements in order, and at the ends of blocks: the rule of each statement takes what the rules give
-- for its blocks. Statements that aren't reached aren't looked at.

-- An answer where nothing is refused before it, and one that goes on from another.
abbrev pub unless : {X : Type 0} → Option Refusal → Result X Refusal → Result X Refusal
unless None answer = answer
unless (Some refusal) answer = Err refusal

abbrev pub and_then : {X Y : Type 0} → Result X Refusal → (X → Result Y Refusal) → Result Y Refusal
and_then (Ok x) next = next x
and_then (Err refusal) next = Err refusal

abbrev pub where_reached : Known → (List Claim → Result Known Refusal) → Result Known Refusal
where_reached None next = Ok None
where_reached (Some fs) next = next fs

abbrev mutual
  pub through_body : Around → List Claim → Body → Result Known Refusal
  through_body a fs nothing_more = Ok (Some fs)
  through_body a fs (statement site form blocks rest) =
      unless (statement_refusal a fs site form) (and_then (through_blocks (inside a site form) (fronts fs form) blocks) (λ ends.
      unless (ends_refusal fs site form ends) (where_reached (behind fs form ends) (λ gs. through_body a gs rest))))

  pub through_blocks : Around → (fronts : List (List Claim)) → Blocks → Result (List Known) Refusal
  through_blocks a lists no_block = Ok []
  through_blocks a [] (block body blocks) = Ok []
  through_blocks a (fs ∷ lists) (block body blocks) =
      and_then (through_body a fs body) (λ known. and_then (through_blocks a lists blocks) (λ ends. Ok (known ∷ ends)))
