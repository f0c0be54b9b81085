-- Walks through the statements of a package as its nodes have them, and that these keep the rules of types.
use Rattle.std.specs.Prelude.{ℕ, suc, Bool, true, false, not, ◌&&◌, List, [], ◌∷◌, map, Option, None, Some, Result, Ok, if◌then◌else◌, nat_lt, length, unwrap_or, slice_get}
use Rattle.std.specs.List.{list_all}
use Rattle.wf_text.specs.declared.place.Place.{Place}
use Rattle.wf_text.specs.declared.rules.Refusal.{Refusal}
use Rattle.wf_base.specs.declared.marks.Mark.TheVariants.{Pure}
use Rattle.wf_ast.specs.declared.numbers.StmtId.{StmtId}
use Rattle.wf_ast.specs.declared.typed_code.Arm.{Arm}
use Rattle.wf_ast.specs.declared.typed_code.Block as typed_code
use Rattle.wf_ast.specs.declared.typed_code.Expr.{Expr}
use Rattle.wf_ast.specs.declared.typed_code.Expr.TheVariants as exprs
use Rattle.wf_ast.specs.declared.typed_code.Stmt.{Stmt}
use Rattle.wf_ast.specs.declared.typed_code.Stmt.TheVariants as stmts
use Rattle.wf_ast.specs.declared.typed_code.StmtNode.{StmtNode}
use Rattle.wf_ast.specs.declared.typed_nodes.TypedNodes.{TypedNodes}
use Rattle.wf_ast.specs.TypedTree.{CondTree, junction, negation, Simple, Site, Head, end}
use Rattle.wf_ast.specs.TypedTrees.{onto, operator_kind, stmt_makers}
use Rattle.wf_ast.specs.TypedPackage.{MethodTree, package_of}
use Rattle.wf_ast.specs.WellTyped.{well_block}
use Rattle.wf_ast.specs.NodeKinds.{is_condition_at, node_cond}
use Rattle.wf_ast.specs.OperatorForms.{is_joining}
use Rattle.wf_facts_exprs.specs.Claims.{Claim}
use Rattle.wf_facts_exprs.specs.Demands.{or_else}
use Rattle.wf_facts.specs.FactLists.{with_condition}
use Rattle.wf_loops.specs.LoopRules.{front_refusal, head_list, body_list}
use Rattle.wf_loops.specs.LoopNodes.{is_loop, head_at, place_at}
use Rattle.wf_bounds_stmts.specs.Statements.{body_of}
use Rattle.wf_bounds_stmts.specs.Requirements.{limits}
use Rattle.wf_bounds_stmts.specs.FactRules.{Known, Around, single_refusal, known_behind, conditions_refusal, branch_fronts, behind_loop, ways_back_refusal, limit_behind, unless}
use Rattle.wf_bounds_stmts.specs.Passing.{site_at, simple_at}
use Rattle.wf_bounds.specs.Walks.{Reached, found, passed, going_on, where_passed, is_sought, walked_body, joined}

-- All loops of a package, by their numbers, with their heads; `n` is the number of the first statement in the list.
abbrev pub loops_from : TypedNodes → (n : ℕ) → List StmtNode → List (ℕ × Head)
loops_from nodes n [] = []
loops_from nodes n (node ∷ ns) =
    if is_loop nodes (record { 0 = n }) then (n, head_at nodes (record { 0 = n })) ∷ loops_from nodes (suc n) ns else loops_from nodes (suc n) ns

unfoldable pub all_loops : TypedNodes → List (ℕ × Head)
all_loops nodes = loops_from nodes 0 nodes.stmts

-- The method with a number.
abbrev pub no_method : MethodTree
no_method = record { name = []; of = 0; public = false; mark = Pure; args = []; locals = []; gives = None; body = end }

unfoldable pub method_at : TypedNodes → ℕ → MethodTree
method_at nodes m = unwrap_or (slice_get (package_of nodes).methods m) no_method

-- What stands round the statements of a method. A statement names no loop but those round it, so that all loops of the package
-- may be told of, wherever it stands.
abbrev pub all_round : TypedNodes → (m : ℕ) → Around
all_round nodes m = record { context = record { within = package_of nodes; method = method_at nodes m }; loops = all_loops nodes }

-- What a walk comes to at a statement.
unfoldable pub walked_at : TypedNodes → (m : ℕ) → (sought : Option StmtId) → List Claim → StmtId → Result (Reached Known) Refusal
walked_at nodes m sought fs s = walked_body (all_round nodes m) sought fs (body_of (onto (stmt_makers nodes) s end))

-- The same of statements in order, and of an `if`, a loop and a statement without blocks, by the nodes of these: `look` tells it
-- of the statements inside.
abbrev pub Look : Type 0
Look = List Claim → StmtId → Result (Reached Known) Refusal

abbrev pub walked_listed : Look → List Claim → List StmtId → Result (Reached Known) Refusal
walked_listed look fs [] = Ok (passed (Some fs))
walked_listed look fs (s ∷ ss) = going_on (look fs s) (λ known. where_passed known (λ gs. walked_listed look gs ss))

abbrev pub walked_else : Look → List Claim → Option typed_code.Block → Result (Reached Known) Refusal
walked_else look fs None = Ok (passed (Some fs))
walked_else look fs (Some block) = walked_listed look fs block.items

-- `met` is what is known where the blocks of the arms before meet.
abbrev pub walked_arms : TypedNodes → Look → (met : Known) → List Claim → List Arm → Option typed_code.Block → Result (Reached Known) Refusal
walked_arms nodes look met fs [] otherwise = going_on (walked_else look fs otherwise) (λ known. Ok (passed (joined met known)))
walked_arms nodes look met fs (arm ∷ arms) otherwise =
    going_on (walked_listed look (with_condition fs (node_cond nodes arm.cond) true) arm.body.items)
    (λ known. walked_arms nodes look (joined met known) (with_condition fs (node_cond nodes arm.cond) false) arms otherwise)

abbrev pub conditions_of : TypedNodes → List Arm → List CondTree
conditions_of nodes arms = map (λ arm. node_cond nodes arm.cond) arms

abbrev pub arms_refusal : List Claim → Site → List CondTree → Option Refusal
arms_refusal fs site cs = or_else (conditions_refusal fs site cs) (limits site.at (branch_fronts fs cs))

abbrev pub walked_if : TypedNodes → Look → List Claim → Site → List Arm → Option typed_code.Block → Result (Reached Known) Refusal
walked_if nodes look fs site arms otherwise =
    unless (arms_refusal fs site (conditions_of nodes arms)) (going_on (walked_arms nodes look None fs arms otherwise) (λ known.
    unless (limit_behind site.at known) (Ok (passed known))))

-- What comes after a loop's body: the way back, where its end is reached, and what is known after the loop. `at` is its `while`.
abbrev pub left_loop : (at : Place) → Head → (known : Known) → Result (Reached Known) Refusal
left_loop at head known = unless (or_else (ways_back_refusal head (known ∷ [])) (limit_behind at (behind_loop head))) (Ok (passed (behind_loop head)))

abbrev pub walked_loop : Look → List Claim → (at : Place) → Head → List StmtId → Result (Reached Known) Refusal
walked_loop look fs at head items =
    unless (front_refusal fs at head) (going_on (walked_listed look (body_list (head_list head) head) items) (left_loop at head))

abbrev pub walked_single : Around → List Claim → Site → Simple → Result (Reached Known) Refusal
walked_single a fs site s = unless (or_else (single_refusal a fs site s) (limit_behind site.at (known_behind fs s))) (Ok (passed (known_behind fs s)))

abbrev pub walked_stmt : TypedNodes → (m : ℕ) → Look → List Claim → StmtId → Stmt → Result (Reached Known) Refusal
walked_stmt nodes m look fs s (stmts.If arms otherwise) = walked_if nodes look fs (site_at nodes s) arms otherwise
walked_stmt nodes m look fs s (stmts.While head body) = walked_loop look fs (place_at nodes s) (head_at nodes s) body.items
walked_stmt nodes m look fs s stmt = walked_single (all_round nodes m) fs (site_at nodes s) (simple_at nodes s)

abbrev pub walked_node : TypedNodes → (m : ℕ) → (sought : Option StmtId) → Look → List Claim → StmtId → Stmt → Result (Reached Known) Refusal
walked_node nodes m sought look fs s stmt = if is_sought sought s.0 then Ok (found fs) else walked_stmt nodes m look fs s stmt

-- A statement keeps the rules of types in its method.
unfoldable pub stands_well : TypedNodes → (m : ℕ) → StmtId → Bool
stands_well nodes m s = well_block (all_round nodes m).context (map (λ l. l.0) (all_loops nodes)) (onto (stmt_makers nodes) s end)

-- So do those of a block, all with numbers below `k`, and what stands in an `if`, which has an arm, or a loop.
abbrev pub stmt_stands : TypedNodes → (m k : ℕ) → StmtId → Bool
stmt_stands nodes m k s = nat_lt s.0 k && (nat_lt s.0 (length nodes.stmts) && stands_well nodes m s)

abbrev pub block_stands : TypedNodes → (m k : ℕ) → typed_code.Block → Bool
block_stands nodes m k block = list_all (stmt_stands nodes m k) block.items

abbrev pub else_stands : TypedNodes → (m k : ℕ) → Option typed_code.Block → Bool
else_stands nodes m k None = true
else_stands nodes m k (Some block) = block_stands nodes m k block

abbrev pub have_conditions : TypedNodes → List Arm → Bool
have_conditions nodes arms = list_all (λ arm. is_condition_at nodes arm.cond) arms

abbrev pub arms_stand : TypedNodes → (m k : ℕ) → List Arm → Bool
arms_stand nodes m k arms = list_all (λ arm. block_stands nodes m k arm.body) arms

abbrev pub parts_stand : TypedNodes → (m : ℕ) → StmtId → Stmt → Bool
parts_stand nodes m s (stmts.If [] otherwise) = false
parts_stand nodes m s (stmts.If (arm ∷ arms) otherwise) =
    have_conditions nodes (arm ∷ arms) && (arms_stand nodes m s.0 (arm ∷ arms) && else_stands nodes m s.0 otherwise)
parts_stand nodes m s (stmts.While head body) = is_loop nodes s && block_stands nodes m s.0 body
parts_stand nodes m s stmt = true

-- A condition that joins no others and negates none, and how its node tells it: such a condition has one fact at most.
abbrev pub joins_none : CondTree → Bool
joins_none (junction at both joined a b) = false
joins_none (negation at a) = false
joins_none c = true

abbrev pub joins_none_in : Expr → Bool
joins_none_in (exprs.Chain op parts) = not (is_joining (operator_kind op))
joins_none_in (exprs.Not of) = false
joins_none_in x = true
