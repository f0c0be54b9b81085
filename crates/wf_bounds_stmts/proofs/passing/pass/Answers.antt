use Rattle.std.proofs.Common.{◌≡◌, true, map, None, Some, refl, ap, sym, ◌∙◌}
use Rattle.std.specs.Prelude.{option_map}
use Rattle.wf_ast.specs.declared.typed_code.Stmt.TheVariants as stmts
use Rattle.wf_ast.specs.TypedTree.{assign, break_from, continue_in, give_back, yield, claim}
use Rattle.std.proofs.lemmas.Bool.{and_parts}
use Rattle.wf_ast.specs.TypedInvariant.{axiom_exists, is_expr}
use Rattle.wf_ast.specs.TypedTrees.{assigned_by, axiom_made, call_made, optional_target, target_of, tree_of}
use Rattle.wf_ast.specs.NodeKinds.{node_cond}
use Rattle.wf_facts_exprs.specs.Claims.{claims_in}
use Rattle.wf_facts_exprs.specs.Demands.{unless_refused}
use Rattle.wf_facts.specs.FactLists.{with_condition}
use Rattle.wf_loops.specs.LoopNodes.{head_at}
use Rattle.wf_loops.specs.LoopRules.{break_refusal, way_back_refusal}
use Rattle.wf_bounds_stmts.specs.Assertions.{claim_refusal}
use Rattle.wf_bounds_stmts.specs.Calls.{interrupted}
use Rattle.wf_bounds_stmts.specs.FactRules.{jump_refusal, known_behind, loop_numbered, return_refusal, single_refusal}
use Rattle.wf_bounds_stmts.specs.Targets.{assign_refusal, assigned}
use Rattle.wf_bounds_stmts.proofs.PassLemmas.{alone, answers-told, assign_few, axiom_there, call_few, call_is, does-told, goal_there, goes, jump-by, jump_there, keeps, method_is, receiver_there, simple_is, stops-passes, well_as}
use Rattle.wf_bounds_stmts.proofs.passing.pass.Goals as goal

pub write-answer-requires-clause-few : goal.write-answer-requires-clause-few
write-answer-requires-clause-few c =
    assign_few c.args.t.now c.requires.typed c.args.m c.args.s c.requires.placed.0 c.requires.placed.1 (target_of (tree_of c.args.t.now c.in-Assign.target)) (assigned_by c.in-Assign.op) (tree_of c.args.t.now c.in-Assign.value) (simple_is c.args.t.now c.args.s (stmts.Assign c.in-Assign.target c.in-Assign.op c.in-Assign.value) (c.stmt.ensures.node ∙ ap Some c.in-Assign.is)) c.requires.method c.requires.few

pub call-answer-requires-clause-receiver : goal.call-answer-requires-clause-receiver
call-answer-requires-clause-receiver c = receiver_there c.args.t.now c.args.s (stmts.Call c.in-Call.target c.in-Call.keep c.in-Call.callee c.in-Call.args) (c.stmt.ensures.node ∙ ap Some c.in-Call.is) c.requires.receiver

pub call-answer-requires-clause-well : goal.call-answer-requires-clause-well
call-answer-requires-clause-well c = keeps c.args.t.now c.requires.typed c.args.m c.args.s c.requires.placed.0 c.requires.placed.1 (call_made c.args.t.now (tree_of c.args.t.now) c.inner_place-name_at.result (optional_target (tree_of c.args.t.now) c.in-Call.target) c.in-Call.keep c.in-Call.callee (map (tree_of c.args.t.now) c.as_slice.result.now)) (call_is c.args.t.now c.args.s c.inner_place-name_at.result c.in-Call.target c.in-Call.keep c.in-Call.callee c.in-Call.args c.as_slice.result.now (c.stmt.ensures.node ∙ ap Some c.in-Call.is) c.inner_place-name_at.ensures c.as_slice.ensures)

pub call-answer-requires-clause-few : goal.call-answer-requires-clause-few
call-answer-requires-clause-few c = call_few c.args.t.now c.requires.typed c.args.m c.args.s c.requires.placed.0 c.requires.placed.1 c.inner_place-name_at.result (optional_target (tree_of c.args.t.now) c.in-Call.target) c.in-Call.keep c.in-Call.callee (map (tree_of c.args.t.now) c.as_slice.result.now) (call_is c.args.t.now c.args.s c.inner_place-name_at.result c.in-Call.target c.in-Call.keep c.in-Call.callee c.in-Call.args c.as_slice.result.now (c.stmt.ensures.node ∙ ap Some c.in-Call.is) c.inner_place-name_at.ensures c.as_slice.ensures) c.requires.method c.requires.few

pub at_break-requires-clause-is_loop : goal.at_break-requires-clause-is_loop
at_break-requires-clause-is_loop c = (jump_there c.args.t.now c.requires.typed c.args.m c.args.s c.requires.placed.0 c.requires.placed.1 c.in-Break.w (well_as c.args.t.now c.requires.typed c.args.m c.args.s c.requires.placed.0 c.requires.placed.1 (break_from c.in-Break.w.0) (simple_is c.args.t.now c.args.s (stmts.Break c.in-Break.w) (c.stmt.ensures.node ∙ ap Some c.in-Break.is)))).0

pub way_back-requires-clause-is_loop : goal.way_back-requires-clause-is_loop
way_back-requires-clause-is_loop c = (jump_there c.args.t.now c.requires.typed c.args.m c.args.s c.requires.placed.0 c.requires.placed.1 c.in-Continue.w (well_as c.args.t.now c.requires.typed c.args.m c.args.s c.requires.placed.0 c.requires.placed.1 (continue_in c.in-Continue.w.0) (simple_is c.args.t.now c.args.s (stmts.Continue c.in-Continue.w) (c.stmt.ensures.node ∙ ap Some c.in-Continue.is)))).0

pub assert-answer-requires-clause-goal : goal.assert-answer-requires-clause-goal
assert-answer-requires-clause-goal c = goal_there c.args.t.now c.requires.typed c.args.m c.args.s c.requires.placed.0 c.requires.placed.1 c.in-Assert.goal c.in-Assert.axiom (simple_is c.args.t.now c.args.s (stmts.Assert c.in-Assert.goal c.in-Assert.axiom) (c.stmt.ensures.node ∙ ap Some c.in-Assert.is)) (and_parts (is_expr c.args.t.now c.in-Assert.goal) (axiom_exists c.args.t.now c.in-Assert.axiom) (rw c.in-Assert.is at c.stmt.ensures.below)).0

pub assert-answer-requires-clause-by : goal.assert-answer-requires-clause-by
assert-answer-requires-clause-by c = axiom_there c.args.t.now c.requires.typed c.args.m c.args.s c.requires.placed.0 c.requires.placed.1 c.in-Assert.goal c.in-Assert.axiom (simple_is c.args.t.now c.args.s (stmts.Assert c.in-Assert.goal c.in-Assert.axiom) (c.stmt.ensures.node ∙ ap Some c.in-Assert.is)) (and_parts (is_expr c.args.t.now c.in-Assert.goal) (axiom_exists c.args.t.now c.in-Assert.axiom) (rw c.in-Assert.is at c.stmt.ensures.below)).1

pub returns-in-Assign-clause-passes : goal.returns-in-Assign-clause-passes
returns-in-Assign-clause-passes c = λ a stands.
    goes c.args.t.now c.args.s (claims_in c.args.t.now c.args.facts.now.list) a c.after.result c.write-answer.new.facts (assign (target_of (tree_of c.args.t.now c.in-Assign.target)) (assigned_by c.in-Assign.op) (tree_of c.args.t.now c.in-Assign.value)) c.stmt_place-at.result (simple_is c.args.t.now c.args.s (stmts.Assign c.in-Assign.target c.in-Assign.op c.in-Assign.value) (c.stmt.ensures.node ∙ ap Some c.in-Assign.is)) c.stmt_place-at.ensures
    (c.after.ensures c.args.t.now c.stmt_place-at.result (assign_refusal (claims_in c.args.t.now c.args.facts.now.list) (target_of (tree_of c.args.t.now c.in-Assign.target)) (tree_of c.args.t.now c.in-Assign.value)) (Some (assigned (claims_in c.args.t.now c.args.facts.now.list) (target_of (tree_of c.args.t.now c.in-Assign.target)) (assigned_by c.in-Assign.op) (tree_of c.args.t.now c.in-Assign.value))) c.write-answer.ensures.told)

pub returns-in-Call-clause-passes : goal.returns-in-Call-clause-passes
returns-in-Call-clause-passes c = λ a stands.
    goes c.args.t.now c.args.s (claims_in c.args.t.now c.args.facts.now.list) a c.after-in-Call.result c.call-answer.new.facts (call_made c.args.t.now (tree_of c.args.t.now) c.inner_place-name_at.result (optional_target (tree_of c.args.t.now) c.in-Call.target) c.in-Call.keep c.in-Call.callee (map (tree_of c.args.t.now) c.as_slice.result.now)) c.stmt_place-at.result (call_is c.args.t.now c.args.s c.inner_place-name_at.result c.in-Call.target c.in-Call.keep c.in-Call.callee c.in-Call.args c.as_slice.result.now (c.stmt.ensures.node ∙ ap Some c.in-Call.is) c.inner_place-name_at.ensures c.as_slice.ensures) c.stmt_place-at.ensures
    (c.after-in-Call.ensures c.args.t.now c.stmt_place-at.result (single_refusal a (claims_in c.args.t.now c.args.facts.now.list) (record { number = c.args.s.0; at = c.stmt_place-at.result }) (call_made c.args.t.now (tree_of c.args.t.now) c.inner_place-name_at.result (optional_target (tree_of c.args.t.now) c.in-Call.target) c.in-Call.keep c.in-Call.callee (map (tree_of c.args.t.now) c.as_slice.result.now))) (known_behind (claims_in c.args.t.now c.args.facts.now.list) (call_made c.args.t.now (tree_of c.args.t.now) c.inner_place-name_at.result (optional_target (tree_of c.args.t.now) c.in-Call.target) c.in-Call.keep c.in-Call.callee (map (tree_of c.args.t.now) c.as_slice.result.now))) (does-told c.args.t.now c.stmt_place-at.result (single_refusal a (claims_in c.args.t.now c.args.facts.now.list) (record { number = c.args.s.0; at = c.stmt_place-at.result }) (call_made c.args.t.now (tree_of c.args.t.now) c.inner_place-name_at.result (optional_target (tree_of c.args.t.now) c.in-Call.target) c.in-Call.keep c.in-Call.callee (map (tree_of c.args.t.now) c.as_slice.result.now))) c.call-answer.new.facts (known_behind (claims_in c.args.t.now c.args.facts.now.list) (call_made c.args.t.now (tree_of c.args.t.now) c.inner_place-name_at.result (optional_target (tree_of c.args.t.now) c.in-Call.target) c.in-Call.keep c.in-Call.callee (map (tree_of c.args.t.now) c.as_slice.result.now))) c.call-answer.result (c.call-answer.ensures.leaves a stands.within (record { number = c.args.s.0; at = c.stmt_place-at.result }))))

pub returns-in-Break-clause-passes : goal.returns-in-Break-clause-passes
returns-in-Break-clause-passes c = λ a stands.
    goes c.args.t.now c.args.s (claims_in c.args.t.now c.args.facts.now.list) a c.leaves.result c.args.facts.now (break_from c.in-Break.w.0) c.stmt_place-at.result (simple_is c.args.t.now c.args.s (stmts.Break c.in-Break.w) (c.stmt.ensures.node ∙ ap Some c.in-Break.is)) c.stmt_place-at.ensures
    (stops-passes c.args.t.now c.stmt_place-at.result (jump_refusal (break_refusal (claims_in c.args.t.now c.args.facts.now.list) c.stmt_place-at.result) (loop_numbered a.loops c.in-Break.w.0)) c.leaves.result c.args.facts.now
    (jump-by (break_refusal (claims_in c.args.t.now c.args.facts.now.list) c.stmt_place-at.result) (loop_numbered a.loops c.in-Break.w.0) (head_at c.args.t.now c.in-Break.w) c.leaves.result (jump_there c.args.t.now c.requires.typed c.args.m c.args.s a stands c.in-Break.w (well_as c.args.t.now c.requires.typed c.args.m c.args.s a stands (break_from c.in-Break.w.0) (simple_is c.args.t.now c.args.s (stmts.Break c.in-Break.w) (c.stmt.ensures.node ∙ ap Some c.in-Break.is)))).1 (c.leaves.ensures (break_refusal (claims_in c.args.t.now c.args.facts.now.list) c.stmt_place-at.result (head_at c.args.t.now c.in-Break.w)) c.at_break.ensures)))

pub returns-in-Continue-clause-passes : goal.returns-in-Continue-clause-passes
returns-in-Continue-clause-passes c = λ a stands.
    goes c.args.t.now c.args.s (claims_in c.args.t.now c.args.facts.now.list) a c.leaves-in-Continue.result c.args.facts.now (continue_in c.in-Continue.w.0) c.stmt_place-at.result (simple_is c.args.t.now c.args.s (stmts.Continue c.in-Continue.w) (c.stmt.ensures.node ∙ ap Some c.in-Continue.is)) c.stmt_place-at.ensures
    (stops-passes c.args.t.now c.stmt_place-at.result (jump_refusal (way_back_refusal (claims_in c.args.t.now c.args.facts.now.list) c.stmt_place-at.result) (loop_numbered a.loops c.in-Continue.w.0)) c.leaves-in-Continue.result c.args.facts.now
    (jump-by (way_back_refusal (claims_in c.args.t.now c.args.facts.now.list) c.stmt_place-at.result) (loop_numbered a.loops c.in-Continue.w.0) (head_at c.args.t.now c.in-Continue.w) c.leaves-in-Continue.result (jump_there c.args.t.now c.requires.typed c.args.m c.args.s a stands c.in-Continue.w (well_as c.args.t.now c.requires.typed c.args.m c.args.s a stands (continue_in c.in-Continue.w.0) (simple_is c.args.t.now c.args.s (stmts.Continue c.in-Continue.w) (c.stmt.ensures.node ∙ ap Some c.in-Continue.is)))).1 (c.leaves-in-Continue.ensures (way_back_refusal (claims_in c.args.t.now c.args.facts.now.list) c.stmt_place-at.result (head_at c.args.t.now c.in-Continue.w)) c.way_back.ensures)))

pub returns-in-Return-clause-passes : goal.returns-in-Return-clause-passes
returns-in-Return-clause-passes c = λ a stands.
    let tree = method_is c.args.t.now c.requires.typed c.args.m c.args.s a stands c.method.result.now c.method.ensures in
    let gives : c.method.result.now.gives ≡ a.context.method.gives = ap (λ x. x.gives) (sym tree.1) in
    let answer : c.check_returned.result ≡ unless_refused (return_refusal (claims_in c.args.t.now c.args.facts.now.list) a.context.method.gives (option_map (tree_of c.args.t.now) c.in-Return.value)) tt =
    rw c.as_known.ensures.list at c.check_returned.ensures ∙ ap (λ of. unless_refused (return_refusal (claims_in c.args.t.now c.args.facts.now.list) of (option_map (tree_of c.args.t.now) c.in-Return.value)) tt) gives in
    goes c.args.t.now c.args.s (claims_in c.args.t.now c.args.facts.now.list) a c.leaves-in-Return.result c.args.facts.now (give_back (option_map (tree_of c.args.t.now) c.in-Return.value)) c.stmt_place-at.result (simple_is c.args.t.now c.args.s (stmts.Return c.in-Return.value) (c.stmt.ensures.node ∙ ap Some c.in-Return.is)) c.stmt_place-at.ensures
    (stops-passes c.args.t.now c.stmt_place-at.result (return_refusal (claims_in c.args.t.now c.args.facts.now.list) a.context.method.gives (option_map (tree_of c.args.t.now) c.in-Return.value)) c.leaves-in-Return.result c.args.facts.now (c.leaves-in-Return.ensures (return_refusal (claims_in c.args.t.now c.args.facts.now.list) a.context.method.gives (option_map (tree_of c.args.t.now) c.in-Return.value)) answer))

pub returns-in-Yield-clause-passes : goal.returns-in-Yield-clause-passes
returns-in-Yield-clause-passes c = λ a stands.
    goes c.args.t.now c.args.s (claims_in c.args.t.now c.args.facts.now.list) a c.after-in-Yield.result c.interrupt.new.facts (yield c.in-Yield.field-0.0) c.stmt_place-at.result (simple_is c.args.t.now c.args.s (stmts.Yield c.in-Yield.field-0) (c.stmt.ensures.node ∙ ap Some c.in-Yield.is)) c.stmt_place-at.ensures
    (c.after-in-Yield.ensures c.args.t.now c.stmt_place-at.result None (Some (interrupted (claims_in c.args.t.now c.args.facts.now.list))) (refl, ap Some (sym c.interrupt.ensures.claims)))

pub returns-in-Assert-clause-passes : goal.returns-in-Assert-clause-passes
returns-in-Assert-clause-passes c = λ a stands.
    goes c.args.t.now c.args.s (claims_in c.args.t.now c.args.facts.now.list) a c.after-in-Assert.result c.assert-answer.new.facts (claim (node_cond c.args.t.now c.in-Assert.goal) (axiom_made c.args.t.now (tree_of c.args.t.now) c.in-Assert.axiom)) c.stmt_place-at.result (simple_is c.args.t.now c.args.s (stmts.Assert c.in-Assert.goal c.in-Assert.axiom) (c.stmt.ensures.node ∙ ap Some c.in-Assert.is)) c.stmt_place-at.ensures
    (c.after-in-Assert.ensures c.args.t.now c.stmt_place-at.result (claim_refusal (claims_in c.args.t.now c.args.facts.now.list) c.stmt_place-at.result (node_cond c.args.t.now c.in-Assert.goal) (axiom_made c.args.t.now (tree_of c.args.t.now) c.in-Assert.axiom)) (Some (with_condition (claims_in c.args.t.now c.args.facts.now.list) (node_cond c.args.t.now c.in-Assert.goal) true)) (answers-told c.args.t.now c.stmt_place-at.result (claim_refusal (claims_in c.args.t.now c.args.facts.now.list) c.stmt_place-at.result (node_cond c.args.t.now c.in-Assert.goal) (axiom_made c.args.t.now (tree_of c.args.t.now) c.in-Assert.axiom)) c.assert-answer.new.facts (with_condition (claims_in c.args.t.now c.args.facts.now.list) (node_cond c.args.t.now c.in-Assert.goal) true) c.assert-answer.result c.assert-answer.ensures.answers))

pub unreachable-requires : goal.unreachable-requires
unreachable-requires c = cc (alone c.args.t.now c.args.s (stmts.If c.in-If.arms c.in-If.otherwise) (c.stmt.ensures.node ∙ ap Some c.in-If.is) c.requires.placed.1.alone)

pub unreachable-requires-in-While : goal.unreachable-requires-in-While
unreachable-requires-in-While c = cc (alone c.args.t.now c.args.s (stmts.While c.in-While.head c.in-While.body) (c.stmt.ensures.node ∙ ap Some c.in-While.is) c.requires.placed.1.alone)
