use Rattle.std.proofs.Common.{◌≡◌, List, map, sym, subst, arith}
use Rattle.std.proofs.lemmas.List.{length-map}
use Rattle.wf_ast.specs.declared.numbers.ExprId.{ExprId}
use Rattle.wf_ast.specs.TypedTree.{plain}
use Rattle.wf_ast.specs.TypedTrees.{base_call, optional_target, tree_of}
use Rattle.wf_meaning.specs.SourceStep.{simple_step}
use Rattle.wf_mean_exprs.specs.MachineState.{done_seen}
use Rattle.wf_mean_stmts.specs.Doings.{did_steps}
use Rattle.wf_mean_stmts.specs.Stages.{body_on, vars_on}
use Rattle.wf_mean_stmts.proofs.CallLemmas.{no_call, one_item, two_items, too_many}
use Rattle.wf_mean_stmts.proofs.base_calls.base_call.Goals as goal

pub returns-in-len1-clause-steps : goal.returns-in-len1-clause-steps
returns-in-len1-clause-steps c = λ calls n site at rest behind.
    let nodes = c.args.t.now in
    let P : List ExprId → Type 0 = λ es. simple_step (body_on nodes c.args.stage.now) calls n (done_seen c.args.done) site (base_call at (optional_target (tree_of nodes) c.args.call.target) (tree_of nodes c.args.call.on) c.args.call.sig (map (tree_of nodes) es)) rest behind (vars_on nodes c.args.stage.now) ≡ did_steps n c.call_with.result (plain site (base_call at (optional_target (tree_of nodes) c.args.call.target) (tree_of nodes c.args.call.on) c.args.call.sig (map (tree_of nodes) es)) rest) rest behind (vars_on nodes c.call_with.new.stage) in
    subst P (sym (one_item c.args.call.args.now _ (omega (arith, c.in-len1.len_at_least, c.in-len1.len_below)))) (c.call_with.ensures.steps calls n site at rest behind)

pub returns-in-len2-clause-steps : goal.returns-in-len2-clause-steps
returns-in-len2-clause-steps c = λ calls n site at rest behind.
    let nodes = c.args.t.now in
    let P : List ExprId → Type 0 = λ es. simple_step (body_on nodes c.args.stage.now) calls n (done_seen c.args.done) site (base_call at (optional_target (tree_of nodes) c.args.call.target) (tree_of nodes c.args.call.on) c.args.call.sig (map (tree_of nodes) es)) rest behind (vars_on nodes c.args.stage.now) ≡ did_steps n c.call_with_two.result (plain site (base_call at (optional_target (tree_of nodes) c.args.call.target) (tree_of nodes c.args.call.on) c.args.call.sig (map (tree_of nodes) es)) rest) rest behind (vars_on nodes c.call_with_two.new.stage) in
    subst P (sym (two_items c.args.call.args.now _ _ (omega (arith, c.in-len2.len_at_least, c.in-len2.len_below)))) (c.call_with_two.ensures.steps (done_seen c.args.done) calls n site at rest behind)

pub returns-in_default-clause-steps : goal.returns-in_default-clause-steps
returns-in_default-clause-steps c = λ calls n site at rest behind.
    let nodes = c.args.t.now in
    no_call (body_on nodes c.args.stage.now) calls n (done_seen c.args.done) site (base_call at (optional_target (tree_of nodes) c.args.call.target) (tree_of nodes c.args.call.on) c.args.call.sig (map (tree_of nodes) c.args.call.args.now)) rest behind (vars_on nodes c.args.stage.now) (too_many at (optional_target (tree_of nodes) c.args.call.target) (tree_of nodes c.args.call.on) c.args.call.sig (map (tree_of nodes) c.args.call.args.now) (omega (arith, c.in_default.len_at_least, length-map c.args.call.args.now (tree_of nodes))))
