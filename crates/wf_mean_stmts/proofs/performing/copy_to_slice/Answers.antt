use Rattle.std.proofs.Common.{◌≡◌, ◌∙◌, ℕ, min, refl, subst}
use Rattle.wf_ast.specs.TypedTrees.{slice_in, optional_target, tree_of}
use Rattle.wf_ast.specs.Value.{num}
use Rattle.wf_meaning.specs.World.{Body, put_value}
use Rattle.wf_mean_exprs.specs.MachineState.{span_seen}
use Rattle.wf_mean_stmts.specs.Stages.{Comes, body_on, vars_on}
use Rattle.wf_mean_stmts.proofs.BodyLemmas.{same_body}
use Rattle.wf_mean_stmts.proofs.PerformLemmas.{no_source, no_target, to_slice_goes, to_slice_stuck}
use Rattle.wf_mean_stmts.proofs.performing.copy_to_slice.Goals as goal

pub returns-then-copy_elements-clause-vars : goal.returns-then-copy_elements-clause-vars
returns-then-copy_elements-clause-vars c =
    let nodes = c.args.t.now in
    let mid = c.copy_elements.new.stage in
    let t = span_seen c.in-Some.to in
    let s = span_seen c.in-Some-slice_on.source in
    let n : c.min-n.result ≡ min t.count s.count = c.min-n.ensures ∙ counts _ _ _ _ c.count.ensures c.count-then-copy_elements.ensures in
    let P : Body → Type 0 = λ b. Comes c.put_if_any.result (put_value b (optional_target (tree_of nodes) c.args.target) (num c.min-n.result) (vars_on nodes mid)) (vars_on nodes c.put_if_any.new.stage) in
    let Q : ℕ → Type 0 = λ j. Comes c.put_if_any.result (put_value (body_on nodes c.args.stage.now) (optional_target (tree_of nodes) c.args.target) (num j) (vars_on nodes mid)) (vars_on nodes c.put_if_any.new.stage) in
    to_slice_goes nodes c.args.stage.now (optional_target (tree_of nodes) c.args.target) (slice_in (tree_of nodes c.args.to)) (slice_in (tree_of nodes c.args.source)) c.put_if_any.result t s (vars_on nodes mid) (vars_on nodes c.put_if_any.new.stage) c.in-Some.ensures c.in-Some-slice_on.ensures c.if-copy_elements.ensures.vars
    (subst Q n (subst P (same_body nodes c.args.stage.now mid c.copy_elements.ensures.shape) c.put_if_any.ensures.vars))
  where
    counts : (a b m n : ℕ) → a ≡ m → b ≡ n → min a b ≡ min m n
    counts a b m n e f = rw (e, f) refl

pub returns-else-copy_elements-clause-vars : goal.returns-else-copy_elements-clause-vars
returns-else-copy_elements-clause-vars c =
    let nodes = c.args.t.now in
    to_slice_stuck nodes c.args.stage.now (optional_target (tree_of nodes) c.args.target) (slice_in (tree_of nodes c.args.to)) (slice_in (tree_of nodes c.args.source)) (span_seen c.in-Some.to) (span_seen c.in-Some-slice_on.source) (vars_on nodes c.copy_elements.new.stage) _ c.in-Some.ensures c.in-Some-slice_on.ensures c.if-copy_elements.ensures.vars

pub returns-in-None-slice_on-clause-vars : goal.returns-in-None-slice_on-clause-vars
returns-in-None-slice_on-clause-vars c =
    let nodes = c.args.t.now in
    no_source nodes c.args.stage.now (optional_target (tree_of nodes) c.args.target) (slice_in (tree_of nodes c.args.to)) (slice_in (tree_of nodes c.args.source)) (span_seen c.in-Some.to) _ c.in-Some.ensures c.in-None-slice_on.ensures

pub returns-in-None-clause-vars : goal.returns-in-None-clause-vars
returns-in-None-clause-vars c =
    let nodes = c.args.t.now in
    no_target nodes c.args.stage.now (optional_target (tree_of nodes) c.args.target) (slice_in (tree_of nodes c.args.to)) (slice_in (tree_of nodes c.args.source)) _ c.in-None.ensures
