use Rattle.std.proofs.Common.{◌≡◌, map, Some, ap, ◌∙◌, subst}
use Rattle.std.specs.Prelude.{slice_get}
use Rattle.wf_base.specs.declared.marks.Mark.{Mark}
use Rattle.wf_ast.specs.TypedTree.{invoke}
use Rattle.wf_ast.specs.TypedTrees.{optional_target, tree_of}
use Rattle.wf_ast.specs.WellTyped.{number_of}
use Rattle.wf_facts_exprs.specs.Claims.{claims_in}
use Rattle.wf_bounds_stmts.specs.Requirements.{number_type}
use Rattle.wf_bounds_stmts.specs.Outcomes.{Leaves}
use Rattle.wf_bounds_stmts.proofs.CallLemmas.{call_left, mark_is}
use Rattle.wf_bounds_stmts.proofs.calls.call_method.Goals as goal

pub returns-clause-leaves : goal.returns-clause-leaves
returns-clause-leaves c = λ called n bodied.
    let t = c.args.t.now in
    let fs = claims_in t c.args.facts.now.list in
    let target = optional_target (tree_of t) c.args.call.target in
    let vs = map (tree_of t) c.args.call.args.now in
    let m = c.method-method.result.now in
    let r = c.invoke.result in
    let known = c.invoke.new.facts in
    let P : Mark → Type 0 = λ mark. Leaves t fs (invoke c.args.call.at target c.args.call.keep mark called vs) r known in
    let is : slice_get t.methods (number_of called) ≡ Some m = ap (slice_get t.methods) n ∙ c.method-method.ensures in
    subst P (mark_is t c.args.m.0 m c.method-method.ensures)
    (call_left t fs c.args.call.at target c.args.call.keep m.mark vs m (number_type c.answered.result) r known called is bodied c.answered.ensures (rw c.as_slice.ensures at c.invoke.ensures.settles))
