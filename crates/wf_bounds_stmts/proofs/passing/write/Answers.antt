use Rattle.std.proofs.Common.{Option, Some, sym, ◌∙◌, subst}
use Rattle.wf_ast.specs.TypedTree.{Arith}
use Rattle.wf_ast.specs.TypedTrees.{assigned_by, target_of, tree_of}
use Rattle.wf_facts_exprs.specs.Claims.{claims_in}
use Rattle.wf_bounds_stmts.specs.Targets.{assign_refusal, assigned}
use Rattle.wf_bounds_stmts.specs.Outcomes.{Told}
use Rattle.wf_bounds_stmts.proofs.PassLemmas.{settles-told, an-operator}
use Rattle.wf_bounds_stmts.proofs.passing.write.Goals as goal

pub returns-then-is_arithmetic-clause-told : goal.returns-then-is_arithmetic-clause-told
returns-then-is_arithmetic-clause-told c =
    let t = c.args.t.now in
    let fs = claims_in t c.args.facts.now.list in
    let w = target_of (tree_of t c.args.target) in
    let v = tree_of t c.args.value in
    let r = c.assign_by.result in
    let known = c.assign_by.new.facts in
    let it = an-operator (assigned_by c.args.op) (sym c.is_arithmetic.ensures ∙ c.if-is_arithmetic.true) in
    let P : Option Arith → Type 0 = λ op. Told t c.args.at (assign_refusal fs w v) (Some (assigned fs w op v)) r known in
    subst P (sym it.1) (settles-told t c.args.at (assign_refusal fs w v) known (assigned fs w (Some it.0) v) r (c.assign_by.ensures.settles it.0))
