use Rattle.std.proofs.Common.{◌≡◌, Option, OnOk, subst}
use Rattle.wf_text.specs.declared.rules.Refusal.{Refusal}
use Rattle.wf_named.specs.NamedTrees.{expr_trees, expr_at, via_at}
use Rattle.wf_types_rules.specs.Parts.{condition_parts, via_parts}
use Rattle.wf_types_stmts.proofs.BlockLemmas.{two_parts}
use Rattle.wf_types_stmts.proofs.results.judge_claim.Goals as goal

pub returns : goal.returns
returns c =
    let es = expr_trees c.args.here.now.nodes.now.exprs in
    let P : Option Refusal → Type 0 = λ x. OnOk c.judge_via.result (c.judge_via.new.found ≡ x) in
    subst P (two_parts c.args.here.now.around.now c.args.found.now c.judge_condition.new.found (condition_parts (expr_at es c.args.goal)) (via_parts (via_at c.args.here.now.nodes.now.texts es c.args.via.now)) c.in_ok-judge_condition.ensures) c.judge_via.ensures
