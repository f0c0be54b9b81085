use Rattle.std.proofs.Common.{◌∙◌, Err, ap, sym}
use Rattle.std.proofs.lemmas.Result.{err_from_is_err_and}
use Rattle.wf_facts_exprs.specs.Knowledge.{told}
use Rattle.wf_ast.specs.NodeKinds.{node_cond}
use Rattle.wf_facts_exprs.specs.Claims.{claims_in}
use Rattle.wf_loops.proofs.LoopLemmas.{condition_refusal}
use Rattle.wf_loops.proofs.AskingLemmas.{has_no_value, err_is_some}
use Rattle.wf_loops.proofs.asking.require.Goals as goal

pub returns-in_err-check_value : goal.returns-in_err-check_value
returns-in_err-check_value c =
    let p = err_from_is_err_and c.from_residual.result c.from_residual.ensures.1 in
    let fs = claims_in c.args.t.now (told c.args.facts.now) in
    rw p.1 (has_no_value fs c.args.rule c.args.at (node_cond c.args.t.now c.args.e) p.0
    (sym (condition_refusal c.args.t.now c.args.e c.expr-node.result.now c.expr-node.ensures.made c.expr-node.ensures.kinds c.requires.condition fs)
    ∙ err_is_some _ p.0 (ap (λ r. Err r) p.2 ∙ sym c.in_err-check_value.was ∙ c.check_value.ensures)))
