use Rattle.std.proofs.Common.{refl, sym, ◌∙◌}
use Rattle.wf_facts_exprs.specs.Knowledge.{told}
use Rattle.wf_ast.specs.TypedTrees.{text_of}
use Rattle.wf_ast.specs.NodeKinds.{node_cond}
use Rattle.wf_facts_exprs.specs.Claims.{claims_in}
use Rattle.wf_facts_exprs.specs.Demands.{cond_refusal}
use Rattle.wf_axioms.specs.Matching.{given_trees}
use Rattle.wf_bounds_stmts.specs.Assertions.{axiom_named, axiom_refusal, given_refusal}
use Rattle.wf_bounds_stmts.proofs.OutcomeLemmas.{third-of}
use Rattle.wf_bounds_stmts.proofs.asserting.check_by_axiom.Goals as goal

pub returns : goal.returns
returns c =
    let t = c.args.t.now in
    let fs = claims_in t (told c.args.facts.now) in
    let given = given_trees t c.args.by.now.given in
    let last = axiom_refusal fs c.args.by.now.at (node_cond t c.args.goal) given (axiom_named (text_of t c.args.by.now.name)) in
    third-of (cond_refusal fs (node_cond t c.args.goal)) (given_refusal fs given) last last c.check_axiom.result c.check_axiom.ensures refl (sym c.check_condition.ensures ∙ c.in_ok-check_condition.was)
    (rw c.as_slice.ensures at (sym c.check_given.ensures ∙ c.in_ok-check_given.was))
