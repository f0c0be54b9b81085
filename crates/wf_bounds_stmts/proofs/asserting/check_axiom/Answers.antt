use Rattle.std.proofs.Common.{◌≡◌, [], Some, None, ap, sym, ◌∙◌}
use Rattle.std.specs.Prelude.{unwrap_or}
use Rattle.wf_facts_exprs.specs.Knowledge.{told}
use Rattle.wf_ast.specs.TypedTrees.{text_of}
use Rattle.wf_ast.specs.NodeKinds.{node_cond}
use Rattle.wf_facts_exprs.specs.Claims.{claims_in}
use Rattle.wf_facts_exprs.specs.Demands.{unless_refused}
use Rattle.wf_axioms.specs.Matching.{given_trees}
use Rattle.wf_bounds_stmts.specs.Assertions.{axiom_named, axiom_refusal}
use Rattle.wf_bounds_stmts.proofs.AssertLemmas.{named-is}
use Rattle.wf_bounds_stmts.proofs.asserting.check_axiom.Goals as goal

pub returns-in-Some : goal.returns-in-Some
returns-in-Some c =
    let t = c.args.t.now in
    let named : axiom_named (text_of t c.args.by.now.name) ≡ Some c.in-Some.a =
    ap (λ o. axiom_named (unwrap_or o [])) c.text.ensures ∙ named-is c.text.result.now c.axiom-named.result c.axiom-named.ensures.found c.axiom-named.ensures.none ∙ c.in-Some.is in
    (rw c.as_slice.ensures at c.check_matched.ensures)
    ∙ ap (λ o. unless_refused (axiom_refusal (claims_in t (told c.args.facts.now)) c.args.by.now.at (node_cond t c.args.goal) (given_trees t c.args.by.now.given) o) (tt {0})) (sym named)

pub returns-in-None : goal.returns-in-None
returns-in-None c =
    let t = c.args.t.now in
    let named : axiom_named (text_of t c.args.by.now.name) ≡ None =
    ap (λ o. axiom_named (unwrap_or o [])) c.text.ensures ∙ named-is c.text.result.now c.axiom-named.result c.axiom-named.ensures.found c.axiom-named.ensures.none ∙ c.in-None.is in
    ap (λ o. unless_refused (axiom_refusal (claims_in t (told c.args.facts.now)) c.args.by.now.at (node_cond t c.args.goal) (given_trees t c.args.by.now.given) o) (tt {0})) (sym named)
