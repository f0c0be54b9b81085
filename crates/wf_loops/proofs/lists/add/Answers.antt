use Rattle.std.proofs.Common.{arith, of_calls}
use Rattle.std.proofs.lemmas.List.{length-map}
use Rattle.wf_ast.specs.NodeKinds.{node_cond}
use Rattle.wf_facts_exprs.specs.Claims.{claim_in, claims_in, facts_of}
use Rattle.wf_loops.proofs.AskingLemmas.{told_limit}
use Rattle.wf_loops.proofs.MappedErrors.{kept_on_ok}
use Rattle.wf_loops.proofs.lists.add.Goals as goal

pub returns-clause-limit : goal.returns-clause-limit
returns-clause-limit c =
    let before = claims_in c.args.t.now c.args.facts.now.list in
    told_limit _ c.args.at before (facts_of (node_cond c.args.t.now c.args.e) c.args.answer) (claims_in c.args.t.now c.add_condition-added.new.self.list) c.add_condition-added.result c.map_err.result
    (λ e d q. search of_calls) c.map_err.ensures.cases c.add_condition-added.ensures.ok
    (omega (arith, length-map c.add_condition-added.new.self.list (claim_in c.args.t.now), c.keeps_limit.ensures)) c.add_condition-added.ensures.full

pub returns-clause-claims : goal.returns-clause-claims
returns-clause-claims c = kept_on_ok _ c.add_condition-added.result c.map_err.result c.map_err.ensures.variant c.add_condition-added.ensures.ok
