use Rattle.std.proofs.Common.{◌∙◌, sym, ap, Some}
use Rattle.wf_ast.specs.TypedTree.{claim, plain}
use Rattle.wf_ast.specs.TypedTrees.{axiom_made, cond_in, tree_of}
use Rattle.wf_meaning.specs.SourceState.{untouched}
use Rattle.wf_mean_flows.specs.declared.flows.Flow.TheVariants.{Falls, Stuck}
use Rattle.wf_mean_flows.specs.Flows.{calls_below, site_of}
use Rattle.wf_mean_flows.proofs.SimpleLaws.{claimed, claimed_false, claimed_stuck, still_runs}
use Rattle.wf_mean_flows.proofs.simple.claim.Goals as goal

pub returns-then-holds : goal.returns-then-holds
returns-then-holds c = record {
  runs = λ level.
      let nodes = c.args.t.now in
      let st = claim (cond_in (tree_of nodes c.args.goal)) (axiom_made nodes (tree_of nodes) c.args.by.now) in
      still_runs nodes level c.args.s st untouched c.args.stage.now Falls c.requires.made tt
      (λ rest behind. claimed nodes c.args.stage.now (calls_below nodes level) c.args.stage.now.turns (site_of nodes c.args.s) (plain (site_of nodes c.args.s) st rest) rest behind (cond_in (tree_of nodes c.args.goal)) (axiom_made nodes (tree_of nodes) c.args.by.now) (ap Some (sym c.if-holds.true) ∙ c.in-Some.ensures));
}

pub returns-else-holds : goal.returns-else-holds
returns-else-holds c = record {
  runs = λ level.
      let nodes = c.args.t.now in
      let st = claim (cond_in (tree_of nodes c.args.goal)) (axiom_made nodes (tree_of nodes) c.args.by.now) in
      still_runs nodes level c.args.s st untouched c.args.stage.now Stuck c.requires.made tt
      (λ rest behind. claimed_false nodes c.args.stage.now (calls_below nodes level) c.args.stage.now.turns (site_of nodes c.args.s) (plain (site_of nodes c.args.s) st rest) rest behind (cond_in (tree_of nodes c.args.goal)) (axiom_made nodes (tree_of nodes) c.args.by.now) (ap Some (sym c.if-holds.false) ∙ c.in-Some.ensures));
}

pub returns-in-None : goal.returns-in-None
returns-in-None c = record {
  runs = λ level.
      let nodes = c.args.t.now in
      let st = claim (cond_in (tree_of nodes c.args.goal)) (axiom_made nodes (tree_of nodes) c.args.by.now) in
      still_runs nodes level c.args.s st untouched c.args.stage.now Stuck c.requires.made tt
      (λ rest behind. claimed_stuck nodes c.args.stage.now (calls_below nodes level) c.args.stage.now.turns (site_of nodes c.args.s) (plain (site_of nodes c.args.s) st rest) rest behind (cond_in (tree_of nodes c.args.goal)) (axiom_made nodes (tree_of nodes) c.args.by.now) c.in-None.ensures);
}
