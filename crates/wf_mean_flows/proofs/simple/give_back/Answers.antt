use Rattle.std.proofs.Common.{◌∙◌, refl, sym, ap, true, false, Some, None}
use Rattle.std.specs.Prelude.{option_map}
use Rattle.wf_ast.specs.TypedTree.{give_back, plain}
use Rattle.wf_ast.specs.TypedTrees.{tree_of}
use Rattle.wf_meaning.specs.SourceState.{untouched}
use Rattle.wf_mean_exprs.specs.MachineState.{slot_seen}
use Rattle.wf_mean_stmts.specs.Stages.{vars_on}
use Rattle.wf_mean_flows.specs.declared.flows.Flow.TheVariants.{Returns, Stuck}
use Rattle.wf_mean_flows.specs.Flows.{calls_below, site_of}
use Rattle.wf_mean_flows.proofs.SimpleLaws.{returned, returned_none, returned_stuck, still_runs}
use Rattle.wf_mean_flows.proofs.simple.give_back.Goals as goal

pub returns-in-Some-value_on : goal.returns-in-Some-value_on
returns-in-Some-value_on c = record {
  runs = λ level.
      let nodes = c.args.t.now in
      let st = give_back (Some (tree_of nodes c.in-Some.e)) in
      still_runs nodes level c.args.s st untouched c.args.stage.now c.give_value.result (λ rest. c.requires.made rest ∙ ap (λ v. plain (site_of nodes c.args.s) (give_back (option_map (tree_of nodes) v)) rest) c.in-Some.is) (c.give_value.ensures.at (site_of nodes c.args.s) st)
      (λ rest behind. returned nodes c.args.stage.now (calls_below nodes level) c.args.stage.now.turns (site_of nodes c.args.s) (plain (site_of nodes c.args.s) st rest) rest behind (tree_of nodes c.in-Some.e) (slot_seen c.in-Some-value_on.v) c.give_value.result c.in-Some-value_on.ensures
      (c.give_value.ensures.steps c.args.stage.now.turns (plain (site_of nodes c.args.s) st rest) rest behind (vars_on nodes c.args.stage.now)));
}

pub returns-in-None-value_on : goal.returns-in-None-value_on
returns-in-None-value_on c = record {
  runs = λ level.
      let nodes = c.args.t.now in
      let st = give_back (Some (tree_of nodes c.in-Some.e)) in
      still_runs nodes level c.args.s st untouched c.args.stage.now Stuck (λ rest. c.requires.made rest ∙ ap (λ v. plain (site_of nodes c.args.s) (give_back (option_map (tree_of nodes) v)) rest) c.in-Some.is) tt
      (λ rest behind. returned_stuck nodes c.args.stage.now (calls_below nodes level) c.args.stage.now.turns (site_of nodes c.args.s) (plain (site_of nodes c.args.s) st rest) rest behind (tree_of nodes c.in-Some.e) c.in-None-value_on.ensures);
}

pub returns-then-is_coroutine : goal.returns-then-is_coroutine
returns-then-is_coroutine c = record {
  runs = λ level.
      let nodes = c.args.t.now in
      still_runs nodes level c.args.s (give_back None) untouched c.args.stage.now Stuck (λ rest. c.requires.made rest ∙ ap (λ v. plain (site_of nodes c.args.s) (give_back (option_map (tree_of nodes) v)) rest) c.in-None.is) tt
      (λ rest behind. returned_none nodes c.args.stage.now (calls_below nodes level) c.args.stage.now.turns (site_of nodes c.args.s) (plain (site_of nodes c.args.s) (give_back None) rest) rest behind true Stuck (sym c.if-is_coroutine.true ∙ c.is_coroutine.ensures ∙ rw c.own_mark.ensures refl) refl);
}

pub returns-else-is_coroutine : goal.returns-else-is_coroutine
returns-else-is_coroutine c = record {
  runs = λ level.
      let nodes = c.args.t.now in
      still_runs nodes level c.args.s (give_back None) untouched c.args.stage.now (Returns None) (λ rest. c.requires.made rest ∙ ap (λ v. plain (site_of nodes c.args.s) (give_back (option_map (tree_of nodes) v)) rest) c.in-None.is) tt
      (λ rest behind. returned_none nodes c.args.stage.now (calls_below nodes level) c.args.stage.now.turns (site_of nodes c.args.s) (plain (site_of nodes c.args.s) (give_back None) rest) rest behind false (Returns None) (sym c.if-is_coroutine.false ∙ c.is_coroutine.ensures ∙ rw c.own_mark.ensures refl) refl);
}
