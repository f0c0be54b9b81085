use Rattle.std.proofs.Common.{◌∙◌, ap, arith, length}
use Rattle.wf_exprs_nodes.proofs.MarkLaws.{length-none}
use Rattle.wf_lower.specs.Made.{item_trees}
use Rattle.wf_lower.specs.Unit.{is_used}
use Rattle.wf_lower.proofs.Texts.{fit_here, fit_rest, names_end, names_first, names_on}
use Rattle.wf_lower.proofs.lowering.names_read.Goals as goal

pub loop-item-init : goal.loop-item-init
loop-item-init c = record {
  sized = ap length c.in_ok-begin.ensures ∙ length-none (length c.args.u.now.names);
  fit = c.requires;
  left = names_first c.args.u.now c.args.functions.now c.begin.new.self c.in_ok-begin.ensures;
}

pub mark_function-requires-clause-fits : goal.mark_function-requires-clause-fits
mark_function-requires-clause-fits c = fit_here c.args.u.now c.args.functions.now c.loop-item.item-index c.item-item.result c.item-item.is c.loop-item-test.true c.loop-item.invariant.fit

pub loop-item-preserved : goal.loop-item-preserved
loop-item-preserved c =
    let u = c.args.u.now in
    let xs = c.args.functions.now in
    let i = c.loop-item.item-index in
    record {
      sized = c.mark_function.ensures.sized ∙ c.loop-item.invariant.sized;
      fit = fit_rest u xs i c.item-item.result c.item-item.is c.loop-item-test.true c.loop-item.invariant.fit;
      left = names_on u xs i c.item-item.result c.item-item.is c.loop-item-test.true c.loop-item.read c.mark_function.new.read (λ name. is_used (item_trees u xs) name) c.mark_function.ensures.marks c.loop-item.invariant.left;
    }

pub returns : goal.returns
returns c =
    let u = c.args.u.now in
    let xs = c.args.functions.now in
    names_end u c.loop-item.read (λ name. is_used (item_trees u xs) name) xs c.loop-item.item-index (omega (arith, c.loop-item-test.false)) c.loop-item.invariant.sized c.loop-item.invariant.left
