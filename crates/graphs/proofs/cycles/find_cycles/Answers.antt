use Rattle.graphs.proofs.LabelLemmas.{leaving-turned, labels-turned}
use Rattle.graphs.proofs.OrderLemmas.{leaving-off-cycles}
use Rattle.graphs.proofs.cycles.find_cycles.Goals as goal

pub labelled-requires-clause-leaving : goal.labelled-requires-clause-leaving
labelled-requires-clause-leaving c =
    leaving-turned c.args.rows.now c.in_ok-back.back.items c.as_slice.result.now c.in_ok-order.order.items c.as_slice.ensures.value c.in_ok-back.ensures.len c.in_ok-back.ensures.goes c.in_ok-order.ensures

pub flags_of-requires-clause-labels : goal.flags_of-requires-clause-labels
flags_of-requires-clause-labels c =
    labels-turned c.args.rows.now c.in_ok-back.back.items c.as_slice.result.now c.in_ok-labels.labels.items c.as_slice.ensures.value c.in_ok-back.ensures.len c.in_ok-back.ensures.goes c.in_ok-labels.ensures

pub returns-clause-order : goal.returns-clause-order
returns-clause-order c = leaving-off-cycles c.args.rows.now c.in_ok-order.order.items c.in_ok-order.ensures
