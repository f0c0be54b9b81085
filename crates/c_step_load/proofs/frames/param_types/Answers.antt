use Rattle.std.proofs.Common.{map, drop, get_or, ◌+◌, ap}
use Rattle.pens.proofs.Progress.{unroll}
use Rattle.c_text.specs.CNodes.{param_tree}
use Rattle.c_text.proofs.Parts.{no_param}
use Rattle.c_step_frames.specs.Frames.{param_type}
use Rattle.c_step_load.proofs.ItemLemmas.{one_more}
use Rattle.c_step_load.proofs.frames.param_types.Goals as goal

pub loop-param-preserved : goal.loop-param-preserved
loop-param-preserved c = λ nodes.
    one_more c.loop-param.types.items c.push.new.self.items (map param_type (map (param_tree nodes.names) (drop (c.loop-param.param-index + 1) c.args.params.now))) _ _ c.cell_type.result (param_type (param_tree nodes.names (get_or c.args.params.now c.loop-param.param-index no_param)))
    c.in_ok-push.ensures.items (c.cell_type.ensures nodes.names) (ap (λ xs. map param_type (map (param_tree nodes.names) xs)) (unroll c.args.params.now c.loop-param.param-index no_param c.loop-param-test.true)) (c.loop-param.invariant nodes)
