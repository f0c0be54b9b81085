use Rattle.std.proofs.Common.{map, drop, get_or, ◌+◌, ap}
use Rattle.pens.proofs.Progress.{unroll}
use Rattle.c_text.specs.CNodes.{local_tree, expr_of}
use Rattle.c_text.proofs.Parts.{no_local}
use Rattle.c_step_frames.specs.Frames.{local_type}
use Rattle.c_step_load.proofs.ItemLemmas.{one_more}
use Rattle.c_step_load.proofs.frames.local_types.Goals as goal

pub loop-local-preserved : goal.loop-local-preserved
loop-local-preserved c = λ nodes.
    one_more c.loop-local.types.items c.push.new.self.items (map local_type (map (local_tree nodes.names (expr_of nodes)) (drop (c.loop-local.local-index + 1) c.args.locals.now))) _ _ c.cell_type.result (local_type (local_tree nodes.names (expr_of nodes) (get_or c.args.locals.now c.loop-local.local-index no_local)))
    c.in_ok-push.ensures.items (c.cell_type.ensures nodes.names) (ap (λ xs. map local_type (map (local_tree nodes.names (expr_of nodes)) xs)) (unroll c.args.locals.now c.loop-local.local-index no_local c.loop-local-test.true)) (c.loop-local.invariant nodes)
