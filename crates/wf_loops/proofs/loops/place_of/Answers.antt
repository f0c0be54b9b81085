use Rattle.wf_loops.proofs.LoopLemmas.{loop_within, loop_place}
use Rattle.wf_loops.proofs.loops.place_of.Goals as goal

pub stmt_place-requires : goal.stmt_place-requires
stmt_place-requires c = loop_within c.args.t.now c.args.w c.requires

pub returns : goal.returns
returns c = loop_place c.args.t.now c.args.w c.stmt_place.result c.stmt_place.ensures
