use Rattle.std.proofs.Common.{◌∙◌}
use Rattle.wf_named.specs.NamedTrees.{stmt_trees, block_at}
use Rattle.wf_types_stmts.proofs.BlockLemmas.{closes}
use Rattle.wf_types_stmts.proofs.StatementLemmas.{end_judged}
use Rattle.wf_types_stmts.proofs.ends.judge_whole_body.Goals as goal

pub returns : goal.returns
returns c =
    let ts = stmt_trees c.args.here.now.nodes.now.texts c.args.here.now.nodes.now.exprs c.args.here.now.nodes.now.stmts in
    let body = c.args.body.now in
    c.tell_end.ensures ∙ end_judged c.args.here.now.around.now c.args.found.now (block_at ts body) c.block_stops.result body.close c.block_stops.ensures (closes ts body.items body.close)
