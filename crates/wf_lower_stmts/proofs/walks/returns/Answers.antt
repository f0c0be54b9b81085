use Rattle.std.proofs.Common.{◌∙◌}
use Rattle.wf_ast.specs.TypedTrees.{block_of}
use Rattle.wf_lower_stmts.proofs.StandLaws.{stands_returns}
use Rattle.wf_lower_stmts.proofs.walks.returns.Goals as goal

pub returns : goal.returns
returns c = c.stands_in_body.ensures ∙ stands_returns (block_of c.args.t.now c.args.body.now)
