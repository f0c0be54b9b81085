use Rattle.std.proofs.Common.{map, take}
use Rattle.c_text.specs.CNodes.{param_tree}
use Rattle.wf_exprs.specs.Grown.{Grows}
use Rattle.wf_lower_blocks.specs.Calls.{HasGiven}
use Rattle.wf_lower.specs.Bodies.{handed}
use Rattle.wf_lower.proofs.entries.handed.Given as goal

-- The parameters so far are handed on.
abbrev pub invariant-loop-param : goal.invariant-loop-param
invariant-loop-param l = record {
  grows : Grows l.fn.u l.u;
  made : HasGiven l.u l.args (handed (map (param_tree l.fn.u.names) (take l.param-index l.params)));
}
