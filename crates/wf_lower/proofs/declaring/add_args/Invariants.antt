use Rattle.std.proofs.Common.{◌≡◌, List, ◌++◌, drop}
use Rattle.c_text.specs.CTree.{ParamTree}
use Rattle.wf_exprs.specs.Grown.{Grows}
use Rattle.wf_lower.specs.Made.{AddsParams}
use Rattle.wf_lower.proofs.PartLaws.{params_walk}
use Rattle.wf_lower.proofs.declaring.add_args.Given as goal

-- The parameters so far were added, and with those that are left they are all.
abbrev pub invariant-loop-i : goal.invariant-loop-i
invariant-loop-i l = record {
  grows : Grows l.fn.u l.u;
  added : List ParamTree;
  adds : AddsParams l.fn.u l.u l.fn.params l.params added;
  left : added ++ params_walk l.t l.i (drop l.i l.args) ≡ params_walk l.t 0 l.args;
}
