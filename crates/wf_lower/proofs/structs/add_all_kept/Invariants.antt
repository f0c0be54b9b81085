use Rattle.std.proofs.Common.{◌≡◌, List, ◌++◌, drop}
use Rattle.c_text.specs.CTree.{FieldTree}
use Rattle.wf_exprs.specs.Grown.{Grows}
use Rattle.wf_lower.specs.Made.{AddsFields}
use Rattle.wf_lower.proofs.PartLaws.{kept_walk}
use Rattle.wf_lower.proofs.structs.add_all_kept.Given as goal

-- The fields so far were added, and with those that are left they are all.
abbrev pub invariant-loop-i : goal.invariant-loop-i
invariant-loop-i l = record {
  grows : Grows l.fn.u l.u;
  added : List FieldTree;
  adds : AddsFields l.fn.u l.u l.fn.fields l.fields added;
  left : added ++ kept_walk l.method l.t l.locals l.i (drop l.i l.saved) ≡ kept_walk l.method l.t l.locals 0 l.saved;
}
