use Rattle.std.proofs.Common.{◌≡◌, List, ◌++◌, drop, map}
use Rattle.wf_ast.specs.TypedPackage.{package_of, variable_of}
use Rattle.c_text.specs.CTree.{FieldTree}
use Rattle.wf_exprs.specs.Grown.{Grows}
use Rattle.wf_lower.specs.Made.{AddsFields}
use Rattle.wf_lower.specs.Unit.{source_fields}
use Rattle.wf_lower.proofs.structs.add_all_source.Given as goal

-- The fields so far were added, and with those that are left they are all.
abbrev pub invariant-loop-i : goal.invariant-loop-i
invariant-loop-i l = record {
  grows : Grows l.fn.u l.u;
  added : List FieldTree;
  adds : AddsFields l.fn.u l.u l.fn.fields l.fields added;
  left : added ++ source_fields (package_of l.t) (map (variable_of l.t) (drop l.i l.declared)) ≡ source_fields (package_of l.t) (map (variable_of l.t) l.declared);
}
