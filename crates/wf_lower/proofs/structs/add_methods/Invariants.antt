use Rattle.std.proofs.Common.{◌≡◌, List, ◌++◌, drop}
use Rattle.wf_ast.specs.TypedPackage.{package_of}
use Rattle.c_text.specs.CTree.{FieldTree}
use Rattle.wf_exprs.specs.Grown.{Grows}
use Rattle.wf_lower.specs.Made.{AddsFields}
use Rattle.wf_lower.specs.Unit.{methods_fields}
use Rattle.wf_lower.proofs.structs.add_methods.Given as goal

-- The fields so far were added, and with those that are left they are all.
abbrev pub invariant-loop-n : goal.invariant-loop-n
invariant-loop-n l = record {
  grows : Grows l.fn.u l.u;
  added : List FieldTree;
  adds : AddsFields l.fn.u l.u l.fn.fields l.fields added;
  left : added ++ methods_fields l.s.0 (drop l.n (package_of l.p.t.now).methods) ≡ methods_fields l.s.0 (package_of l.p.t.now).methods;
}
