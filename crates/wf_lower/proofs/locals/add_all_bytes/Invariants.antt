use Rattle.std.proofs.Common.{◌≡◌, List, ◌++◌, drop}
use Rattle.c_text.specs.CTree.{LocalTree}
use Rattle.wf_exprs.specs.Grown.{Grows}
use Rattle.wf_lower_stmts.specs.BodyNodes.{form_in}
use Rattle.wf_lower.specs.Made.{AddsRead}
use Rattle.wf_lower.proofs.PartLaws.{bytes_walk}
use Rattle.wf_lower.proofs.locals.add_all_bytes.Given as goal

-- The pointers so far were added, and with those that are left they are all.
abbrev pub invariant-loop-i : goal.invariant-loop-i
invariant-loop-i l = record {
  grows : Grows l.fn.u l.u;
  added : List LocalTree;
  adds : AddsRead l.read l.fn.u l.u l.fn.locals l.locals added;
  left : added ++ bytes_walk (form_in l.b) l.b.nodes l.i (drop l.i l.args) ≡ bytes_walk (form_in l.b) l.b.nodes 0 l.b.method.args;
}
