use Rattle.std.proofs.Common.{◌≡◌, ◌++◌, length, map, drop}
use Rattle.c_text.specs.CNodes.{local_tree, expr_of}
use Rattle.c_text.specs.CFits.{HasLocals}
use Rattle.c_step_load_stmts.specs.Bodies.{nodes_of, scope_of, with_exprs}
use Rattle.c_step_program.specs.Programs.{initial_exprs, initials_of}
use Rattle.c_step_load.proofs.initials.put_initials.Given as goal

abbrev pub invariant-loop-local : goal.invariant-loop-local
invariant-loop-local l = record {
  has : HasLocals (nodes_of l.body) (drop l.local-index l.locals);
  text_so_far : with_exprs l.text (initial_exprs (scope_of l.body) (map (local_tree (nodes_of l.body).names (expr_of (nodes_of l.body))) (drop l.local-index l.locals))) ≡ with_exprs l.fn.text (initial_exprs (scope_of l.body) (map (local_tree (nodes_of l.body).names (expr_of (nodes_of l.body))) l.locals));
  so_far : l.initials.items ++ initials_of (scope_of l.body) l.field (length l.text.exprs) (map (local_tree (nodes_of l.body).names (expr_of (nodes_of l.body))) (drop l.local-index l.locals)) ≡ l.fn.initials.items ++ initials_of (scope_of l.body) l.fn.first (length l.fn.text.exprs) (map (local_tree (nodes_of l.body).names (expr_of (nodes_of l.body))) l.locals);
}
