use Rattle.std.proofs.Common.{◌≡◌, ℕ, ◌≤◌, true, nat_lt, take}
use Rattle.std.specs.List.{list_all}
use Rattle.wf_ast.specs.declared.numbers.StmtId.{StmtId}
use Rattle.wf_mean_runs.proofs.picking.past.Given as goal

-- So far it is the least number above the others.
abbrev pub invariant-loop-i : goal.invariant-loop-i
invariant-loop-i l = record {
  above : list_all (λ (s : StmtId). nat_lt s.0 l.top) (take l.i l.items) ≡ true;
  least : (n : ℕ) → list_all (λ (s : StmtId). nat_lt s.0 n) l.items ≡ true → l.top ≤ n;
}
