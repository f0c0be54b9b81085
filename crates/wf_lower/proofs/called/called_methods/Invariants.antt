use Rattle.std.proofs.Common.{◌≡◌, ◌||◌, ℕ, drop, length}
use Rattle.std.specs.List.{list_any}
use Rattle.wf_ast.specs.TypedPackage.{package_of}
use Rattle.wf_lower_stmts.specs.BodyNodes.{stands}
use Rattle.wf_lower.specs.Called.{calls, is_called}
use Rattle.wf_lower.specs.Flags.{is_set}
use Rattle.wf_lower.proofs.called.called_methods.Given as goal

-- A flag is set, or the body of a method that is left calls the method, where some body does.
abbrev pub invariant-loop-m : goal.invariant-loop-m
invariant-loop-m l = record {
  sized : length l.called.items ≡ length l.t.methods;
  left : (n : ℕ) → (is_set l.called.items n || list_any (λ it. stands (calls n) it.body) (drop l.m (package_of l.t).methods)) ≡ is_called (package_of l.t) n;
}
