use Rattle.std.proofs.Common.{◌≡◌, ◌||◌, ℕ, drop, length}
use Rattle.std.specs.List.{list_any}
use Rattle.wf_ast.specs.TypedPackage.{package_of}
use Rattle.wf_lower.specs.Coroutines.{has_coroutine, is_coroutine_of}
use Rattle.wf_lower.specs.Flags.{is_set}
use Rattle.wf_lower.proofs.coroutines.structs_with_coroutines.Given as goal

-- A flag is set, or a method that is left is a coroutine of the struct, where some method is.
abbrev pub invariant-loop-m : goal.invariant-loop-m
invariant-loop-m l = record {
  sized : length l.flags.items ≡ length l.t.structs;
  left : (s : ℕ) → (is_set l.flags.items s || list_any (is_coroutine_of s) (drop l.m (package_of l.t).methods)) ≡ has_coroutine (package_of l.t) s;
}
