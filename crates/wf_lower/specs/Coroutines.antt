-- Which structs have a coroutine.
use Rattle.std.specs.Prelude.{◌≡◌, ℕ, Bool, ◌&&◌, List, length, nat_eq}
use Rattle.std.specs.List.{list_any}
use Rattle.wf_ast.specs.TypedPackage.{MethodTree, PackageTree}
use Rattle.wf_ast.specs.WellTyped.{is_coroutine}
use Rattle.wf_lower.specs.Flags.{is_set}

-- The method is a coroutine of the struct with the number `s`.
abbrev pub is_coroutine_of : (s : ℕ) → MethodTree → Bool
is_coroutine_of s m = nat_eq m.of s && is_coroutine m.mark

-- Some method is.
abbrev pub has_coroutine : PackageTree → (s : ℕ) → Bool
has_coroutine p s = list_any (is_coroutine_of s) p.methods

-- The flags are those of just the structs that have one.
pub record HaveCoroutines (p : PackageTree) (flags : List Bool) : Type 0 where
  pub sized : length flags ≡ length p.structs
  pub are : (s : ℕ) → is_set flags s ≡ has_coroutine p s
