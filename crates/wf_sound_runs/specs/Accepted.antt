-- What the checker's rules ask of a package, and what it is for a run that no step of it is stuck.
use Rattle.std.specs.Prelude.{◌≡◌, ℕ, ◌^◌, ◌<◌, true, List, Some, None, slice_get}
use Rattle.std.specs.List.{list_all}
use Rattle.wf_text.specs.declared.place.Place.{Place}
use Rattle.wf_text.specs.Seen.{Seen, undefined}
use Rattle.wf_base.specs.declared.widths.Width.{Width}
use Rattle.wf_ast.specs.declared.types.Ty.TheVariants as types
use Rattle.wf_ast.specs.TypedPackage.{PackageTree}
use Rattle.wf_ast.specs.WellTyped.{field_at, well_typed}
use Rattle.wf_bounds_stmts.specs.MethodRules.{methods_refusal}
use Rattle.wf_sound_runs.specs.Chains.{well_made}

-- The length of an array has 64 bits.
abbrev pub HasShortArrays : PackageTree → Type 0
HasShortArrays p = (s n : ℕ) (width : Width) (lo hi count : ℕ) → field_at p s n ≡ Some (types.Array width lo hi count) → count < 2 ^ 64

-- A package that keeps the rules of types and the rules of facts. `local_at` tells where the names of locals stand.
pub record IsAccepted (local_at : ℕ → ℕ → Place) (p : PackageTree) : Type 0 where
  pub typed : well_typed p ≡ true
  pub made : list_all (λ m. well_made m.body) p.methods ≡ true
  pub short : HasShortArrays p
  pub facts : methods_refusal local_at p 0 p.methods ≡ None

-- No action of those that are seen is stuck.
pub record IsDefined (all : List Seen) : Type 0 where
  pub never : (i : ℕ) → slice_get all i ≡ Some undefined → ⊥
