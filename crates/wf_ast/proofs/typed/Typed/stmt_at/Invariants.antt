use Rattle.std.proofs.Common.{◌≡◌, ℕ, ◌<◌, Some}
use Rattle.std.specs.Prelude.{slice_get}
use Rattle.wf_ast.specs.Places.{stmt_places}
use Rattle.wf_ast.proofs.typed.Typed.stmt_at.Given as goal

-- None of the statements so far has the place.
abbrev pub invariant-loop-s : goal.invariant-loop-s
invariant-loop-s l = (k : ℕ) → k < l.s → slice_get (stmt_places l.self) k ≡ Some l.at → ⊥
