use Rattle.std.proofs.Common.{◌≡◌, ℕ, ◌<◌, Some}
use Rattle.std.specs.Prelude.{slice_get}
use Rattle.wf_ast.specs.Places.{expr_places}
use Rattle.wf_ast.proofs.typed.Typed.expr_at.Given as goal

-- None of the expressions so far has the place.
abbrev pub invariant-loop-e : goal.invariant-loop-e
invariant-loop-e l = (k : ℕ) → k < l.e → slice_get (expr_places l.self) k ≡ Some l.at → ⊥
