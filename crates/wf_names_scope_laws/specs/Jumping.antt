-- Which loop a jump means.
use Rattle.std.specs.Prelude.{◌≡◌, ◌<◌, ℕ, ◌+◌, List, Option, None, Some, length}
use Rattle.wf_ast.specs.declared.parsed.Name.{Name}
use Rattle.wf_names_scope_laws.specs.Scoping.{IsCalled, IsTheOne}

-- A loop has this label.
abbrev pub HasLabel : (text : ℕ) → Option Name → Type 0
HasLabel text None = ⊥
HasLabel text (Some label) = IsCalled text label

-- The loop that has the label, of those round the jump, the outermost first; `outwards` loops stand between it and the jump.
pub record LabelMeans (loops : List (Option Name)) (text outwards : ℕ) : Type 0 where
  pub n : ℕ
  pub loop : Option Name
  pub means : IsTheOne (HasLabel text) loops n loop
  pub between : n + 1 + outwards ≡ length loops

-- Without a label the innermost loop, and there is one.
abbrev pub JumpMeans : (loops : List (Option Name)) → Option Name → (outwards : ℕ) → Type 0
JumpMeans loops None outwards = (outwards ≡ 0) × (0 < length loops)
JumpMeans loops (Some label) outwards = LabelMeans loops label.text.0 outwards
