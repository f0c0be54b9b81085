-- The values of a host's arguments.
use Rattle.std.proofs.Common.{◌≡◌, ℕ, false, List, [], ◌∷◌, length, Option, None, Some, refl, ap, ◌∙◌, arith}
use Rattle.wf_text.specs.HostActions.{HostArg}
use Rattle.wf_ast.specs.TypedPackage.{Variable}
use Rattle.wf_ast.specs.Value.{Value}
use Rattle.wf_meaning.specs.SourceCall.{cons_value, host_values}
use Rattle.wf_mean_stmts.specs.Arguments.{Fills}

none_behind : (v : Option Value) → cons_value v None ≡ None
none_behind None = refl
none_behind (Some v) = refl

-- Arguments that aren't as many as the method's.
pub others : (arrays : List (List ℕ)) (xs : List Variable) (args : List HostArg) → (length xs ≡ length args → ⊥) → host_values arrays xs args ≡ None
others arrays [] [] h = absurd (h refl)
others arrays [] (a ∷ args) h = refl
others arrays (x ∷ xs) [] h = refl
others arrays (x ∷ xs) (a ∷ args) h = ap (cons_value _) (others arrays xs args (λ e. h (omega (arith, e)))) ∙ none_behind _

pub too_many_or_few : (arrays : List (List ℕ)) (xs : List Variable) (args : List HostArg) (slots : List Value) → (length xs ≡ length args → ⊥) → Fills false (host_values arrays xs args) slots
too_many_or_few arrays xs args slots h = rw (others arrays xs args h) tt
