-- Functions by number. The number of a function is that of the functions that stand before it in the text; the
-- functions of a program are in the reverse order of the text.
use Rattle.std.specs.Prelude.{◌≡◌, ℕ, if◌then◌else◌, nat_eq, List, [], ◌∷◌, length, None}
use Rattle.turns.specs.Run.{Lost}
use Rattle.c_meaning.specs.CTypes.{Function}
use Rattle.c_meaning.specs.CStep.{Meaning}
use Rattle.c_meaning.specs.CCall.{Program, ExprMeaning, expression_meaning, expression_call, running, function_meaning, call_of}
use Rattle.c_step_exprs.specs.Resolving.{function_number}
use Rattle.c_step_text.specs.Acting.{Activation}

-- The meaning of the function with this number among these.
abbrev pub meaning_at : Program → List Function → ℕ → Meaning
meaning_at p [] k = λ n given memory. Lost
meaning_at p (f ∷ fs) k = if nat_eq k (length fs) then function_meaning p f (expression_call p fs) (call_of p fs) else meaning_at p fs k

-- The same of a function in an expression.
abbrev pub expression_at : Program → List Function → ℕ → ExprMeaning
expression_at p [] k = λ memory given. None
expression_at p (f ∷ fs) k = if nat_eq k (length fs) then expression_meaning p f (expression_call p fs) else expression_at p fs k

-- A call of a function as it is run: `callable` are those that stand before it in the text, `frame` is the object of
-- the call, and `start` the number that its text begins at.
abbrev pub activation_of : Program → Function → (callable : List Function) → (frame start : ℕ) → Activation
activation_of p f callable frame start = record {
  running = running p f (expression_call p callable) (call_of p callable) frame;
  callable = callable;
  start = start;
  calls = λ memory k given. expression_at p callable k memory given;
  meanings = meaning_at p callable;
}

-- None of these has the name of one of those.
abbrev pub AreOthers : List Function → List Function → Type 0
AreOthers [] those = Unit {0}
AreOthers (f ∷ fs) those = (function_number those f.name ≡ None) × AreOthers fs those
