-- What is wanted after a move, piece by piece and at once.
use Rattle.std.proofs.Common.{◌≡◌, List, [], ◌∷◌, ◌++◌, refl, sym, ap, append-nil, append_assoc}
use Rattle.c_read_grammar.specs.declared.actions.Want.{Want}
use Rattle.c_read_grammar.specs.declared.actions.Want.TheVariants.{Perform}
use Rattle.c_read_grammar.specs.declared.actions.Action.TheVariants as acts
use Rattle.c_read_grammar.specs.declared.actions.ExprAction.TheVariants.{MakeVariable}
use Rattle.c_read_grammar.specs.Machine.{Move, Take, Pass, Stop, followed, behind_variable}
use Rattle.c_read_table.specs.Moves.{around}

pub followed_nothing : (m : Move) → followed m [] ≡ m
followed_nothing (Take xs) = ap Take (append-nil xs)
followed_nothing Pass = refl
followed_nothing Stop = refl

pub followed_twice : (m : Move) (xs ys : List Want) → followed m (xs ++ ys) ≡ followed (followed m xs) ys
followed_twice (Take zs) xs ys = ap Take (sym (append_assoc zs xs ys))
followed_twice Pass xs ys = refl
followed_twice Stop xs ys = refl

pub around_nothing : (m : Move) → around [] m [] ≡ m
around_nothing (Take xs) = ap Take (append-nil xs)
around_nothing Pass = refl
around_nothing Stop = refl

-- After a variable.
pub variable_followed : (m : Move) (xs : List Want) → around (Perform (acts.Expr MakeVariable) ∷ []) m xs ≡ followed (behind_variable m) xs
variable_followed (Take zs) xs = refl
variable_followed Pass xs = refl
variable_followed Stop xs = refl

pub followed_variable : (m : Move) (xs : List Want) → around (Perform (acts.Expr MakeVariable) ∷ []) m xs ≡ behind_variable (followed m xs)
followed_variable (Take zs) xs = refl
followed_variable Pass xs = refl
followed_variable Stop xs = refl

pub followed_variable_twice : (m : Move) (xs ys : List Want) → around (Perform (acts.Expr MakeVariable) ∷ []) m (xs ++ ys) ≡ followed (behind_variable (followed m xs)) ys
followed_variable_twice (Take zs) xs ys = ap (λ rest. Take (Perform (acts.Expr MakeVariable) ∷ rest)) (sym (append_assoc zs xs ys))
followed_variable_twice Pass xs ys = refl
followed_variable_twice Stop xs ys = refl
