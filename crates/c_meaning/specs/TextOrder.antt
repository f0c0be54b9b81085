-- The statements of a block and of the blocks in it, in the order of the text, each with what follows it.
use Rattle.std.specs.Prelude.{◌≡◌, ℕ, List, [], ◌∷◌, ◌++◌, Some, slice_get}
use Rattle.c_text.specs.CTree.{Code, finish, nested, empty, assign, call, jump, branch, repeat, select, leave, case_label, default_label, name_label}
use Rattle.c_meaning.specs.CStep.{Continuation, stop, behind, again, Place, at}

abbrev pub statements : Code → Continuation → List Place
statements finish k = []
statements (nested inner rest) k = at (nested inner rest) k ∷ statements inner (behind finish rest k) ++ statements rest k
statements (empty rest) k = at (empty rest) k ∷ statements rest k
statements (assign target value rest) k = at (assign target value rest) k ∷ statements rest k
statements (call target function given rest) k = at (call target function given rest) k ∷ statements rest k
statements (jump label rest) k = at (jump label rest) k ∷ statements rest k
statements (branch test body otherwise other rest) k = at (branch test body otherwise other rest) k ∷ statements body (behind other rest k) ++ (statements other (behind finish rest k) ++ statements rest k)
statements (repeat test body rest) k = at (repeat test body rest) k ∷ statements body (again test body (behind finish rest k)) ++ statements rest k
statements (select on body rest) k = at (select on body rest) k ∷ statements body (behind finish rest k) ++ statements rest k
statements (leave value rest) k = at (leave value rest) k ∷ statements rest k
statements (case_label n rest) k = at (case_label n rest) k ∷ statements rest k
statements (default_label rest) k = at (default_label rest) k ∷ statements rest k
statements (name_label name rest) k = at (name_label name rest) k ∷ statements rest k

-- The place is the statement with this number, from 0, of a function's body.
abbrev pub StandsAt : Code → (number : ℕ) → Place → Type 0
StandsAt body number p = slice_get (statements body stop) number ≡ Some p
