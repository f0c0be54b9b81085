-- The building machine without its actions: what it reads and where it refuses, whatever it makes.
use Rattle.std.specs.Prelude.{List, [], ◌∷◌}
use Rattle.wf_parse_grammar.specs.declared.symbols.Sym.{Sym}
use Rattle.wf_parse_grammar.specs.declared.symbols.Want.{Want}
use Rattle.wf_parse_grammar.specs.declared.symbols.Want.TheVariants.{Read, Make}
use Rattle.wf_parse_grammar.specs.Machine as m
use Rattle.wf_parse_grammar.specs.Machine.{Move, Outcome}
use Rattle.wf_parse_grammar.specs.Building.{Build, Take, Begin, Enter, Pass, Stop, Ending, Built, Refused}

-- The symbols of a stack.
abbrev pub erased : List Want → List Sym
erased [] = []
erased (Make a ∷ k) = erased k
erased (Read s ∷ k) = s ∷ erased k

-- What a token does to a symbol, with no action.
abbrev pub erased_move : Build → Move
erased_move (Take xs) = m.Take (erased xs)
erased_move (Begin xs) = m.Begin (erased xs)
erased_move (Enter xs) = m.Enter (erased xs)
erased_move Pass = m.Pass
erased_move (Stop r) = m.Stop r

-- Whether a run is built or refused, and the refusal.
abbrev pub outcome : Ending → Outcome
outcome (Built made) = m.Accepted
outcome (Refused r left) = m.Refused r left
