-- The reader's machine, step by step against the machine of the grammar.
use Rattle.std.specs.Prelude.{◌≡◌, Bool, true, false, None, Some, List, ◌++◌}
use Rattle.c_text.specs.CSpelling.{CToken}
use Rattle.c_read_grammar.specs.Feeding.{State, feed, ends}
use Rattle.c_read_grammar.specs.Machine.{Take, Pass, Stop, move}
use Rattle.c_read_grammar.specs.Values.{kept}
use Rattle.c_read_grammar.specs.declared.actions.Want.{Want}
use Rattle.c_read_grammar.specs.declared.symbols.Sym.{Sym}
use Rattle.c_read.specs.declared.machine.Machine.{Machine}
use Rattle.c_read.specs.declared.machine.Meeting.{Meeting}
use Rattle.c_read.specs.declared.machine.Meeting.TheVariants.{Read, Passed, Refused}
use Rattle.c_read_nodes.specs.Makers.{made}

-- Where the machine stands.
abbrev pub state_of : Machine → State
state_of m = record { wanted = m.wants; vals = made m.maker }

-- A token where a symbol stood on top is read, passed or refused.
abbrev pub AnswersMeeting : Sym → CToken → (old new : Machine) → Meeting → Type 0
AnswersMeeting s t old new Read = (wants : List Want) × (move s t ≡ Take wants) × (state_of new ≡ record { wanted = wants ++ old.wants; vals = kept t (made old.maker) })
AnswersMeeting s t old new Passed = (move s t ≡ Pass) × (new ≡ old)
AnswersMeeting s t old new Refused = move s t ≡ Stop

-- A token is read, or refused.
abbrev pub AnswersToken : CToken → (old new : Machine) → Bool → Type 0
AnswersToken t old new true = feed old.wants (made old.maker) t ≡ Some (state_of new)
AnswersToken t old new false = feed old.wants (made old.maker) t ≡ None

-- The text ends here, or too early.
abbrev pub AnswersEnd : (old new : Machine) → Bool → Type 0
AnswersEnd old new true = ends old.wants (made old.maker) ≡ Some (made new.maker)
AnswersEnd old new false = ends old.wants (made old.maker) ≡ None
