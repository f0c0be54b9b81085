-- The machine at work: what is wanted and what was read, after some tokens; none where one of them can't be read.
use Rattle.std.specs.Prelude.{Option, None, Some, List, [], ◌∷◌, ◌++◌, if◌then◌else◌}
use Rattle.c_text.specs.CSpelling.{CToken}
use Rattle.c_read_grammar.specs.declared.actions.Want.{Want}
use Rattle.c_read_grammar.specs.declared.actions.Want.TheVariants.{Read, Perform}
use Rattle.c_read_grammar.specs.declared.symbols.ItemSym.TheVariants.{Unit}
use Rattle.c_read_grammar.specs.Machine.{Move, Take, Pass, Stop, move, may_end, item}
use Rattle.c_read_grammar.specs.Values.{Val, a_unit, kept, perform}

-- What is wanted, the innermost first, and the values, the latest first.
pub record State : Type 0 where
  pub wanted : List Want
  pub vals : List Val

abbrev pub fed : Move → (below : List Want) → List Val → CToken → (passed : Option State) → Option State
fed (Take xs) below vs t passed = Some (record { wanted = xs ++ below; vals = kept t vs })
fed Pass below vs t passed = passed
fed Stop below vs t passed = None

-- One token: actions on top are performed, and what may be absent is passed.
abbrev pub feed : List Want → List Val → CToken → Option State
feed [] vs t = None
feed (Perform a ∷ k) vs t = feed k (perform a vs) t
feed (Read s ∷ k) vs t = fed (move s t) k vs t (feed k vs t)

abbrev pub go_on : {X : Type 0} → Option State → (State → Option X) → Option X
go_on None f = None
go_on (Some s) f = f s

-- Many tokens.
abbrev pub feeds : List CToken → State → Option State
feeds [] s = Some s
feeds (t ∷ ts) s = go_on (feed s.wanted s.vals t) (λ next. feeds ts next)

-- The end of a text: the actions that are left are performed.
abbrev pub ends : List Want → List Val → Option (List Val)
ends [] vs = Some vs
ends (Perform a ∷ k) vs = ends k (perform a vs)
ends (Read s ∷ k) vs = if may_end s then ends k vs else None

-- Before the first token: items are wanted, and none was read.
abbrev pub start : State
start = record { wanted = item Unit ∷ []; vals = a_unit [] ∷ [] }

-- The values after a whole text; none where it can't be read to its end.
abbrev pub reads : List CToken → State → Option (List Val)
reads ts s = go_on (feeds ts s) (λ last. ends last.wanted last.vals)
