-- The machine without limits and without an outcome: the stack after some tokens, None where one of them can't be
-- read.
use Rattle.std.specs.Prelude.{Option, None, Some, List, [], ◌∷◌, ◌++◌}
use Rattle.wf_parse_grammar.specs.declared.tokens.Kind.{Kind}
use Rattle.wf_parse_grammar.specs.declared.tokens.Token.{Token}
use Rattle.wf_parse_grammar.specs.declared.symbols.Sym.{Sym}
use Rattle.wf_parse_grammar.specs.Machine.{Move, Take, Begin, Enter, Pass, Stop, move}

abbrev pub fed : Move → (below : List Sym) → (passed : Option (List Sym)) → Option (List Sym)
fed (Take xs) below passed = Some (xs ++ below)
fed (Begin xs) below passed = Some (xs ++ below)
fed (Enter xs) below passed = Some (xs ++ below)
fed Pass below passed = passed
fed (Stop r) below passed = None

abbrev pub feed : List Sym → Kind → Option (List Sym)
feed [] t = None
feed (s ∷ k) t = fed (move s t) k (feed k t)

abbrev pub go_on : Option (List Sym) → (List Sym → Option (List Sym)) → Option (List Sym)
go_on None f = None
go_on (Some k) f = f k

abbrev pub feeds : List Token → List Sym → Option (List Sym)
feeds [] k = Some k
feeds (t ∷ ts) k = go_on (feed k t.kind) (λ wanted. feeds ts wanted)
