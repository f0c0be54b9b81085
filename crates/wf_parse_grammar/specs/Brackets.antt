-- Open brackets, counted by tokens alone.
use Rattle.std.specs.Prelude.{◌+◌, ℕ, Bool, true, false, List, [], ◌∷◌}
use Rattle.wf_parse_grammar.specs.declared.tokens.Kind.{Kind}
use Rattle.wf_parse_grammar.specs.declared.tokens.Kind.TheVariants as kinds
use Rattle.wf_parse_grammar.specs.declared.tokens.Token.{Token}

abbrev pub one_if : Bool → ℕ
one_if true = 1
one_if false = 0

abbrev pub is_opening : Kind → Bool
is_opening kinds.OpenRound = true
is_opening kinds.OpenSquare = true
is_opening kinds.OpenCurly = true
is_opening _ = false

abbrev pub is_closing : Kind → Bool
is_closing kinds.CloseRound = true
is_closing kinds.CloseSquare = true
is_closing kinds.CloseCurly = true
is_closing _ = false

-- How many brackets the tokens open, and how many they close.
abbrev pub opened : List Token → ℕ
opened [] = 0
opened (t ∷ ts) = one_if (is_opening t.kind) + opened ts

abbrev pub closed : List Token → ℕ
closed [] = 0
closed (t ∷ ts) = one_if (is_closing t.kind) + closed ts
