-- Tokens of the code, as those of the grammar.
use Rattle.std.specs.Prelude.{ℕ, List, []}
use Rattle.c_text.specs.CSpelling.{CToken, keyword, named, literal, quoted, operator, marked}
use Rattle.c_read_tokens.specs.declared.kinds.Kind.{Kind}
use Rattle.c_read_tokens.specs.declared.kinds.Kind.TheVariants.{Keyword, Name, Number, Text, Operator, Mark}

-- A token of this kind; a name or a string is `text`.
abbrev pub token_of : Kind → (text : List ℕ) → CToken
token_of (Keyword w) text = keyword w
token_of Name text = named text
token_of (Number n) text = literal n
token_of Text text = quoted text
token_of (Operator o) text = operator o
token_of (Mark m) text = marked m

-- The same, whatever the text is.
abbrev pub bare : Kind → CToken
bare kind = token_of kind []
