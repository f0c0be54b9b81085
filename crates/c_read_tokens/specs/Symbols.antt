-- Symbols as tokens.
use Rattle.c_text.specs.CSpelling.{CToken, operator, marked}
use Rattle.c_read_tokens.specs.declared.symbols.Symbol.{Symbol}
use Rattle.c_read_tokens.specs.declared.symbols.Symbol.TheVariants.{Operator, Mark}

abbrev pub symbol_token_of : Symbol → CToken
symbol_token_of (Operator o) = operator o
symbol_token_of (Mark m) = marked m
