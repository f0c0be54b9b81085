-- What lists of tokens are texts, which may still become one, and the brackets that are open after them.
use Rattle.std.specs.Prelude.{◌≡◌, ◌+◌, ◌-◌, ℕ, Bool, true, false, List, [], ◌∷◌, ◌++◌, ⊤, IsTrue}
use Rattle.c_text.specs.declared.tokens.CMark.TheVariants as mark
use Rattle.c_text.specs.CSpelling.{CToken, named, literal, quoted, marked, IsLiteral, is_string}
use Rattle.c_text.specs.CGrammar.{IsName, IsUnit, unit_tokens}
use Rattle.c_text.specs.CTree.{ItemTree}

-- The tokens of a whole text.
abbrev pub IsText : List CToken → Type 0
IsText tokens = (unit : List ItemTree) × IsUnit unit × (tokens ≡ unit_tokens unit)

-- Some text begins with these tokens.
abbrev pub IsLive : List CToken → Type 0
IsLive tokens = (more : List CToken) × IsText (tokens ++ more)

-- A token is spelt as such: names, literals and strings of the subset.
abbrev pub IsToken : CToken → Type 0
IsToken (named n) = IsName n
IsToken (literal n) = IsLiteral n
IsToken (quoted bytes) = IsTrue (is_string bytes)
IsToken _ = ⊤

abbrev pub AreTokens : List CToken → Type 0
AreTokens [] = ⊤
AreTokens (t ∷ ts) = IsToken t × AreTokens ts

-- Brackets: `(`, `[` and `{` open one, `)`, `]` and `}` close one.
abbrev pub is_opening : CToken → Bool
is_opening (marked mark.OpenParen) = true
is_opening (marked mark.OpenBracket) = true
is_opening (marked mark.OpenBrace) = true
is_opening _ = false

-- The number of open brackets after a token and after tokens, where n were open before.
abbrev pub open_after : (n : ℕ) → CToken → ℕ
open_after n (marked mark.OpenParen) = n + 1
open_after n (marked mark.OpenBracket) = n + 1
open_after n (marked mark.OpenBrace) = n + 1
open_after n (marked mark.CloseParen) = n - 1
open_after n (marked mark.CloseBracket) = n - 1
open_after n (marked mark.CloseBrace) = n - 1
open_after n _ = n

abbrev pub open_behind : (n : ℕ) → List CToken → ℕ
open_behind n [] = n
open_behind n (t ∷ ts) = open_behind (open_after n t) ts
