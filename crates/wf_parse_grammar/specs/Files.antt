-- What lists of tokens are files, and which may still become one.
use Rattle.std.specs.Prelude.{◌≡◌, List, [], ◌∷◌, ◌++◌}
use Rattle.wf_parse_grammar.specs.declared.tokens.Token.{Token}
use Rattle.wf_parse_grammar.specs.Grammar.{FileForm, file_before}

-- The tokens of a whole file.
abbrev pub IsFile : List Token → Type 0
IsFile tokens = (f : FileForm) × (tokens ≡ file_before f [])

-- Some file begins with these tokens.
abbrev pub IsLive : List Token → Type 0
IsLive tokens = (more : List Token) × IsFile (tokens ++ more)

-- After `front` the first token of `back` is the first that no file has there; at the file's end, the file is none.
abbrev pub IsFirstWrong : (front back : List Token) → Type 0
IsFirstWrong front [] = IsFile front → ⊥
IsFirstWrong front (t ∷ back) = IsLive (front ++ t ∷ []) → ⊥
