-- The token at the front of bytes.
use Rattle.std.specs.Prelude.{ℕ, Bool, ◌||◌, ◌&&◌, Option, None, Some, List, [], ◌∷◌, nat_eq}
use Rattle.c_text.specs.CSpelling.{CToken}
use Rattle.c_read_grammar.specs.FirstToken.{Stands}
use Rattle.c_read_tokens.specs.Kinds.{token_of}
use Rattle.c_read_tokens.specs.declared.kinds.Kind.{Kind}

-- A token of this kind, if there is one.
abbrev pub token_in : Option Kind → (text : List ℕ) → Option CToken
token_in None text = None
token_in (Some kind) text = Some (token_of kind text)

-- No token stands at the front of the bytes.
abbrev pub NoToken : List ℕ → Type 0
NoToken bytes = (t : CToken) (tail : List ℕ) → Stands t bytes tail → ⊥

abbrev pub is_quote : ℕ → Bool
is_quote b = nat_eq b 34

-- This token stands at the front of the bytes.
abbrev pub StandsSomehow : CToken → List ℕ → Type 0
StandsSomehow t bytes = (tail : List ℕ) × Stands t bytes tail

-- Two `?` stand side by side, or were found before; `previous` tells whether one stands before it.
abbrev pub double_from : (found previous : Bool) → List ℕ → Bool
double_from found previous [] = found
double_from found previous (b ∷ bs) = double_from (found || (previous && nat_eq b 63)) (nat_eq b 63) bs
