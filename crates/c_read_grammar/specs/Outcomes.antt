-- What comes of reading bytes: they are a text of a tree; or a bracket opens where 512 are open; or they are no
-- text, and this is their first token that can't go on. A place counts bytes from 0.
use Rattle.std.specs.Prelude.{◌≡◌, ◌+◌, ◌<◌, ◌⊎◌, ℕ, true, false, List, [], ◌∷◌, ◌++◌, length, ⊤, codes}
use Rattle.c_text.specs.CSpelling.{CToken, token_bytes, is_gap_byte, IsGap, ReadsToken, includes}
use Rattle.c_text.specs.CGrammar.{IsTextOf, unit_tokens}
use Rattle.c_text.specs.CTree.{ItemTree}
use Rattle.c_read_grammar.specs.FirstToken.{begins, Stands}
use Rattle.c_read_grammar.specs.Texts.{IsText, IsLive, AreTokens, is_opening, open_after, open_behind}

-- The tokens stand at the front of the bytes, and `rest` after them.
abbrev pub SpellsTo : List CToken → (bytes rest : List ℕ) → Type 0
SpellsTo [] bytes rest = bytes ≡ rest
SpellsTo (t ∷ ts) bytes rest = (mid : List ℕ) × ReadsToken t bytes mid × SpellsTo ts mid rest

-- No bracket opens where 512 are open; n are open before.
abbrev pub IsShallow : (n : ℕ) → List CToken → Type 0
IsShallow n [] = ⊤
IsShallow n (t ∷ ts) = (is_opening t ≡ true → n < 512) × IsShallow (open_after n t) ts

-- The bytes begin as a text: the three lines, and tokens with which some text begins.
pub record BeginsText (bytes : List ℕ) (front : List CToken) (rest : List ℕ) : Type 0 where
  pub body : List ℕ
  pub begins : bytes ≡ includes ++ body
  pub spelt : SpellsTo front body rest
  pub lawful : AreTokens front
  pub live : IsLive front
  pub shallow : IsShallow 0 front

-- After a gap, `behind` stands at this place of the bytes.
pub record StandsAt (bytes rest behind : List ℕ) (place : ℕ) : Type 0 where
  pub gap : List ℕ
  pub blank : IsGap gap
  pub cut : rest ≡ gap ++ behind
  pub stops : begins is_gap_byte behind ≡ false
  pub place_is : place + length behind ≡ length bytes

-- After these tokens nothing that stands here goes on, and no bracket is one too many.
abbrev pub IsWrongHere : (front : List CToken) → (behind : List ℕ) → Type 0
IsWrongHere front [] = IsText front → ⊥
IsWrongHere front (b ∷ bs) = (t : CToken) (tail : List ℕ) → Stands t (b ∷ bs) tail
    → (IsLive (front ++ t ∷ []) → ⊥) × (is_opening t ≡ true → open_behind 0 front < 512)

pub record IsStuck (bytes : List ℕ) (place : ℕ) : Type 0 where
  pub front : List CToken
  pub rest : List ℕ
  pub behind : List ℕ
  pub read : BeginsText bytes front rest
  pub here : StandsAt bytes rest behind place
  pub wrong : IsWrongHere front behind

-- A bracket opens here where 512 are open.
pub record IsTooDeep (bytes : List ℕ) (place : ℕ) : Type 0 where
  pub front : List CToken
  pub rest : List ℕ
  pub behind : List ℕ
  pub read : BeginsText bytes front rest
  pub here : StandsAt bytes rest behind place
  pub bracket : CToken
  pub tail : List ℕ
  pub opens : is_opening bracket ≡ true
  pub spelt : behind ≡ token_bytes bracket ++ tail
  pub full : open_behind 0 front ≡ 512

-- The three lines, each of which is one token.
abbrev pub stddef_line : List ℕ
stddef_line = codes "#include <stddef.h>\n"

abbrev pub stdint_line : List ℕ
stdint_line = codes "#include <stdint.h>\n"

abbrev pub string_line : List ℕ
string_line = codes "#include <string.h>\n"

-- After `done` the bytes go on otherwise than by this line.
pub record IsBadLine (done line bytes : List ℕ) (place : ℕ) : Type 0 where
  pub rest : List ℕ
  pub begun : bytes ≡ done ++ rest
  pub other : (more : List ℕ) → rest ≡ line ++ more → ⊥
  pub place_is : place ≡ length done

abbrev pub IsBadHeader : List ℕ → ℕ → Type 0
IsBadHeader bytes place = IsBadLine [] stddef_line bytes place ⊎ (IsBadLine stddef_line stdint_line bytes place ⊎ IsBadLine (stddef_line ++ stdint_line) string_line bytes place)

pub data Outcome : Type 0 where
  whole : (unit : List ItemTree) → Outcome
  too_deep : (place : ℕ) → Outcome
  not_c : (place : ℕ) → Outcome

abbrev pub HasOutcome : List ℕ → Outcome → Type 0
HasOutcome bytes (whole unit) = IsTextOf bytes unit × IsShallow 0 (unit_tokens unit)
HasOutcome bytes (too_deep place) = IsTooDeep bytes place
HasOutcome bytes (not_c place) = IsBadHeader bytes place ⊎ IsStuck bytes place
