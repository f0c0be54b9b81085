-- Names that no declaration may give, and no label.
use Rattle.std.specs.Prelude.{ℕ, Bool, false, ◌&&◌, ◌||◌, List, [], ◌∷◌, nat_eq, codes}
use Rattle.std.specs.Str.{bytes_eq}
use Rattle.std.specs.List.{list_any}

-- The words that the language keeps for itself, though it has no use of them.
abbrev pub kept_words : List (List ℕ)
kept_words =
    codes "choose" ∷ codes "choosy" ∷ codes "implements" ∷ codes "io_bind" ∷ codes "io_limit" ∷ codes "iterate"
    ∷ codes "nptr" ∷ codes "ptr" ∷ codes "table" ∷ codes "use" ∷ []

abbrev pub is_underscore : ℕ → Bool
is_underscore byte = nat_eq byte 95

abbrev pub begins_with_underscore : List ℕ → Bool
begins_with_underscore [] = false
begins_with_underscore (byte ∷ bytes) = is_underscore byte

-- Whether the last byte is an underscore, where `last` tells it of the byte before it.
abbrev pub ends_behind : (last : Bool) → List ℕ → Bool
ends_behind last [] = last
ends_behind last (byte ∷ bytes) = ends_behind (is_underscore byte) bytes

abbrev pub ends_with_underscore : List ℕ → Bool
ends_with_underscore name = ends_behind false name

-- Whether two underscores stand in a row, where `last` tells whether the byte before it is one.
abbrev pub doubles_behind : (last : Bool) → List ℕ → Bool
doubles_behind last [] = false
doubles_behind last (byte ∷ bytes) = (last && is_underscore byte) || doubles_behind (is_underscore byte) bytes

abbrev pub has_double_underscore : List ℕ → Bool
has_double_underscore name = doubles_behind false name

-- Whether nothing may be declared under this name.
unfoldable pub is_reserved : List ℕ → Bool
is_reserved name =
    begins_with_underscore name || (ends_with_underscore name || (has_double_underscore name || list_any (λ word. bytes_eq word name) kept_words))

-- And no method, though it may be the name of anything else.
abbrev pub is_initialize : List ℕ → Bool
is_initialize name = bytes_eq name (codes "initialize")
