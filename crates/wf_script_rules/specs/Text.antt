-- The lines of a script, and the words of a line.
use Rattle.std.specs.Prelude.{ℕ, Bool, true, false, ◌&&◌, ◌||◌, List, [], ◌∷◌, nat_eq, if◌then◌else◌}

abbrev pub is_feed : ℕ → Bool
is_feed byte = nat_eq byte 10

abbrev pub is_return : ℕ → Bool
is_return byte = nat_eq byte 13

-- A space or a tab.
abbrev pub is_blank : ℕ → Bool
is_blank byte = nat_eq byte 32 || nat_eq byte 9

-- The first byte, if there is one, passes the test.
abbrev pub begins : (ℕ → Bool) → List ℕ → Bool
begins test [] = false
begins test (byte ∷ _) = test byte

-- Pieces of which the first begins with one byte more.
abbrev pub in_front : ℕ → List (List ℕ) → List (List ℕ)
in_front byte [] = (byte ∷ []) ∷ []
in_front byte (piece ∷ pieces) = (byte ∷ piece) ∷ pieces

-- A line ends with a line feed, which the last line may lack. A carriage return right before a line feed belongs to
-- no line.
unfoldable pub lines_of : List ℕ → List (List ℕ)
lines_of [] = []
lines_of (byte ∷ bytes) =
    if is_feed byte then [] ∷ lines_of bytes
    else if is_return byte && begins is_feed bytes then lines_of bytes
    else in_front byte (lines_of bytes)

abbrev pub is_over : List ℕ → Bool
is_over [] = true
is_over (_ ∷ _) = false

-- A line without a carriage return at its end.
unfoldable pub without_return : List ℕ → List ℕ
without_return [] = []
without_return (byte ∷ bytes) = if is_return byte && is_over bytes then [] else byte ∷ without_return bytes

-- The line is over, or a blank comes.
abbrev pub ends_word : List ℕ → Bool
ends_word [] = true
ends_word (byte ∷ _) = is_blank byte

-- Words have no blanks, and blanks stand between them.
unfoldable pub words_of : List ℕ → List (List ℕ)
words_of [] = []
words_of (byte ∷ bytes) =
    if is_blank byte then words_of bytes
    else if ends_word bytes then (byte ∷ []) ∷ words_of bytes
    else in_front byte (words_of bytes)
