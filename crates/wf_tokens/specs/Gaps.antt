-- Gaps: what stands before a token and belongs to none.
use Rattle.std.specs.Prelude.{ℕ, Bool, true, false, Option, Some, None, ◌&&◌, ◌||◌, not, List, [], ◌∷◌, ◌++◌, nat_eq, ◌≡◌, if◌then◌else◌, IsSomeAnd}
use Rattle.wf_tokens.specs.Runs.{begins}

-- Space, tab and carriage return are blank. So is a line feed, unless it ends a line on which a semicolon is due.
abbrev pub is_blank : Bool → ℕ → Bool
is_blank due byte = nat_eq byte 32 || nat_eq byte 9 || nat_eq byte 13 || (nat_eq byte 10 && not due)

abbrev pub is_slash : ℕ → Bool
is_slash byte = nat_eq byte 47

-- Two slashes begin a comment.
abbrev pub begins_comment : List ℕ → Bool
begins_comment [] = false
begins_comment (byte ∷ rest) = is_slash byte && begins is_slash rest

-- Whether the first of the bytes belongs to a gap, and if so, whether a comment goes on after it. `inside`
-- tells that the byte stands in a comment, which goes on up to the line feed.
abbrev pub gap_goes_on : (due inside : Bool) → List ℕ → Option Bool
gap_goes_on due inside [] = None
gap_goes_on due inside (byte ∷ rest) = if inside && not (nat_eq byte 10) then Some true else if is_blank due byte then Some false else if begins_comment (byte ∷ rest) then Some true else None

-- The whole gap: each of its bytes belongs to it, and what is after doesn't.
abbrev pub IsGapFrom : (due inside : Bool) → (gap behind : List ℕ) → Type 0
IsGapFrom due inside [] behind = gap_goes_on due inside behind ≡ None
IsGapFrom due inside (byte ∷ gap) behind = IsSomeAnd (gap_goes_on due inside (byte ∷ (gap ++ behind))) (λ inside'. IsGapFrom due inside' gap behind)

-- `due`: a line end adds a semicolon here.
abbrev pub IsGap : (due : Bool) → (gap behind : List ℕ) → Type 0
IsGap due gap behind = IsGapFrom due false gap behind

-- A line feed, or the file's end.
abbrev pub ends_line : List ℕ → Bool
ends_line [] = true
ends_line (byte ∷ _) = nat_eq byte 10
