-- A table of texts without repeats, in which a text is looked up by its bytes.
use Rattle.std.specs.Prelude.{◌≡◌, ◌≢◌, ◌<◌, ◌≤◌, ◌-◌, ◌+◌, ℕ, zero, suc, if◌then◌else◌, List, [], ◌∷◌, ◌++◌, ◌⊎◌, length, slice_get, slice_index, slice_set, unwrap_or, bit_and}
use Rattle.std.specs.Str.{bytes_eq}
use Rattle.std.specs.Hash.FoldHasher.{initial, write, finish}
use Rattle.std.specs.declared.option.Option.{Option}
use Rattle.std.specs.declared.option.Option.TheVariants.{None, Some}
use Rattle.interner.specs.declared.places.TheConstants.{REACH}

-- A number made of a text's bytes, in which few texts are alike.
abbrev pub digest : List ℕ → ℕ
digest text = finish (write initial text)

-- Equal texts have equal numbers.
abbrev pub AreDistinct : List (List ℕ) → Type 0
AreDistinct texts = (i j : ℕ) (text : List ℕ) → slice_get texts i ≡ Some text → slice_get texts j ≡ Some text → i ≡ j

-- A text that the list doesn't have.
abbrev pub IsNew : List (List ℕ) → List ℕ → Type 0
IsNew texts text = (i : ℕ) → slice_get texts i ≢ Some text

-- The text at a number, where there is one.
abbrev pub text_at : List (List ℕ) → ℕ → List ℕ
text_at texts n = unwrap_or (slice_get texts n) []

-- The first of the slots in which a text of this digest may stand, the digest's low bits.
abbrev pub first_slot : List ℕ → ℕ → ℕ
first_slot slots made = bit_and made (length slots - REACH)

-- What a slot tells of a text: a free one that it isn't in the table, one with its number that number, and one with another's nothing, so that `later` is asked.
abbrev pub told : List (List ℕ) → List ℕ → ℕ → Option ℕ → Option ℕ
told texts text zero later = None
told texts text (suc n) later = if bytes_eq (text_at texts n) text then Some n else later

-- What is found of a text in so many slots from a place on, and where others have all of these, what a map of other texts has of it.
unfoldable pub found : List (List ℕ) → List ℕ → List ℕ → Option ℕ → (at left : ℕ) → Option ℕ
found texts slots text other at zero = other
found texts slots text other at (suc left) = told texts text (slice_index slots at) (found texts slots text other (at + 1) left)

-- A look-up of a text: through the slots in which it may stand, and in a map of other texts.
abbrev pub look_up : List (List ℕ) → List ℕ → (List ℕ → Option ℕ) → List ℕ → Option ℕ
look_up texts slots other text = found texts slots text (other text) (first_slot slots (digest text)) REACH

-- The look-up answers each text's number in the list, and none for other texts: slots and map have numbers of the list alone, and the map has a text's own.
pub record Finds (slots : List ℕ) (other : List ℕ → Option ℕ) (texts : List (List ℕ)) : Type 0 where
  pub within : (at : ℕ) → slice_index slots at ≤ length texts
  pub stands : (text : List ℕ) (n : ℕ) → other text ≡ Some n → slice_get texts n ≡ Some text
  pub known : (i : ℕ) (text : List ℕ) → slice_get texts i ≡ Some text → look_up texts slots other text ≡ Some i

-- The first free slot of those in which a text of this digest may stand.
pub record IsFirstFree (slots : List ℕ) (made at : ℕ) : Type 0 where
  pub after : first_slot slots made ≤ at
  pub before : at < first_slot slots made + REACH
  pub free : slice_index slots at ≡ 0
  pub taken : (k : ℕ) → first_slot slots made ≤ k → k < at → slice_index slots k ≢ 0

-- Others have all slots in which a text of this digest may stand.
abbrev pub AreTaken : List ℕ → ℕ → Type 0
AreTaken slots made = (k : ℕ) → first_slot slots made ≤ k → k < first_slot slots made + REACH → slice_index slots k ≢ 0

-- The text's number stands in the first free slot of its own.
pub record TakesSlot (old new : List ℕ) (before after : List ℕ → Option ℕ) (text : List ℕ) (number : ℕ) : Type 0 where
  pub at : ℕ
  pub first : IsFirstFree old (digest text) at
  pub slots : new ≡ slice_set old at (number + 1)
  pub others : (q : List ℕ) → after q ≡ before q

-- The text's number stands in the map of other texts, since its slots are taken.
pub record JoinsOthers (old new : List ℕ) (before after : List ℕ → Option ℕ) (text : List ℕ) (number : ℕ) : Type 0 where
  pub slots : new ≡ old
  pub taken : AreTaken old (digest text)
  pub has : after text ≡ Some number
  pub others : (q : List ℕ) → q ≢ text → after q ≡ before q

-- The text has a place with this number now.
abbrev pub Seats : (old new : List ℕ) (before after : List ℕ → Option ℕ) (text : List ℕ) (number : ℕ) → Type 0
Seats old new before after text number = TakesSlot old new before after text number ⊎ JoinsOthers old new before after text number

-- The texts after a search for one of them: the same, or one more at their end.
abbrev pub JoinsText : (old new : List (List ℕ)) → (text : List ℕ) → Type 0
JoinsText old new text = (new ≡ old) ⊎ (new ≡ old ++ text ∷ [])

-- The text has the number now; it joined at the end if it wasn't there.
pub record Interns (old new : List (List ℕ)) (text : List ℕ) (number : ℕ) : Type 0 where
  pub joins : JoinsText old new text
  pub stands : slice_get new number ≡ Some text
