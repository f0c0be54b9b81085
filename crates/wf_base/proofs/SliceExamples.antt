-- The copy to a slice, and the length of a slice, at worked values.
use Rattle.std.proofs.Common.{◌≡◌, ℕ, ◌-◌, ◌^◌, List, [], ◌∷◌, length, refl}
use Rattle.wf_base.specs.BaseOps.{elements, copied}

abbrev five : List ℕ
five = 1 ∷ 2 ∷ 3 ∷ 4 ∷ 5 ∷ []

-- A slice, with one that is all of the cells, and empty ones at both ends.
middle : elements 1 3 five ≡ 2 ∷ 3 ∷ 4 ∷ []
middle = refl

whole : elements 0 5 five ≡ five
whole = refl

empty_in_front : elements 0 0 five ≡ []
empty_in_front = refl

empty_behind : elements 5 0 five ≡ []
empty_behind = refl

-- length()
length_of_middle : length (elements 1 3 five) ≡ 3
length_of_middle = refl

length_of_whole : length (elements 0 5 five) ≡ 5
length_of_whole = refl

length_of_empty : length (elements 5 0 five) ≡ 0
length_of_empty = refl

-- copy_from_slice!(s), to all of the cells and to a part of them.
same_length : copied {X = ℕ} 0 2 (8 ∷ 9 ∷ []) (1 ∷ 2 ∷ []) ≡ 8 ∷ 9 ∷ []
same_length = refl

shorter_source : copied 0 5 (8 ∷ 9 ∷ []) five ≡ 8 ∷ 9 ∷ 3 ∷ 4 ∷ 5 ∷ []
shorter_source = refl

shorter_target : copied {X = ℕ} 0 2 (7 ∷ 8 ∷ 9 ∷ []) (1 ∷ 2 ∷ []) ≡ 7 ∷ 8 ∷ []
shorter_target = refl

to_a_part : copied 1 2 (7 ∷ 8 ∷ 9 ∷ []) five ≡ 1 ∷ 7 ∷ 8 ∷ 4 ∷ 5 ∷ []
to_a_part = refl

to_the_last : copied 4 1 (7 ∷ 8 ∷ []) five ≡ 1 ∷ 2 ∷ 3 ∷ 4 ∷ 7 ∷ []
to_the_last = refl

from_empty : copied 0 5 [] five ≡ five
from_empty = refl

to_empty : copied 2 0 (7 ∷ 8 ∷ []) five ≡ five
to_empty = refl

empty_to_empty : copied {X = ℕ} 0 0 [] [] ≡ []
empty_to_empty = refl

wide_elements : copied 0 2 ((2 ^ 64 - 1) ∷ []) (65536 ∷ 4294967296 ∷ []) ≡ (2 ^ 64 - 1) ∷ 4294967296 ∷ []
wide_elements = refl

-- Both slices are parts of the same cells: those of the source are copied as they were, wherever the target stands.
overlaps_behind : copied 1 3 (elements 0 3 five) five ≡ 1 ∷ 1 ∷ 2 ∷ 3 ∷ 5 ∷ []
overlaps_behind = refl

overlaps_in_front : copied 0 3 (elements 2 3 five) five ≡ 3 ∷ 4 ∷ 5 ∷ 4 ∷ 5 ∷ []
overlaps_in_front = refl

overlaps_with_shorter_target : copied 1 2 (elements 0 4 five) five ≡ 1 ∷ 1 ∷ 2 ∷ 4 ∷ 5 ∷ []
overlaps_with_shorter_target = refl

onto_itself : copied 1 3 (elements 1 3 five) five ≡ five
onto_itself = refl
