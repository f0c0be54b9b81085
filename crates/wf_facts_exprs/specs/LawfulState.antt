-- The states of a method in which every variable has a value of its type.
use Rattle.std.specs.Prelude.{◌≡◌, ℕ, ◌+◌, ◌^◌, ◌<◌, ◌≤◌, ◌-◌, Bool, true, false, ◌&&◌, ◌||◌, List, [], ◌∷◌, Some, slice_get}
use Rattle.wf_base.specs.BaseOps.{Buffer}
use Rattle.wf_base.specs.BaseOps as ops
use Rattle.wf_ast.specs.TypedTree.{Path, arg, NumType, ValueTree, numeric, logical, state, elements, io, lost}
use Rattle.wf_ast.specs.Value.{Span, State}
use Rattle.wf_ast.specs.WellTyped.{Context, type_at, is_number, is_array, is_slice, is_flag, is_status, is_reader, is_writer, is_constant, well_num, well_slice, well_cond, well_status}
use Rattle.wf_facts_exprs.specs.Claims.{SideTree, single, sum, Claim, compared, stands}

-- The number is one of the type's.
pub record IsOf (of : NumType) (n : ℕ) : Type 0 where
  pub above : of.low ≤ n
  pub below : n ≤ of.high

-- The elements of a span are there, and each is one of the type's.
pub record HasElements (s : State) (of : NumType) (xs : Span) : Type 0 where
  pub few : xs.count < 2 ^ 64
  pub items : (k : ℕ) → k < xs.count → (n : ℕ) × (slice_get (s.cells_at xs.store) (xs.from + k) ≡ Some n) × IsOf of n

-- All numbers of the type that a slice with elements of so many bits has.
abbrev pub unrefined : (bits : ℕ) → NumType
unrefined bits = record { bits = bits; low = 0; high = 2 ^ bits - 1 }

pub record IsLawful (c : Context) (s : State) : Type 0 where
  pub numbers : (p : Path) (of : NumType) → is_number of (type_at c p) ≡ true → (n : ℕ) × (s.number_at p ≡ Some n) × IsOf of n
  pub flags : (p : Path) → is_flag (type_at c p) ≡ true → (b : Bool) × (s.flag_at p ≡ Some b)
  pub statuses : (p : Path) → is_status (type_at c p) ≡ true → (n : ℕ) × (s.status_at p ≡ Some n)
  pub slices : (p : Path) (bits : ℕ) → is_slice bits (type_at c p) ≡ true → (xs : Span) × (s.span_at p ≡ Some xs) × HasElements s (unrefined bits) xs
  pub arrays : (p : Path) (of : NumType) (count : ℕ) → is_array of count (type_at c p) ≡ true
      → (xs : Span) × (s.span_at p ≡ Some xs) × HasElements s of xs × (xs.count ≡ count)
  pub buffers : (a : ℕ) → (is_reader (type_at c (arg a)) || is_writer (type_at c (arg a))) ≡ true
      → (k : ℕ) × (b : Buffer) × (s.buffer_number a ≡ Some k) × (s.buffer_at k ≡ Some b) × ops.IsLawful b

-- Claims of this method: each side and each condition keeps the rules of types. A number alone may be any.
abbrev pub well_side : Context → SideTree → Bool
well_side c (single t) = is_constant t || well_num c t
well_side c (sum a b) = well_num c a && well_num c b

abbrev pub well_claim : Context → Claim → Bool
well_claim c (compared a op b) = well_side c a && well_side c b
well_claim c (stands cond answer) = well_cond c cond

abbrev pub well_claims : Context → List Claim → Bool
well_claims c [] = true
well_claims c (f ∷ fs) = well_claim c f && well_claims c fs

-- An expression of this method that keeps the rules of types.
abbrev pub well_value : Context → ValueTree → Bool
well_value c (numeric t) = well_num c t
well_value c (logical t) = well_cond c t
well_value c (state t) = well_status c t
well_value c (elements t) = well_slice c t
well_value c (io at a) = is_reader (type_at c (arg a)) || is_writer (type_at c (arg a))
well_value c lost = false
