-- The first refusal: of all that is broken, by place, and of one place by the rule that is named first.
use Rattle.std.specs.Prelude.{ℕ, Bool, List, [], ◌∷◌, Option, Some, None, option_map, ◌≡◌, false, nat_eq, nat_lt, if◌then◌else◌}
use Rattle.wf_text.specs.declared.place.Place.{Place}
use Rattle.wf_text.specs.declared.rules.Refusal.{Refusal}
use Rattle.wf_text.specs.declared.rules.Rule.{Rule}
use Rattle.wf_text.specs.declared.rules.Rule.TheVariants.{S1, S2, S3, S4, S5, S6, N1, N2, N3, N4, N5, N6, N7, N8, T1, T2, T3, T4, T5, E1, E2, E3, E4, E5, B1, B2, B3, B4, B5, B6, B7, B8, B9, B10, B11, B12, L1, L2, L3, L4, L5, L6, L7, L8, L9}

-- The rules' order: by letter in the order of the phases, the limits last, then by number.
abbrev pub rank : Rule → ℕ
rank S1 = 0
rank S2 = 1
rank S3 = 2
rank S4 = 3
rank S5 = 4
rank S6 = 5
rank N1 = 6
rank N2 = 7
rank N3 = 8
rank N4 = 9
rank N5 = 10
rank N6 = 11
rank N7 = 12
rank N8 = 13
rank T1 = 14
rank T2 = 15
rank T3 = 16
rank T4 = 17
rank T5 = 18
rank E1 = 19
rank E2 = 20
rank E3 = 21
rank E4 = 22
rank E5 = 23
rank B1 = 24
rank B2 = 25
rank B3 = 26
rank B4 = 27
rank B5 = 28
rank B6 = 29
rank B7 = 30
rank B8 = 31
rank B9 = 32
rank B10 = 33
rank B11 = 34
rank B12 = 35
rank L1 = 36
rank L2 = 37
rank L3 = 38
rank L4 = 39
rank L5 = 40
rank L6 = 41
rank L7 = 42
rank L8 = 43
rank L9 = 44

-- Whether one number is below another; where the two are equal, what comes next tells.
abbrev pub then_by : ℕ → ℕ → Bool → Bool
then_by a b next = if nat_eq a b then next else nat_lt a b

-- The one refusal is before the other: by file, line and column, then by rule.
unfoldable pub is_before : Refusal → Refusal → Bool
is_before r s =
    then_by r.at.file s.at.file
    (then_by r.at.line s.at.line (then_by r.at.col s.at.col (nat_lt (rank r.rule) (rank s.rule))))

-- The first refusal of what was found so far and what is found now.
abbrev pub sooner : Option Refusal → Option Refusal → Option Refusal
sooner found None = found
sooner None (Some s) = Some s
sooner (Some r) (Some s) = if is_before s r then Some s else Some r

-- The first refusal of what was found so far and a whole list.
abbrev pub soonest : Option Refusal → List (Option Refusal) → Option Refusal
soonest found [] = found
soonest found (r ∷ rs) = soonest (sooner found r) rs

-- The refusal by a rule at a place.
abbrev pub refused : Rule → Place → Refusal
refused rule at = record { rule = rule; at = at }

-- The refusal by a rule at a place that may be absent.
abbrev pub told : Rule → Option Place → Option Refusal
told rule at = option_map (refused rule) at

-- Of the refusals that a package gives cause for this is the first: none is before it.
pub record IsFirst (Breaks : Refusal → Type 0) (r : Refusal) : Type 0 where
  pub breaks : Breaks r
  pub first : (s : Refusal) → Breaks s → is_before s r ≡ false

-- The first refusal, and none exactly where there is no cause for any.
abbrev pub Decides : (Refusal → Type 0) → Option Refusal → Type 0
Decides Breaks None = (s : Refusal) → Breaks s → ⊥
Decides Breaks (Some r) = IsFirst Breaks r
