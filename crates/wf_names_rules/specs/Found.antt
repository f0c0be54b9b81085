-- What a pass over a list finds, by the rules.
use Rattle.std.specs.Prelude.{◌≡◌, ℕ, true, List, Option, Some, slice_get}
use Rattle.wf_text.specs.declared.rules.Refusal.{Refusal}
use Rattle.wf_text.specs.declared.rules.Rule.{Rule}
use Rattle.wf_text.specs.declared.rules.Rule.TheVariants.{N3}
use Rattle.wf_ast.specs.declared.parsed.Name.{Name}
use Rattle.wf_names_rules.specs.Reserved.{is_reserved, is_initialize}
use Rattle.graphs.specs.Graphs.{Path, goes}
use Rattle.wf_names_rules.specs.Passes.{bytes_at}
use Rattle.wf_names_rules.specs.NameRules.{IsRepeated, twice}

-- A refusal is among what is found.
abbrev pub Finds : List (Option Refusal) → Refusal → Type 0
Finds finds s = (i : ℕ) × (slice_get finds i ≡ Some (Some s))

-- A name that an earlier one of the list has too.
abbrev pub RepeatsName : List Name → Refusal → Type 0
RepeatsName names s = (later : Name) × ((IsRepeated names later) × (s ≡ twice later))

-- A name of the list that is reserved.
pub record ReservesName (texts : List (List ℕ)) (names : List Name) (s : Refusal) : Type 0 where
  pub place : ℕ
  pub name : Name
  pub is : slice_get names place ≡ Some name
  pub reserved : is_reserved (bytes_at texts name) ≡ true
  pub refused : s ≡ record { rule = N3; at = name.at }

-- A name of the list that is `initialize`.
pub record InitializesName (texts : List (List ℕ)) (names : List Name) (s : Refusal) : Type 0 where
  pub place : ℕ
  pub name : Name
  pub is : slice_get names place ≡ Some name
  pub initialize : is_initialize (bytes_at texts name) ≡ true
  pub refused : s ≡ record { rule = N3; at = name.at }

-- The name of a number that has a way back to itself, by the rule that this breaks.
pub record IsOnCycle (rule : Rule) (rows : List (List ℕ)) (names : List Name) (s : Refusal) : Type 0 where
  pub number : ℕ
  pub name : Name
  pub is : slice_get names number ≡ Some name
  pub path : Path (goes rows) number number
  pub refused : s ≡ record { rule = rule; at = name.at }
