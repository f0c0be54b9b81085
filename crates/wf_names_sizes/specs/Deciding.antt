-- The first refusal after a pass that finds exactly what a rule says.
use Rattle.std.specs.Prelude.{◌≡◌, List, Option}
use Rattle.wf_text.specs.declared.rules.Refusal.{Refusal}
use Rattle.wf_text.specs.Precedence.{soonest}
use Rattle.wf_names_rules.specs.Found.{Finds}

-- `all` is the first refusal of what was found and of all that breaks the rule.
pub record DecidesBehind (Breaks : Refusal → Type 0) (found all : Option Refusal) : Type 0 where
  pub finds : List (Option Refusal)
  pub decides : all ≡ soonest found finds
  pub sound : (s : Refusal) → Finds finds s → Breaks s
  pub complete : (s : Refusal) → Breaks s → Finds finds s
