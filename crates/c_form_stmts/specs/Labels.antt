-- Labels that come into a table one after the other.
use Rattle.std.specs.Prelude.{◌≡◌, ◌+◌, ℕ, Bool, true, false, List, map}
use Rattle.std.specs.Option.{option_or}
use Rattle.c_form_exprs.specs.Tables.{named}
use Rattle.c_form_stmts.specs.Lines.{LineTree}
use Rattle.c_form_stmts.specs.Names.{are_new}
use Rattle.c_form_stmts.specs.Statements.{label_names, label_at}

-- What the table tells of the labels before statement `i`, and what is left of them; `distinct` tells whether all differ.
pub record Labelled (whole left : List LineTree) (table : List (List ℕ × ℕ)) (i : ℕ) (distinct : Bool) : Type 0 where
  pub found : (q : List ℕ) → option_or (named table q) (label_at i left q) ≡ label_at 0 whole q
  pub new : are_new (map (λ e. e.0) table) (label_names left) ≡ distinct

-- After one statement more.
abbrev pub LabelledNext : (whole left : List LineTree) → (table : List (List ℕ × ℕ)) → (i : ℕ) → (distinct : Bool) → (unique : Bool) → Type 0
LabelledNext whole left table i distinct true = Labelled whole left table (i + 1) distinct
LabelledNext whole left table i distinct false = distinct ≡ false
