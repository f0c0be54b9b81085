-- What all places of a package that use a name break, one after the other.
use Rattle.std.specs.Prelude.{List, [], ◌∷◌, Option, None}
use Rattle.wf_text.specs.declared.rules.Refusal.{Refusal}
use Rattle.wf_text.specs.Precedence.{sooner}
use Rattle.wf_names_rules.specs.Declarations.{Declared}
use Rattle.wf_names_rules.specs.Uses.{Site, sites}
use Rattle.wf_names_rules.specs.Meanings.{known_at}
use Rattle.wf_names_rules.specs.Jumps.{labels_found}
use Rattle.wf_names_rules.specs.Judged.{judged}

-- The first refusal of what was found before and what these places break, each by what is known there.
abbrev pub sites_judged : Declared → (found : Option Refusal) → List Site → Option Refusal
sites_judged d found [] = found
sites_judged d found (site ∷ rest) = sites_judged d (judged (known_at d site.scope) found site.usage) rest

-- The first refusal of what was found before and what all uses of names in a package break.
abbrev pub uses_found : Declared → (found : Option Refusal) → Option Refusal
uses_found d found = sites_judged d found (sites d)

-- The first refusal of what was found before, what the loops and jumps of all methods break, and what all uses of names break.
abbrev pub names_found : Declared → (found : Option Refusal) → Option Refusal
names_found d found = sooner (labels_found d found) (uses_found d None)
