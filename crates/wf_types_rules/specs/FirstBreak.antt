-- All refusals that a package gives cause for, part by part, and the first of them.
use Rattle.std.specs.Prelude.{List, map, Option, None}
use Rattle.std.specs.List.{flat_map}
use Rattle.wf_text.specs.declared.rules.Refusal.{Refusal}
use Rattle.wf_text.specs.Precedence.{soonest, told}
use Rattle.wf_named.specs.NamedTree.{NamedPackageTree}
use Rattle.wf_types_rules.specs.declared.settings.Setting.{Setting}
use Rattle.wf_types_rules.specs.Parts.{Part, Site, sites}
use Rattle.wf_types_rules.specs.TypeRules.{type_rules}

-- What the rules say of one part, in the table's order.
abbrev pub refusals_at : Setting → Part → List (Option Refusal)
refusals_at s x = map (λ row. told row.0 (row.1 s x)) type_rules

abbrev pub refusals_of : Site → List (Option Refusal)
refusals_of site = refusals_at site.around site.part

-- And of all parts of a package.
abbrev pub refusals : NamedPackageTree → List (Option Refusal)
refusals p = flat_map refusals_of (sites p)

-- The first refusal, and None where the package keeps every rule.
unfoldable pub deciding : NamedPackageTree → Option Refusal
deciding p = soonest None (refusals p)
