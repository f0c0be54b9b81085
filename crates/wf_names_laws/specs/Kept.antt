-- What the rules of names leave true of what stands in a package: each use of a name has a meaning, each call fits its
-- method, and each jump has its loop.
use Rattle.std.specs.Prelude.{◌≡◌, ⊤, true, List, [], ◌∷◌}
use Rattle.std.specs.List.{AllByRecursion}
use Rattle.wf_names_rules.specs.Declarations.{Declared}
use Rattle.wf_names_rules.specs.Uses as uses
use Rattle.wf_names_rules.specs.Uses.{Use, Scope, Site}
use Rattle.wf_names_rules.specs.Meanings.{known_at, has_meaning}
use Rattle.wf_names_rules.specs.Jumps.{Jump, labelled, to_label, to_innermost, has_label}
use Rattle.wf_names_uses.specs.Fitting.{Fits}

-- A use keeps the rules where this is known: what it names is there, and a call fits.
abbrev pub IsKept : Declared → Scope → Use → Type 0
IsKept d scope (uses.method c) = Fits d scope c
IsKept d scope usage = has_meaning (known_at d scope) usage ≡ true

abbrev pub AreKept : Declared → Scope → List Use → Type 0
AreKept d scope usages = AllByRecursion (IsKept d scope) usages

abbrev pub IsKeptSite : Declared → Site → Type 0
IsKeptSite d site = IsKept d site.scope site.usage

abbrev pub AreKeptSites : Declared → List Site → Type 0
AreKeptSites d all = AllByRecursion (IsKeptSite d) all

-- A jump stands in a loop, and in one that has its label if it has one. A loop's own label asks for none.
abbrev pub HasLoop : Jump → Type 0
HasLoop (labelled loops label) = ⊤
HasLoop (to_label loops label) = has_label loops label.text.0 ≡ true
HasLoop (to_innermost [] at) = ⊥
HasLoop (to_innermost (loop ∷ loops) at) = ⊤

abbrev pub HaveLoops : List Jump → Type 0
HaveLoops jumps = AllByRecursion HasLoop jumps
