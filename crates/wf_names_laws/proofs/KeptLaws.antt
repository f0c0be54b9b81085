-- Where no rule of names is broken, every use keeps the rules and every jump has its loop.
use Rattle.std.proofs.Common.{◌≡◌, ℕ, Bool, true, false, [], ◌∷◌, Option, Some, None, slice_get, refl}
use Rattle.wf_text.specs.declared.rules.Refusal.{Refusal}
use Rattle.wf_text.specs.declared.rules.Rule.TheVariants.{N5}
use Rattle.wf_text.specs.Precedence.{Decides}
use Rattle.wf_names_rules.specs.Declarations.{Method, Declared}
use Rattle.wf_names_rules.specs.Uses as uses
use Rattle.wf_names_rules.specs.Uses.{Use, Scope, sites}
use Rattle.wf_names_rules.specs.Jumps.{Jump, labelled, to_label, to_innermost, block_jumps, has_label}
use Rattle.wf_names_rules.specs.NameRules.{Breaks, by_use, by_label, unknown_label, outside_loops, UseBreaks, IsUsed, IsMethod}
use Rattle.wf_names_uses.proofs.UseLaws.{uses_found-decides}
use Rattle.wf_names_uses.proofs.MeaningLaws.{uses-have-meaning, calls-fit}
use Rattle.wf_names_scopes.specs.UsesFound.{uses_found}
use Rattle.wf_names_laws.specs.Kept.{IsKept, IsKeptSite, AreKeptSites, HasLoop, HaveLoops}
use Rattle.wf_names_laws.proofs.ListLemmas.{all-from}

-- The first refusal where there is no cause.
none-decides : (P : Refusal → Type 0) (o : Option Refusal) → Decides P o → ((s : Refusal) → P s → ⊥) → o ≡ None
none-decides P None h none = refl
none-decides P (Some r) h none = absurd (none r h.breaks)

pub nothing-found : (d : Declared) → Decides (Breaks d) None → uses_found d None ≡ None
nothing-found d h = none-decides (UseBreaks d) (uses_found d None) (uses_found-decides d) (λ s b. h s (by_use s b))

use-kept : (d : Declared) → uses_found d None ≡ None → (scope : Scope) (usage : Use) → IsUsed d scope usage → IsKept d scope usage
use-kept d e scope (uses.own_status text) used = uses-have-meaning d e scope (uses.own_status text) used
use-kept d e scope (uses.base_status text) used = uses-have-meaning d e scope (uses.base_status text) used
use-kept d e scope (uses.variable path) used = uses-have-meaning d e scope (uses.variable path) used
use-kept d e scope (uses.structure name) used = uses-have-meaning d e scope (uses.structure name) used
use-kept d e scope (uses.method c) used = calls-fit d e scope c used

pub sites-kept : (d : Declared) → Decides (Breaks d) None → AreKeptSites d (sites d)
sites-kept d h = all-from (IsKeptSite d) (sites d) (λ i site e. use-kept d (nothing-found d h) site.scope site.usage (i, e))

label-there : (t : Bool) → (t ≡ false → ⊥) → t ≡ true
label-there true h = refl
label-there false h = absurd (h refl)

pub jumps-kept : (d : Declared) → Decides (Breaks d) None → (m : Method) → IsMethod d m → HaveLoops (block_jumps [] m.body)
jumps-kept d h m is = all-from HasLoop (block_jumps [] m.body) (λ i j e. at j i e)
  where
    at : (j : Jump) (i : ℕ) → slice_get (block_jumps [] m.body) i ≡ Some j → HasLoop j
    at (labelled loops label) i e = tt
    at (to_label loops label) i e =
        label-there (has_label loops label.text.0) (λ none. h (record { rule = N5; at = label.at }) (by_label _ (unknown_label loops label (m, i, (is, e)) none)))
    at (to_innermost [] place) i e = h (record { rule = N5; at = place }) (by_label _ (outside_loops place (m, i, (is, e))))
    at (to_innermost (loop ∷ loops) place) i e = tt
