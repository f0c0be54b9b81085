use Rattle.std.proofs.Common.{sym, refl, [], slice_get, List, None, ◌≡◌, ℕ, ◌∷◌}
use Rattle.wf_script_rules.proofs.TextLaws.{next_none, skips_none, skips_some}
use Rattle.wf_script_rules.proofs.text.Words.are_skipped.Goals as goal

nothing : (text : List ℕ) → None ≡ slice_get text 0 → text ≡ []
nothing [] h = refl
nothing (x ∷ xs) h = absurd cc

pub returns-in-Some : goal.returns-in-Some
returns-in-Some c = sym (skips_some c.args.self.now c.self.inside.rest.now c.without_blanks.result.now c.in-Some.byte.now c.self.view_is c.without_blanks.ensures.words c.without_blanks.ensures.front c.in-Some.ensures.value)

pub returns-in-None : goal.returns-in-None
returns-in-None c = sym (skips_none c.args.self.now (next_none c.args.self.now c.self.inside.rest.now c.without_blanks.result.now c.self.view_is c.without_blanks.ensures.words (nothing _ c.in-None.ensures.value)))
