-- The variables of methods, by the numbers of the methods.
use Rattle.std.proofs.Common.{◌≡◌, ℕ, zero, suc, List, [], ◌∷◌, ◌++◌, Option, Some, None, slice_get, refl, sym, ap, ◌∙◌, subst}
use Rattle.wf_names_rules.specs.declared.tables.MethodVariables.{MethodVariables}
use Rattle.wf_names_rules.specs.declared.tables.Tables.{Tables}
use Rattle.wf_names_rules.specs.Declarations.{Method, Declared, place_in}
use Rattle.wf_names_rules.specs.Uses.{Scope}
use Rattle.wf_names_rules.specs.Tables.{entry_sort, entry_place, local_in, arg_in, local_sort_at, arg_sort_at, local_place_at, arg_place_at}
use Rattle.wf_names_scopes.specs.Agreeing.{TellsMethod, TellMethods, IsInside, sort_among}

-- One method more, and a method by its number.
pub tell-more : (texts : List (List ℕ)) (ms : List Method) (ts : List MethodVariables) (m : Method) (t : MethodVariables) → TellMethods texts ms ts → TellsMethod texts m t
    → TellMethods texts (ms ++ m ∷ []) (ts ++ t ∷ [])
tell-more texts [] [] m t h k = (k, tt)
tell-more texts [] (u ∷ us) m t h k = absurd h
tell-more texts (x ∷ xs) [] m t h k = absurd h
tell-more texts (x ∷ xs) (u ∷ us) m t h k = (h.0, tell-more texts xs us m t h.1 k)

pub record Told (texts : List (List ℕ)) (m : Method) (found : Option MethodVariables) : Type 0 where
  pub known : MethodVariables
  pub is : found ≡ Some known
  pub tells : TellsMethod texts m known

pub told-at : (texts : List (List ℕ)) (ms : List Method) (ts : List MethodVariables) (k : ℕ) (m : Method) → TellMethods texts ms ts → slice_get ms k ≡ Some m
    → Told texts m (slice_get ts k)
told-at texts [] ts k m h e = absurd (cc e)
told-at texts (x ∷ xs) [] k m h e = absurd h
told-at texts (x ∷ xs) (t ∷ ts) zero m h e =
    let same : x ≡ m = cc e in
    let P : Method → Type 0 = λ y. TellsMethod texts y t in
    record { known = t; is = refl; tells = subst P same h.0 }
told-at texts (x ∷ xs) (t ∷ ts) (suc k) m h e = told-at texts xs ts k m h.1 e

-- What tables tell of the locals and the arguments of a scope.
module _ (d : Declared) (scope : Scope) (t : Tables) (tell : TellMethods d.texts d.methods t.variables.items) where
  pub local-sorts : (method : Option ℕ) → IsInside d scope method → (text : ℕ) → local_sort_at t method text ≡ sort_among d.texts scope.locals text
  local-sorts None h text = ap (λ vs. sort_among d.texts vs text) (sym h.1)
  local-sorts (Some m) h text =
      let told = told-at d.texts d.methods t.variables.items m h.method tell h.at in
      ap (λ o. entry_sort (local_in o text)) told.is ∙ told.tells.locals.sorts text ∙ ap (λ vs. sort_among d.texts vs text) (sym h.locals)

  pub arg-sorts : (method : Option ℕ) → IsInside d scope method → (text : ℕ) → arg_sort_at t method text ≡ sort_among d.texts scope.args text
  arg-sorts None h text = ap (λ vs. sort_among d.texts vs text) (sym h.0)
  arg-sorts (Some m) h text =
      let told = told-at d.texts d.methods t.variables.items m h.method tell h.at in
      ap (λ o. entry_sort (arg_in o text)) told.is ∙ told.tells.args.sorts text ∙ ap (λ vs. sort_among d.texts vs text) (sym h.args)

  pub local-places : (method : Option ℕ) → IsInside d scope method → (text : ℕ) → local_place_at t method text ≡ place_in scope.locals text
  local-places None h text = ap (λ vs. place_in vs text) (sym h.1)
  local-places (Some m) h text =
      let told = told-at d.texts d.methods t.variables.items m h.method tell h.at in
      ap (λ o. entry_place (local_in o text)) told.is ∙ told.tells.locals.places text ∙ ap (λ vs. place_in vs text) (sym h.locals)

  pub arg-places : (method : Option ℕ) → IsInside d scope method → (text : ℕ) → arg_place_at t method text ≡ place_in scope.args text
  arg-places None h text = ap (λ vs. place_in vs text) (sym h.0)
  arg-places (Some m) h text =
      let told = told-at d.texts d.methods t.variables.items m h.method tell h.at in
      ap (λ o. entry_place (arg_in o text)) told.is ∙ told.tells.args.places text ∙ ap (λ vs. place_in vs text) (sym h.args)
