-- The constants by their table are the first of their names, and passes over methods with two tables that tell the same.
use Rattle.std.proofs.Common.{◌≡◌, ℕ, ◌+◌, Bool, true, false, cond, if◌then◌else◌, List, [], ◌∷◌, ◌++◌, map, length, length-append, append_assoc, fold, Option, Some, refl, sym, ap, ◌∙◌, arith}
use Rattle.std.specs.List.{position_from}
use Rattle.wf_text.specs.declared.rules.Refusal.{Refusal}
use Rattle.wf_text.specs.declared.rules.Rule.TheVariants.{L7}
use Rattle.wf_text.specs.Precedence.{sooner, soonest}
use Rattle.wf_ast.specs.declared.parsed.Name.{Name}
use Rattle.wf_ast.proofs.TreeLemmas.{slice_get-seam}
use Rattle.wf_names_rules.specs.declared.tables.Variables.{Variables}
use Rattle.wf_names_rules.specs.Declarations.{Constant, Method, Declared, as_variable, is_spelt}
use Rattle.wf_names_rules.specs.NameRules.{variable_names}
use Rattle.wf_names_rules.specs.Passes.{beyond}
use Rattle.wf_names_decls.specs.ConstantNames.{name_at, constant_by, AreConstantPlaces}
use Rattle.wf_names_decls.specs.Gathering.{constant_names}
use Rattle.wf_names_decls.specs.DeclarationPass.{names_judged, first_spelt, local_and_constant, locals_and_constants, args_judged, method_judged}

-- The name at the place of the first constant with this text.
placed : (text : ℕ) (front : List Name) (cs : List Constant)
    → name_at (front ++ map (λ c. c.name) cs) (position_from (λ v. is_spelt text v.name) (length front) (map as_variable cs)) ≡ first_spelt (map (λ c. c.name) cs) text
placed text front [] = refl
placed text front (c ∷ cs) = by (is_spelt text c.name) (ap (λ names. name_at names (position_from (λ v. is_spelt text v.name) (length (front ++ c.name ∷ [])) (map as_variable cs))) (sym (append_assoc front (c.name ∷ []) rest)) ∙ placed text (front ++ c.name ∷ []) cs)
  where
    rest : List Name
    rest = map (λ c. c.name) cs

    next : length front + 1 ≡ length (front ++ c.name ∷ [])
    next = omega (arith, length-append front (c.name ∷ []))

    by : (b : Bool) → name_at (front ++ c.name ∷ rest) (position_from (λ v. is_spelt text v.name) (length (front ++ c.name ∷ [])) (map as_variable cs)) ≡ first_spelt rest text
        → name_at (front ++ c.name ∷ rest) (cond b (Some (length front)) (position_from (λ v. is_spelt text v.name) (length front + 1) (map as_variable cs))) ≡ (if b then Some c.name else first_spelt rest text)
    by true r = slice_get-seam front c.name rest
    by false r = ap (λ k. name_at (front ++ c.name ∷ rest) (position_from (λ v. is_spelt text v.name) k (map as_variable cs))) next ∙ r

pub constants-same : (d : Declared) (names : List Name) (places : Variables) → names ≡ constant_names d → AreConstantPlaces d places → (text : ℕ) → constant_by names places text ≡ first_spelt (constant_names d) text
constants-same d names places named placed_at text =
    ap (λ ns. constant_by ns places text) named ∙ ap (name_at (constant_names d)) (placed_at text) ∙ placed text [] d.constants

module _ (one other : ℕ → Option Name) (same : (text : ℕ) → one text ≡ other text) (texts : List (List ℕ)) where
  hidden-same : (locals : List Name) → locals_and_constants one locals ≡ locals_and_constants other locals
  hidden-same [] = refl
  hidden-same (v ∷ vs) = ap (λ item. local_and_constant item v ∷ locals_and_constants one vs) (same v.text.0) ∙ ap (λ rest. local_and_constant (other v.text.0) v ∷ rest) (hidden-same vs)

  method-same : (found : Option Refusal) (m : Method) → method_judged one texts found m ≡ method_judged other texts found m
  method-same found m =
      ap (λ finds. sooner (soonest (names_judged texts (args_judged texts found (variable_names m.args)) (variable_names m.locals)) finds) (beyond L7 256 (variable_names m.locals)))
      (hidden-same (variable_names m.locals))

  pub methods-same : (found : Option Refusal) (ms : List Method) → fold (method_judged one texts) found ms ≡ fold (method_judged other texts) found ms
  methods-same found [] = refl
  methods-same found (m ∷ ms) = ap (λ f. fold (method_judged one texts) f ms) (method-same found m) ∙ methods-same (method_judged other texts found m) ms
