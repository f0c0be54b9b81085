-- Of the methods and structs that can reach themselves there is a first refusal, or there is none at all.
use Rattle.std.proofs.Common.{◌≡◌, ◌⊎◌, inl, inr, ℕ, ◌<◌, true, false, length, slice_get, Option, None, Some, refl, sym, ap, subst, arith}
use Rattle.std.proofs.lemmas.Option.{slice_get_within}
use Rattle.graphs.specs.Graphs.{Path}
use Rattle.wf_text.specs.declared.rules.Refusal.{Refusal}
use Rattle.wf_text.specs.declared.rules.Rule.TheVariants.{N4}
use Rattle.wf_ast.specs.declared.parsed.Name.{Name}
use Rattle.wf_names_rules.specs.Declarations.{Structure, Method, Declared}
use Rattle.wf_names_rules.specs.NameRules.{calls, method_calls, CycleBreaks, recursion, holds_itself}
use Rattle.wf_names_rules.specs.Sizes.{holds_struct}
use Rattle.wf_names_verdicts.proofs.Decided.{AreDecided, decided-map, decided-or, decided-one, decided-list, Since, OneBreaks}
use Rattle.wf_names_verdicts.proofs.Takes.{holds-itself}
use Rattle.wf_names_verdicts.proofs.Ways.{way-or-none}

abbrev cycle-at : Name → Refusal
cycle-at name = record { rule = N4; at = name.at }

module _ (d : Declared) where
  -- A method that calls one is there.
  pub caller-there : (a b : ℕ) → calls d a b ≡ true → a < length d.methods
  caller-there a b h = by_method (slice_get d.methods a) refl
    where
      by_method : (o : Option Method) → slice_get d.methods a ≡ o → a < length d.methods
      by_method None e = let none : calls d a b ≡ false = ap (λ m. method_calls d m b) e in absurd (cc (h, none))
      by_method (Some m) e = slice_get_within d.methods a m e

  calls-itself : (a : ℕ) → Path (calls d) a a ⊎ (Path (calls d) a a → ⊥)
  calls-itself a = way-or-none (calls d) (length d.methods) caller-there a a

  abbrev Recurs : ℕ → Method → Refusal → Type 0
  Recurs a m = Since (Path (calls d) a a) (cycle-at m.name)

  abbrev Holds : ℕ → Structure → Refusal → Type 0
  Holds a s = Since (Path (holds_struct d) a a) (cycle-at s.name)

  to-cycles : (t : Refusal) → OneBreaks Recurs 0 d.methods t ⊎ OneBreaks Holds 0 d.structs t → CycleBreaks d t
  to-cycles t (inl o) =
      let c = o.counted in
      let number : o.number ≡ o.place = omega (arith, c) in
      let P : ℕ → Type 0 = λ n. slice_get d.methods n ≡ Some o.item in
      subst (CycleBreaks d) (sym o.breaks.is) (recursion o.number o.item (subst P (sym number) o.is) o.breaks.cause)
  to-cycles t (inr o) =
      let c = o.counted in
      let number : o.number ≡ o.place = omega (arith, c) in
      let P : ℕ → Type 0 = λ n. slice_get d.structs n ≡ Some o.item in
      subst (CycleBreaks d) (sym o.breaks.is) (holds_itself o.number o.item (subst P (sym number) o.is) o.breaks.cause)

  from-cycles : (t : Refusal) → CycleBreaks d t → OneBreaks Recurs 0 d.methods t ⊎ OneBreaks Holds 0 d.structs t
  from-cycles _ (recursion a m e p) = inl (record { place = a; number = a; item = m; is = e; counted = omega arith; breaks = record { cause = p; is = refl } })
  from-cycles _ (holds_itself a s e p) = inr (record { place = a; number = a; item = s; is = e; counted = omega arith; breaks = record { cause = p; is = refl } })

  pub cycles-decided : AreDecided (CycleBreaks d)
  cycles-decided =
      decided-map (λ t. OneBreaks Recurs 0 d.methods t ⊎ OneBreaks Holds 0 d.structs t) (CycleBreaks d) to-cycles from-cycles
      (
      decided-or (OneBreaks Recurs 0 d.methods) (OneBreaks Holds 0 d.structs)
      (decided-list Recurs (λ a m. decided-one (Path (calls d) a a) (cycle-at m.name) (calls-itself a)) 0 d.methods)
      (decided-list Holds (λ a s. decided-one (Path (holds_struct d) a a) (cycle-at s.name) (holds-itself d a)) 0 d.structs)
      )
