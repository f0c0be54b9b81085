-- Of all that a package breaks of the rules of names there is a first refusal, or it keeps them all: section by section.
use Rattle.std.proofs.Common.{◌⊎◌, inl, inr, None}
use Rattle.wf_text.specs.declared.rules.Refusal.{Refusal}
use Rattle.wf_names_rules.specs.Declarations.{Declared}
use Rattle.wf_names_rules.specs.NameRules.{DeclarationBreaks, UseBreaks, LabelBreaks, CycleBreaks, SizeBreaks, Breaks, by_declaration, by_use, by_label, by_cycle, by_size}
use Rattle.wf_names_decls.specs.DeclarationPass.{declarations_found}
use Rattle.wf_names_rules.specs.Jumps.{labels_found}
use Rattle.wf_names_decls.proofs.DeclarationLaws.{declarations-decide}
use Rattle.wf_names_decls.proofs.LabelLaws.{labels-decide}
use Rattle.wf_names_scopes.specs.UsesFound.{uses_found}
use Rattle.wf_names_uses.proofs.UseLaws.{uses_found-decides}
use Rattle.wf_names_verdicts.specs.NameVerdicts.{NamesAreDecided}
use Rattle.wf_names_verdicts.proofs.Cycles.{cycles-decided}
use Rattle.wf_names_verdicts.proofs.Decided.{AreDecided, decided-map, decided-or}
use Rattle.wf_names_verdicts.proofs.Large.{sizes-decided}

-- A section, told with nothing before it.
alone : (P : Refusal → Type 0) → AreDecided (λ s. ⊥ ⊎ P s) → AreDecided P
alone P = decided-map (λ s. ⊥ ⊎ P s) P (λ s c. elim c [ inl none ↦ absurd none | inr p ↦ p ]) (λ s p. inr p)

module _ (d : Declared) where
  declarations-decided : AreDecided (DeclarationBreaks d)
  declarations-decided = alone (DeclarationBreaks d) (record { found = declarations_found d None; decides = declarations-decide d (λ s. ⊥) None (λ s none. none) })

  labels-decided : AreDecided (LabelBreaks d)
  labels-decided = alone (LabelBreaks d) (record { found = labels_found d None; decides = labels-decide d (λ s. ⊥) None (λ s none. none) })

  uses-decided : AreDecided (UseBreaks d)
  uses-decided = record { found = uses_found d None; decides = uses_found-decides d }

  abbrev Sections : Refusal → Type 0
  Sections s = (DeclarationBreaks d s ⊎ UseBreaks d s) ⊎ (LabelBreaks d s ⊎ (CycleBreaks d s ⊎ SizeBreaks d s))

  from-sections : (s : Refusal) → Sections s → Breaks d s
  from-sections s (inl (inl b)) = by_declaration s b
  from-sections s (inl (inr b)) = by_use s b
  from-sections s (inr (inl b)) = by_label s b
  from-sections s (inr (inr (inl b))) = by_cycle s b
  from-sections s (inr (inr (inr b))) = by_size s b

  to-sections : (s : Refusal) → Breaks d s → Sections s
  to-sections _ (by_declaration s b) = inl (inl b)
  to-sections _ (by_use s b) = inl (inr b)
  to-sections _ (by_label s b) = inr (inl b)
  to-sections _ (by_cycle s b) = inr (inr (inl b))
  to-sections _ (by_size s b) = inr (inr (inr b))

  names-decided : AreDecided (Breaks d)
  names-decided =
      decided-map Sections (Breaks d) from-sections to-sections
      (
      decided-or (λ s. DeclarationBreaks d s ⊎ UseBreaks d s) (λ s. LabelBreaks d s ⊎ (CycleBreaks d s ⊎ SizeBreaks d s))
      (decided-or (DeclarationBreaks d) (UseBreaks d) declarations-decided uses-decided)
      (decided-or (LabelBreaks d) (λ s. CycleBreaks d s ⊎ SizeBreaks d s) labels-decided (decided-or (CycleBreaks d) (SizeBreaks d) (cycles-decided d) (sizes-decided d)))
      )

pub names-are-decided : NamesAreDecided
names-are-decided d = let n = names-decided d in (n.found, n.decides)
