-- That the checker's unit form is the one of the rules.
use Rattle.std.specs.Prelude.{◌≡◌, ◌↔◌, ℕ, true, List, Some}
use Rattle.wf_text.specs.Surface.{Surface}
use Rattle.c_text.specs.CTree.{ItemTree}
use Rattle.c_meaning.specs.UnitForm.{formed_item, first_break, HasUnitForm}
use Rattle.c_form_laws.specs.UnitRules.{KeepsItem, KeepsUnitForm, BreaksAt}

abbrev pub ItemsKeepTheirRules : Type 0
ItemsKeepTheirRules = (p : Surface) (before : List ItemTree) (all : List (List ℕ)) (item : ItemTree) → KeepsItem p before all item ↔ (formed_item p before all item ≡ true)

abbrev pub UnitFormIsKept : Type 0
UnitFormIsKept = (p : Surface) (items : List ItemTree) → KeepsUnitForm p items ↔ HasUnitForm p items

abbrev pub BreaksAreTold : Type 0
BreaksAreTold = (p : Surface) (items : List ItemTree) (n : ℕ) → BreaksAt p items n ↔ (first_break p items ≡ Some n)
