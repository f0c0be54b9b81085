-- The types of a text's items.
use Rattle.std.specs.Prelude.{◌≡◌, ◌<◌, ℕ, suc, true, Some, slice_get, take, is_some}
use Rattle.wf_ast.specs.TypedPackage.{PackageTree}
use Rattle.wf_ast.specs.WellTyped.{well_typed}
use Rattle.c_text.specs.CTree.{ItemTree}
use Rattle.wf_lower.specs.Unit.{lowered_unit}
use Rattle.wf_lower_laws.specs.FieldLaw.{HasFieldNames, HasShortArrays}
use Rattle.wf_lower_laws.specs.FormLaw.{typed_item}
use Rattle.wf_lower_laws.specs.ItemLaw.{HasItemNames}
use Rattle.wf_lower_laws.specs.NameLaw.{HasNames}

-- The first ten statuses, ok and those of the language, are there.
abbrev pub HasBaseStatuses : PackageTree → Type 0
HasBaseStatuses p = (k : ℕ) → k < 10 → is_some (slice_get p.statuses k) ≡ true

-- Each item but the first of the text of a package that keeps the rules of types and has such names has the types that C asks of
-- it, after the items before it.
abbrev pub TextsAreTyped : Type 0
TextsAreTyped =
    (p : PackageTree) → well_typed p ≡ true → HasItemNames p → HasNames p → HasFieldNames p → HasShortArrays p → HasBaseStatuses p
    → (i : ℕ) (item : ItemTree) → slice_get (lowered_unit p) (suc i) ≡ Some item → typed_item (take (suc i) (lowered_unit p)) item ≡ true
