-- What a refusal says of a unit's items.
use Rattle.std.specs.Prelude.{◌≡◌, List, Some, ⊤}
use Rattle.wf_text.specs.Surface.{Surface}
use Rattle.c_text.specs.CTree.{ItemTree}
use Rattle.c_meaning.specs.UnitForm.{first_break}
use Rattle.c_form.specs.declared.faults.LoadFault.{LoadFault}
use Rattle.c_form.specs.declared.faults.LoadFault.TheVariants.{NoSuchForm, Memory}

-- A number is that of the first item that breaks the unit form; want of memory says nothing.
abbrev pub Refuses : Surface → List ItemTree → LoadFault → Type 0
Refuses p items (NoSuchForm item) = first_break p items ≡ Some item
Refuses p items Memory = ⊤
