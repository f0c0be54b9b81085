-- The kinds of statuses for which the four status methods ask, by the first byte of a status's text.
use Rattle.std.proofs.Common.{◌≡◌, [], refl}
use Rattle.std.specs.Prelude.{codes}
use Rattle.wf_text.specs.declared.categories.Category.TheVariants.{Fine, Note, Suspension, Fault}
use Rattle.wf_text.specs.StatusText.{category_of}

-- ok has no text.
ok_is_fine : category_of [] ≡ Fine
ok_is_fine = refl

is_a_note : category_of (codes "@base: end of data") ≡ Note
is_a_note = refl

is_a_suspension : category_of (codes "$base: short read") ≡ Suspension
is_a_suspension = refl

is_an_error : category_of (codes "#base: bad argument") ≡ Fault
is_an_error = refl

-- The mark alone tells the kind.
mark_of_a_note : category_of (codes "@") ≡ Note
mark_of_a_note = refl

mark_of_a_suspension : category_of (codes "$") ≡ Suspension
mark_of_a_suspension = refl

mark_of_an_error : category_of (codes "#") ≡ Fault
mark_of_an_error = refl
