-- Words in which the packages of the worked examples are written.
use Rattle.std.specs.Prelude.{ℕ, List}
use Rattle.wf_text.specs.declared.place.Place.{Place}
use Rattle.wf_base.specs.declared.widths.Width.TheVariants.{W8, W32}
use Rattle.wf_ast.specs.declared.types.Ty.{Ty}
use Rattle.wf_ast.specs.declared.types.Ty.TheVariants as types
use Rattle.wf_ast.specs.TypedTree.{NumType, Site}
use Rattle.wf_ast.specs.TypedPackage.{Variable}

-- A place in the only file, and a statement there.
abbrev pub on : (line col : ℕ) → Place
on line col = record { file = 0; line = line; col = col }

abbrev pub site : (number line col : ℕ) → Site
site number line col = record { number = number; at = on line col }

-- Types that aren't refined.
abbrev pub byte_type : NumType
byte_type = record { bits = 8; low = 0; high = 255 }

abbrev pub word_type : NumType
word_type = record { bits = 32; low = 0; high = 4294967295 }

abbrev pub byte_ty : Ty
byte_ty = types.Num W8 0 255

abbrev pub word_ty : Ty
word_ty = types.Num W32 0 4294967295

abbrev pub variable : List ℕ → Ty → Variable
variable name ty = record { name = name; ty = ty }
