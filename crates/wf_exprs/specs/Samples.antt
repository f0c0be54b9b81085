-- What the worked examples speak of: a method with a byte `c` and an argument `n` of 16 bits, whose struct has a word `val`.
use Rattle.std.specs.Prelude.{[], ◌∷◌, codes}
use Rattle.wf_text.specs.declared.place.Place.{Place}
use Rattle.wf_ast.specs.TypedTree.{local, field, arg, NumTree, read}
use Rattle.wf_exprs.specs.Names.{Names}

abbrev pub here : Place
here = record { file = 0; line = 1; col = 1 }

abbrev pub some_names : Names
some_names = record { fields = codes "val" ∷ []; args = codes "n" ∷ []; locals = codes "c" ∷ [] }

abbrev pub digit : NumTree
digit = read here (record { bits = 8; low = 0; high = 255 }) (local 0)

abbrev pub val : NumTree
val = read here (record { bits = 32; low = 0; high = 4294967295 }) (field 0)

abbrev pub half : NumTree
half = read here (record { bits = 16; low = 0; high = 65535 }) (arg 0)
