-- Moves of the code, as those of the grammar's machine.
use Rattle.std.specs.Prelude.{List, ◌++◌}
use Rattle.c_read_grammar.specs.declared.actions.Want.{Want}
use Rattle.c_read_grammar.specs.Machine as machine
use Rattle.c_read_table.specs.declared.moves.Move.{Move}
use Rattle.c_read_table.specs.declared.moves.Move.TheVariants.{Take, Pass, Stop}

abbrev pub seen : Move → machine.Move
seen (Take wants) = machine.Take wants
seen Pass = machine.Pass
seen Stop = machine.Stop

-- A move, where more is wanted before and after it.
abbrev pub around : List Want → machine.Move → List Want → machine.Move
around xs (machine.Take ys) zs = machine.Take (xs ++ (ys ++ zs))
around xs machine.Pass zs = machine.Pass
around xs machine.Stop zs = machine.Stop
