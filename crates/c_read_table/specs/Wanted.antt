-- Wanted things as the table tells them: what tells what the token says, and lists of the table.
use Rattle.std.specs.Prelude.{Option, None, Some, List, ◌∷◌}
use Rattle.c_read_grammar.specs.declared.actions.Want.{Want}

-- What tells what the token says before a list, if anything does.
abbrev pub led_by : Option Want → List Want → List Want
led_by None xs = xs
led_by (Some want) xs = want ∷ xs
