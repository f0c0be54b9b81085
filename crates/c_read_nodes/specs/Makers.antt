-- What a maker has made, and that all that its values name is there.
use Rattle.std.specs.Prelude.{◌≡◌, List}
use Rattle.c_text.specs.CNodes.{Nodes}
use Rattle.c_text.specs.CUnit.{IsSound, Extends}
use Rattle.c_read_grammar.specs.Values.{Val}
use Rattle.c_read_nodes.specs.declared.maker.Maker.{Maker}
use Rattle.c_read_nodes.specs.Seen.{seen_values, ValuesFit}

abbrev pub made : Maker → List Val
made m = seen_values m.unit m.values

abbrev pub IsFit : Maker → Type 0
IsFit m = ValuesFit m.unit m.values

-- Nodes were added to a sound unit, but no item.
pub record Grew (old new : Nodes) : Type 0 where
  pub sound : IsSound old
  pub extends : Extends old new
  pub items : new.items ≡ old.items
