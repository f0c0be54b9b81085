-- What a maker has made, and what is true of it.
use Rattle.std.specs.Prelude.{◌≡◌, ◌+◌, ℕ, length}
use Rattle.wf_ast.specs.ParsedParts.{Parsed}
use Rattle.wf_parse_grammar.specs.Values.{Made}
use Rattle.wf_parse_nodes.specs.declared.maker.Maker.{Maker}
use Rattle.wf_parse_nodes.specs.Seen.{made_of, AreOf, IsOrdered}

-- What a maker has made.
abbrev pub made : Maker → Made
made m = made_of m.package m.values

-- How many nodes its package has.
abbrev pub nodes : Maker → ℕ
nodes m = length m.package.exprs + length m.package.stmts

-- All that its values and nodes name is there.
pub record IsSound (m : Maker) : Type 0 where
  pub ordered : IsOrdered m.package
  pub below : AreOf m.package m.values

-- Name and texts stay.
pub record KeepsTexts (old new : Parsed) : Type 0 where
  pub name : new.name ≡ old.name
  pub texts : new.texts ≡ old.texts
