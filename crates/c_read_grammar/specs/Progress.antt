-- A reader on its way: what it knows after some tokens of a text.
use Rattle.std.specs.Prelude.{◌≡◌, ℕ, List, Some}
use Rattle.c_text.specs.CSpelling.{CToken}
use Rattle.c_read_grammar.specs.Feeding.{State, feeds, start}
use Rattle.c_read_grammar.specs.Texts.{AreTokens, open_behind}
use Rattle.c_read_grammar.specs.Outcomes.{SpellsTo, IsShallow}

-- Of the bytes after the three lines, `body`, those before `rest` are tokens that the machine has read to this
-- state, and after them this many brackets are open.
pub record ReadSoFar (body rest : List ℕ) (state : State) (brackets : ℕ) : Type 0 where
  pub front : List CToken
  pub spelt : SpellsTo front body rest
  pub lawful : AreTokens front
  pub read : feeds front start ≡ Some state
  pub shallow : IsShallow 0 front
  pub depth : open_behind 0 front ≡ brackets
