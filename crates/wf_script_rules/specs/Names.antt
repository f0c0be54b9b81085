-- What the lines of a script have declared, by which its next line is judged.
use Rattle.std.specs.Prelude.{ℕ, ◌+◌, Bool, false, List, [], length, Option, nat_eq, find}
use Rattle.std.specs.Option.{option_map, option_map_or}
use Rattle.std.specs.Str.{bytes_eq}
use Rattle.wf_text.specs.HostActions.{Receiver}
use Rattle.wf_script_rules.specs.declared.rules.Thing.{Thing}
use Rattle.wf_script_rules.specs.declared.rules.Thing.TheVariants as thing

-- A name with what it stands for: a receiver, a buffer or a byte array, each numbered from 0 in the order of
-- declaration.
pub record Named : Type 0 where
  pub name : List ℕ
  pub thing : Thing

-- `sizes` are those of the buffers. `stored` tells how many bytes all buffers and byte arrays have together. `turns`
-- is the number that later calls and inits get.
pub record Declared : Type 0 where
  pub names : List Named
  pub receivers : List Receiver
  pub sizes : List ℕ
  pub arrays : List (List ℕ)
  pub stored : ℕ
  pub turns : ℕ

abbrev pub nothing_declared : Declared
nothing_declared = record { names = []; receivers = []; sizes = []; arrays = []; stored = 0; turns = 1000000 }

-- All names are of one set.
abbrev pub thing_named : List ℕ → List Named → Option Thing
thing_named word names = option_map (λ it. it.thing) (find (λ it. bytes_eq it.name word) names)

abbrev pub same_thing : Thing → Thing → Bool
same_thing (thing.Receiver j) (thing.Receiver k) = nat_eq j k
same_thing (thing.Buffer j) (thing.Buffer k) = nat_eq j k
same_thing (thing.Array j) (thing.Array k) = nat_eq j k
same_thing _ _ = false

-- The name of a thing.
abbrev pub name_of : Thing → List Named → List ℕ
name_of it names = option_map_or (λ named. named.name) (find (λ named. same_thing named.thing it) names) []

-- How many buffers and byte arrays there are.
abbrev pub stores : Declared → ℕ
stores declared = length declared.sizes + length declared.arrays
