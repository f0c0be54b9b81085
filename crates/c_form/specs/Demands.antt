-- What the public functions of a package ask of the items of a text: whether each item has met it so far. The first
-- item of a name is asked; a later one breaks the form by its name.
use Rattle.std.specs.Prelude.{ℕ, Bool, true, ◌&&◌, if◌then◌else◌, List, [], ◌∷◌, map, bytes_eq, length, replicate}
use Rattle.wf_text.specs.Surface.{Surface, PublicStruct, PublicMethod}
use Rattle.c_text.specs.CTree.{ItemTree}
use Rattle.c_text.specs.CNodes.{Nodes, unit_tree}
use Rattle.c_meaning.specs.CRun.{struct_name}
use Rattle.c_form.specs.Signatures.{method_by, initialize_by}
use Rattle.c_meaning.specs.UnitForm.{Signature, item_name, is_among, has_signature, is_struct}

abbrev pub ask : (name : List ℕ) → (passes : ItemTree → Bool) → List ItemTree → (met : List Bool) → List Bool
ask name passes (item ∷ items) (m ∷ met) = if bytes_eq name (item_name item) then (m && passes item) ∷ met else m ∷ ask name passes items met
ask name passes items met = met

-- What was asked: whether each item has met it, and whether all functions were there.
pub record Tally : Type 0 where
  pub nodes : Nodes
  pub met : List Bool
  pub complete : Bool

abbrev pub ask_function : Tally → Signature → Tally
ask_function it s = record { nodes = it.nodes; met = ask s.name (has_signature s) (unit_tree it.nodes) it.met; complete = it.complete && is_among (map item_name (unit_tree it.nodes)) s.name }

abbrev pub ask_struct : Tally → (name : List ℕ) → Tally
ask_struct it name = record it { met = ask name is_struct (unit_tree it.nodes) it.met }

abbrev pub ask_functions : Tally → List Signature → Tally
ask_functions it [] = it
ask_functions it (s ∷ ss) = ask_functions (ask_function it s) ss

-- A struct: its type, the function that initializes it, and its methods.
abbrev pub ask_all : Tally → (of : List ℕ) → List PublicMethod → Tally
ask_all it of methods = ask_functions (ask_function (ask_struct it of) (initialize_by of)) (map (method_by of) methods)

abbrev pub ask_structs : Surface → Tally → List PublicStruct → Tally
ask_structs p it [] = it
ask_structs p it (s ∷ ss) = ask_structs p (ask_all it (struct_name p s) s.methods) ss

-- Nothing was asked yet.
abbrev pub none_asked : Nodes → Tally
none_asked nodes = record { nodes = nodes; met = replicate (length nodes.items) true; complete = true }
