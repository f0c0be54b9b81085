-- The public structs of a package, by number, in a text.
use Rattle.std.specs.Prelude.{◌≡◌, ℕ, ◌++◌, nat_eq, List, find, Option, option_map, codes}
use Rattle.indexmap.specs.IndexMap.{get}
use Rattle.wf_text.specs.Surface.{Surface, PublicStruct}
use Rattle.c_meaning.specs.CCall.{Program}
use Rattle.c_step_objects.specs.declared.types.Types.{Types}
use Rattle.c_step_objects.specs.Shapes.{all_shapes, struct_number}

-- The name of a struct's type.
abbrev pub type_name : (of_package name : List ℕ) → List ℕ
type_name of_package name = codes "wuffs_" ++ (of_package ++ (codes "__" ++ name))

-- What numbers types by their names numbers structs by their numbers.
abbrev pub numbered_type : (List ℕ → ℕ) → (of_package : List ℕ) → List PublicStruct → (k : ℕ) → Option ℕ
numbered_type number of_package structs k = option_map (λ it. number (type_name of_package it.name)) (find (λ it. nat_eq it.number k) structs)

pub record IsTypes (it : Types) (p : Program) (surface : Surface) : Type 0 where
  pub shapes : it.shapes.items ≡ all_shapes p.structs
  pub numbers : (k : ℕ) → get nat_eq it.numbers k ≡ numbered_type (struct_number p.structs) surface.package_name surface.structs k
