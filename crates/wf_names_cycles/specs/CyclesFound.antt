-- What methods and structs that can reach themselves break.
use Rattle.std.specs.Prelude.{◌≡◌, ◌⊎◌, ℕ, List, map, length, Option, Some, slice_get}
use Rattle.wf_text.specs.declared.rules.Refusal.{Refusal}
use Rattle.wf_text.specs.declared.rules.Rule.TheVariants.{N4}
use Rattle.wf_text.specs.Precedence.{Decides}
use Rattle.wf_ast.specs.declared.parsed.Name.{Name}
use Rattle.wf_names_rules.specs.Declarations.{Structure, Method, Declared}
use Rattle.graphs.specs.Graphs.{Path, AreCycles}
use Rattle.graphs.specs.Orders.{IsOrderOffCycles}
use Rattle.wf_names_rules.specs.Sizes.{holds_struct}
use Rattle.wf_names_rules.specs.StructRows.{AreStructRows}
use Rattle.wf_names_rules.specs.NameRules.{calls}
use Rattle.wf_names_scopes.specs.CallRows.{AreRows}
use Rattle.wf_names_cycles.specs.declared.cycles_found.NamedCycles.{NamedCycles}
use Rattle.wf_names_cycles.specs.declared.cycles_found.PackageCycles.{PackageCycles}

-- The first refusal of what was found before and of all that breaks these rules.
abbrev pub DecidesWith : (Breaks : Refusal → Type 0) (found all : Option Refusal) → Type 0
DecidesWith Breaks found all = Decides (λ s. (found ≡ Some s) ⊎ Breaks s) all

-- N4 at a struct that holds itself through fields.
pub record HoldsItself (d : Declared) (s : Refusal) : Type 0 where
  pub number : ℕ
  pub structure : Structure
  pub is : slice_get d.structs number ≡ Some structure
  pub path : Path (holds_struct d) number number
  pub refused : s ≡ record { rule = N4; at = structure.name.at }

-- N4 at a method that can reach itself by calls.
pub record Recursion (d : Declared) (s : Refusal) : Type 0 where
  pub number : ℕ
  pub method : Method
  pub is : slice_get d.methods number ≡ Some method
  pub path : Path (calls d) number number
  pub refused : s ≡ record { rule = N4; at = method.name.at }

-- The cycles of a graph, with a name for each of its numbers.
pub record AreCyclesOf (rows : List (List ℕ)) (named : NamedCycles) : Type 0 where
  pub long : length named.names.items ≡ length rows
  pub flags : AreCycles rows named.cycles.flags.items (length rows)
  pub order : IsOrderOffCycles rows named.cycles.order.items

abbrev pub struct_names : List Structure → List Name
struct_names structs = map (λ s. s.name) structs

-- The structs of a package, and the cycles of the graph that lists for each those that it holds.
pub record AreStructCycles (d : Declared) (named : NamedCycles) : Type 0 where
  pub rows : List (List ℕ)
  pub made : AreStructRows d rows
  pub names : named.names.items ≡ struct_names d.structs
  pub cycles : AreCyclesOf rows named

abbrev pub method_names : List Method → List Name
method_names methods = map (λ m. m.name) methods

-- The methods of a package, and the cycles of the graph that lists for each those that it calls.
pub record AreMethodCycles (d : Declared) (named : NamedCycles) : Type 0 where
  pub rows : List (List ℕ)
  pub made : AreRows d rows (length d.methods)
  pub names : named.names.items ≡ method_names d.methods
  pub cycles : AreCyclesOf rows named

-- All structs of a package stand in the order, each after those that its fields hold, apart from those that hold it.
pub record IsStructOrder (d : Declared) (order : List ℕ) : Type 0 where
  pub rows : List (List ℕ)
  pub made : AreStructRows d rows
  pub order_of : IsOrderOffCycles rows order

-- The cycles of both graphs of a package.
pub record ArePackageCycles (d : Declared) (cycles : PackageCycles) : Type 0 where
  pub structs : AreStructCycles d cycles.structs
  pub methods : AreMethodCycles d cycles.methods

-- All methods of a package stand in the order, each after those that it calls, apart from those that can reach it.
pub record IsCallOrder (d : Declared) (order : List ℕ) : Type 0 where
  pub rows : List (List ℕ)
  pub made : AreRows d rows (length d.methods)
  pub order_of : IsOrderOffCycles rows order
