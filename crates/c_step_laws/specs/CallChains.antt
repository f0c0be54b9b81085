-- Chains of calls of a C text, and how many cells the activations of a chain have that stand at once (ISO/IEC 9899:1999, 6.2.4p5).
use Rattle.std.specs.Prelude.{◌≡◌, ◌⊎◌, ℕ, ◌+◌, ◌≤◌, ⊤, List, [], ◌∷◌, ◌++◌, length, Some}
use Rattle.wf_text.specs.Surface.{Surface}
use Rattle.c_text.specs.declared.kinds.Linkage.TheVariants.{External}
use Rattle.c_text.specs.CTree.{ItemTree}
use Rattle.c_meaning.specs.CTypes.{Function}
use Rattle.c_meaning.specs.CCall.{Program, program_of}
use Rattle.c_meaning.specs.UnitForm.{Signature, signatures, HasUnitForm}
use Rattle.c_step_program.specs.Programs.{code_of}
use Rattle.c_step_cells.specs.Chains.{frame_cells}
use Rattle.c_step_laws.specs.Callees.{IsIn, Placed, last_named, Calls}

-- Each of these functions calls the next one.
abbrev pub IsChain : (first : Placed) → (others : List Placed) → Type 0
IsChain f [] = ⊤
IsChain f (g ∷ gs) = Calls f g × IsChain g gs

-- An activation of a function has a cell for each parameter and each local.
abbrev pub own_cells : Function → ℕ
own_cells f = length f.params + length f.locals

abbrev pub chain_cells : (first : Placed) → (others : List Placed) → ℕ
chain_cells f [] = own_cells f.function
chain_cells f (g ∷ gs) = own_cells f.function + chain_cells g gs

-- The function stands in the program.
abbrev pub StandsIn : Program → Placed → Type 0
StandsIn p f = (after : List Function) × (p.functions ≡ after ++ f.function ∷ f.before)

-- A host calls the first function of a chain of calls.
pub record BeginsAtHost (p : Program) (first : Placed) (others : List Placed) : Type 0 where
  pub stands : StandsIn p first
  pub external : first.function.linkage ≡ External
  pub calls : IsChain first others

-- A package's public functions, each init and each method, are external functions of its text.
abbrev pub PublicAreExternal : Type 0
PublicAreExternal = (surface : Surface) (items : List ItemTree) → HasUnitForm surface items → (s : Signature) → IsIn s (signatures surface)
    → (f : Placed) × (last_named (program_of items).functions s.name ≡ Some f) × (f.function.linkage ≡ External)

-- No function is external.
abbrev pub NoneExternal : List Function → Type 0
NoneExternal fs = (f : Function) → IsIn f fs → f.linkage ≡ External → ⊥

-- A chain that a host begins has this number of cells.
pub record HasChainOf (p : Program) (n : ℕ) : Type 0 where
  pub first : Placed
  pub others : List Placed
  pub begins : BeginsAtHost p first others
  pub cells : chain_cells first others ≡ n

-- The greatest number of cells of such a chain; 0 where there is none.
pub record IsGreatestOfChains (p : Program) (n : ℕ) : Type 0 where
  pub most : (first : Placed) (others : List Placed) → BeginsAtHost p first others → chain_cells first others ≤ n
  pub reached : HasChainOf p n ⊎ (NoneExternal p.functions × (n ≡ 0))

-- The number that a machine of the program tells.
abbrev pub program_cells : Program → ℕ
program_cells p = frame_cells (code_of p p.functions) p.functions

abbrev pub CellsAreOfChains : Type 0
CellsAreOfChains = (surface : Surface) (items : List ItemTree) → HasUnitForm surface items → IsGreatestOfChains (program_of items) (program_cells (program_of items))
