-- What reading bytes comes to.
use Rattle.std.specs.Prelude.{◌≡◌, ◌<◌, ◌≤◌, ◌++◌, ℕ, ⊤, Result, Ok, Err, List, [], length}
use Rattle.c_text.specs.CSpelling.{CToken, includes}
use Rattle.c_text.specs.CTree.{ItemTree}
use Rattle.c_text.specs.CNodes.{Nodes, unit_tree}
use Rattle.c_read_grammar.specs.Outcomes.{HasOutcome, whole, too_deep, not_c, StandsAt}
use Rattle.c_read_grammar.specs.FirstToken.{Stands}
use Rattle.c_read_grammar.specs.Progress.{ReadSoFar}
use Rattle.c_read.specs.declared.faults.ReadFault.{ReadFault}
use Rattle.c_read.specs.declared.faults.ReadFault.TheVariants as fault
use Rattle.c_read.specs.declared.machine.Machine.{Machine}
use Rattle.c_read.specs.declared.reading.Ending.{Ending}
use Rattle.c_read.specs.declared.reading.Ending.TheVariants as ending
use Rattle.c_read.specs.declared.reading.Step.{Step}
use Rattle.c_read.specs.declared.reading.Step.TheVariants as step
use Rattle.c_read.specs.Machines.{state_of}

-- The bytes end so, where `tree` is what was made of them.
abbrev pub HasEnding : (bytes : List ℕ) → (tree : List ItemTree) → Ending → Type 0
HasEnding bytes tree ending.Whole = HasOutcome bytes (whole tree)
HasEnding bytes tree (ending.TooDeep at) = HasOutcome bytes (too_deep at)
HasEnding bytes tree (ending.NotC at) = HasOutcome bytes (not_c at)

-- The bytes end, or one token more of `body` is read.
abbrev pub HasStep : (bytes body rest : List ℕ) → Machine → Step → Type 0
HasStep bytes body rest m (step.Ends e) = HasEnding bytes (unit_tree m.maker.unit) e
HasStep bytes body rest m (step.GoesOn behind depth) = ReadSoFar body behind.now (state_of m) depth × (depth ≤ 512) × (length behind.now < length rest)

-- Of every text that ends at this place, and that was read up to there, the machine tells how it ends.
abbrev pub EndsThere : (at : ℕ) → (old new : Machine) → Ending → Type 0
EndsThere at old new e = (body rest : List ℕ) (n : ℕ) → ReadSoFar body rest (state_of old) n → StandsAt (includes ++ body) rest [] at → HasEnding (includes ++ body) (unit_tree new.maker.unit) e

-- Of every text with this token at this place, and that was read up to there, it tells whether it ends or goes on.
abbrev pub StepsThere : (at depth : ℕ) → CToken → (tail : List ℕ) → (old new : Machine) → Step → Type 0
StepsThere at depth t tail old new s = (body rest behind : List ℕ) → ReadSoFar body rest (state_of old) depth → StandsAt (includes ++ body) rest behind at → Stands t behind tail → HasStep (includes ++ body) body rest new s

-- The same of every text of so many bytes with this rest.
abbrev pub StepsOn : (size : ℕ) → (rest : List ℕ) → (depth : ℕ) → (old new : Machine) → Step → Type 0
StepsOn size rest depth old new s = (body : List ℕ) → size ≡ length (includes ++ body) → ReadSoFar body rest (state_of old) depth → HasStep (includes ++ body) body rest new s

-- What the reader answers for bytes: the unit of their tree, or where and why they aren't read.
abbrev pub AnswersRead : (bytes : List ℕ) → Result Nodes ReadFault → Type 0
AnswersRead bytes (Ok unit) = HasOutcome bytes (whole (unit_tree unit))
AnswersRead bytes (Err (fault.TooDeep at)) = HasOutcome bytes (too_deep at)
AnswersRead bytes (Err (fault.NotC at)) = HasOutcome bytes (not_c at)
AnswersRead bytes (Err fault.Memory) = ⊤

-- The answer is a unit of this tree, unless memory was refused.
abbrev pub GivesTree : List ItemTree → Result Nodes ReadFault → Type 0
GivesTree tree (Ok unit) = unit_tree unit ≡ tree
GivesTree tree (Err fault.Memory) = ⊤
GivesTree tree (Err _) = ⊥
