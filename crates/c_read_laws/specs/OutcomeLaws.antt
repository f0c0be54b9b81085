-- That reading C has an answer, for every list of bytes.
use Rattle.std.specs.Prelude.{◌≡◌, ◌⊎◌, ℕ, ⊤, List, Result, Ok, Err}
use Rattle.c_text.specs.CGrammar.{IsTextOf}
use Rattle.c_text.specs.CNodes.{Nodes, unit_tree}
use Rattle.c_text.specs.CTree.{ItemTree}
use Rattle.c_read_grammar.specs.Outcomes.{Outcome, whole, too_deep, not_c, HasOutcome}
use Rattle.c_read.specs.declared.faults.ReadFault.{ReadFault}
use Rattle.c_read.specs.declared.faults.ReadFault.TheVariants as fault
use Rattle.c_read.specs.Reading.{AnswersRead}

-- The bytes have an outcome, and no other one.
abbrev pub HasOneOutcome : List ℕ → Type 0
HasOneOutcome bytes = (outcome : Outcome) × HasOutcome bytes outcome × ((other : Outcome) → HasOutcome bytes other → other ≡ outcome)

abbrev pub BytesAreReadOrRefused : Type 0
BytesAreReadOrRefused = (bytes : List ℕ) → HasOneOutcome bytes

-- The answer is this outcome, unless memory was refused.
abbrev pub TellsOutcome : Outcome → Result Nodes ReadFault → Type 0
TellsOutcome outcome (Ok unit) = outcome ≡ whole (unit_tree unit)
TellsOutcome outcome (Err (fault.TooDeep at)) = outcome ≡ too_deep at
TellsOutcome outcome (Err (fault.NotC at)) = outcome ≡ not_c at
TellsOutcome outcome (Err fault.Memory) = ⊤

-- So is what the reader answers for bytes with an outcome.
abbrev pub AnAnswerIsTheOutcome : Type 0
AnAnswerIsTheOutcome = (bytes : List ℕ) (outcome : Outcome) (answer : Result Nodes ReadFault) → HasOutcome bytes outcome → AnswersRead bytes answer → TellsOutcome outcome answer

-- A text of a tree is read whole, or a bracket of it opens where 512 are open.
abbrev pub IsWholeOrTooDeep : List ℕ → List ItemTree → Type 0
IsWholeOrTooDeep bytes tree = HasOutcome bytes (whole tree) ⊎ ((place : ℕ) × HasOutcome bytes (too_deep place))

abbrev pub TextsAreWholeOrTooDeep : Type 0
TextsAreWholeOrTooDeep = (bytes : List ℕ) (tree : List ItemTree) → IsTextOf bytes tree → IsWholeOrTooDeep bytes tree
