-- The machine's run of a file within the number of tokens, and what the parser answers to it step by step.
use Rattle.std.specs.Prelude.{◌≡◌, ◌<◌, ◌-◌, ℕ, zero, suc, true, false, ⊤, Result, Ok, Err, List, [], ◌∷◌, ◌++◌, length}
use Rattle.wf_text.specs.declared.faults.PhaseFault.{PhaseFault}
use Rattle.wf_text.specs.declared.faults.PhaseFault.TheVariants as phase
use Rattle.wf_text.specs.declared.place.Place.{Place}
use Rattle.wf_text.specs.declared.rules.Rule.{Rule}
use Rattle.wf_text.specs.declared.rules.Rule.TheVariants.{L3}
use Rattle.wf_ast.specs.ParsedParts.{Parsed}
use Rattle.wf_ast.specs.ParsedTree.{DeclTree}
use Rattle.wf_ast.specs.ReadPackage.{decls_of}
use Rattle.wf_parse_grammar.specs.declared.symbols.Sym.TheVariants.{File}
use Rattle.wf_parse_grammar.specs.declared.symbols.Want.{Want}
use Rattle.wf_parse_grammar.specs.declared.symbols.Want.TheVariants.{Read}
use Rattle.wf_parse_grammar.specs.declared.tokens.Token.{Token}
use Rattle.wf_parse_grammar.specs.Building.{Ending, Built, Refused, step, ends}
use Rattle.wf_parse_grammar.specs.Values.{Made}
use Rattle.wf_parse.specs.declared.machine.StepFault.{StepFault}
use Rattle.wf_parse.specs.declared.machine.StepFault.TheVariants as machine
use Rattle.wf_parse.specs.Machines.{State}
use Rattle.wf_parse.specs.Parsing.{ReadsFile, RefusesFile}

-- The run of the machine within `most` tokens. The token that passes them is read without the limits of brackets and
-- statements: where it can stand, the number of tokens refuses it.
abbrev pub reading : (most room : ℕ) → List Token → List Want → Made → Ending
reading most room [] k made = ends k made
reading zero room (t ∷ ts) k made = step false room k made t (suc (length ts)) (λ _ _ _. Refused L3 (suc (length ts)))
reading (suc most) room (t ∷ ts) k made = step true room k made t (suc (length ts)) (λ room_left wanted made_then. reading most room_left ts wanted made_then)

-- A whole file, after these declarations.
abbrev pub read_file : (most : ℕ) → List Token → List DeclTree → Ending
read_file most tokens before = reading most 0 tokens (Read File ∷ []) (record { vals = []; decls = before })

-- What the machine answers to one token where `most` may stand in the package, itself counted; whatever tokens follow.
abbrev pub AnswersOne : (most : ℕ) → Token → (old new : State) → Result (Unit {0}) StepFault → Type 0
AnswersOne most t old new (Ok _) = (0 < most) × ((ts : List Token) → reading most old.room (t ∷ ts) old.wants old.made ≡ reading (most - 1) new.room ts new.wants new.made)
AnswersOne most t old new (Err (machine.Refused rule)) = (ts : List Token) → reading most old.room (t ∷ ts) old.wants old.made ≡ Refused rule (suc (length ts))
AnswersOne most t old new (Err machine.Memory) = ⊤

-- What it answers to the file's end, which is at this place.
abbrev pub AnswersFileEnd : Place → (old new : State) → Result (Unit {0}) PhaseFault → Type 0
AnswersFileEnd at old new (Ok _) = ends old.wants old.made ≡ Built new.made
AnswersFileEnd at old new (Err (phase.Refused refusal)) = (rule : Rule) × (ends old.wants old.made ≡ Refused rule 0) × (refusal ≡ record { rule = rule; at = at })
AnswersFileEnd at old new (Err phase.Memory) = ⊤

-- One file more is read: the package after it has the file's texts and declarations after its own, and `left` tokens
-- are left.
pub record ReadsOne (number most : ℕ) (bytes : List ℕ) (old new : Parsed) (left : ℕ) : Type 0 where
  pub named : new.name ≡ old.name
  pub tokens : List Token
  pub trees : List DeclTree
  pub read : ReadsFile number most old.texts bytes new.texts tokens trees
  pub decls_are : decls_of new ≡ decls_of old ++ trees
  pub left_is : left ≡ most - length tokens

abbrev pub AnswersBytes : (number most : ℕ) → List ℕ → (old new : Parsed) → Result ℕ PhaseFault → Type 0
AnswersBytes number most bytes old new (Ok left) = ReadsOne number most bytes old new left
AnswersBytes number most bytes old new (Err (phase.Refused refusal)) = RefusesFile number most old.texts bytes refusal
AnswersBytes number most bytes old new (Err phase.Memory) = ⊤
