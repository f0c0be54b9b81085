-- The parser's machine, step by step against the machine of the grammar.
use Rattle.std.specs.Prelude.{◌≡◌, ◌+◌, ◌*◌, ℕ, Bool, true, false, ⊤, Result, Ok, Err, List, [], ◌∷◌, ◌++◌, length}
use Rattle.wf_parse_grammar.specs.declared.builds.Build.{Build}
use Rattle.wf_parse_grammar.specs.declared.builds.Build.TheVariants.{Take, Begin, Enter, Pass, Stop}
use Rattle.wf_parse_grammar.specs.declared.symbols.Action.{Action}
use Rattle.wf_parse_grammar.specs.declared.symbols.Sym.{Sym}
use Rattle.wf_parse_grammar.specs.declared.symbols.Sym.TheVariants as syms
use Rattle.wf_parse_grammar.specs.declared.symbols.Want.{Want}
use Rattle.wf_parse_grammar.specs.declared.symbols.Want.TheVariants.{Read, Make}
use Rattle.wf_parse_grammar.specs.declared.tokens.Token.{Token}
use Rattle.wf_parse_grammar.specs.Building as building
use Rattle.wf_parse_grammar.specs.Building.{Ending, Built, step, after, ends, skipped}
use Rattle.wf_parse_grammar.specs.Machine.{owes}
use Rattle.wf_parse_grammar.specs.Values.{Made, perform}
use Rattle.wf_parse.specs.declared.machine.Machine.{Machine}
use Rattle.wf_parse.specs.declared.machine.StepFault.{StepFault}
use Rattle.wf_parse.specs.declared.machine.StepFault.TheVariants.{Refused, Memory}
use Rattle.wf_ast.specs.ParsedParts.{Parsed}
use Rattle.wf_parse_nodes.specs.Makers.{made, nodes, KeepsTexts}

-- Where the machine stands: the number of statements that the method in hand may still begin, what is wanted, and what
-- is made.
pub record State : Type 0 where
  pub room : ℕ
  pub wants : List Want
  pub made : Made

abbrev pub state_of : Machine → State
state_of m = record { room = m.room; wants = m.wants; made = made m.maker }

-- Before a file's first token.
abbrev pub file_start : Made → State
file_start made_before = record { room = 0; wants = Read syms.File ∷ []; made = made_before }

-- A measure of the nodes and of what is wanted, to which one token adds little.
abbrev pub size : Machine → ℕ
size m = nodes m.maker + 2 * length m.wants

-- Whether what is wanted owes a closing bracket.
abbrev pub want_owes : Want → Bool
want_owes (Read s) = owes s
want_owes (Make a) = false

-- What comes after a token, where an action on top is performed first: so it may be performed with the token that wants it.
abbrev pub MakesFirst : (ℕ → List Want → Made → Ending) → Type 0
MakesFirst next = (room : ℕ) (a : Action) (k : List Want) (made : Made) → next room (Make a ∷ k) made ≡ next room k (perform a made)

-- These things are wanted on top of what was, and some of the actions before them are performed.
abbrev pub Wanted : List Want → (old new : State) → Type 0
Wanted xs old new = (next : ℕ → List Want → Made → Ending) → MakesFirst next → (room : ℕ) → next room (xs ++ old.wants) old.made ≡ next room new.wants new.made

-- How much a token puts on the stack.
abbrev pub wanted : Build → List Want
wanted (Take xs) = xs
wanted (Begin xs) = xs
wanted (Enter xs) = xs
wanted Pass = []
wanted (Stop r) = []

-- A symbol on top, and what the table says to the token: it is taken (true), or left to what stands below (false), or
-- refused.
abbrev pub AnswersBuild : (limited : Bool) → Sym → Token → Build → (old new : State) → Result Bool StepFault → Type 0
AnswersBuild limited s t b old new (Ok true) = (left : ℕ) (next : ℕ → List Want → Made → Ending) (passed : Ending) → MakesFirst next → after limited old.room b (Read s ∷ old.wants) old.wants old.made t.kind left next passed ≡ next new.room new.wants new.made
AnswersBuild limited s t b old new (Ok false) = (b ≡ Pass) × (new ≡ record { room = old.room; wants = old.wants; made = skipped s old.made })
AnswersBuild limited s t b old new (Err (Refused rule)) = (left : ℕ) (next : ℕ → List Want → Made → Ending) (passed : Ending) → after limited old.room b (Read s ∷ old.wants) old.wants old.made t.kind left next passed ≡ building.Refused rule left
AnswersBuild limited s t b old new (Err Memory) = ⊤

-- Name and texts stay where a token breaks a rule.
abbrev pub KeepsAt : StepFault → (old new : Parsed) → Type 0
KeepsAt (Refused rule) old new = KeepsTexts old new
KeepsAt Memory old new = ⊤

-- One token on the whole stack, for what comes after it.
abbrev pub AnswersToken : (limited : Bool) → Token → (old new : State) → Result (Unit {0}) StepFault → Type 0
AnswersToken limited t old new (Ok _) = (left : ℕ) (next : ℕ → List Want → Made → Ending) → MakesFirst next → step limited old.room old.wants old.made t left next ≡ next new.room new.wants new.made
AnswersToken limited t old new (Err (Refused rule)) = (left : ℕ) (next : ℕ → List Want → Made → Ending) → step limited old.room old.wants old.made t left next ≡ building.Refused rule left
AnswersToken limited t old new (Err Memory) = ⊤

-- The token does to what stood at the beginning what it does to what stands now.
abbrev pub GoesOn : (limited : Bool) → Token → (old now : State) → Type 0
GoesOn limited t old now = (left : ℕ) (next : ℕ → List Want → Made → Ending) → step limited old.room old.wants old.made t left next ≡ step limited now.room now.wants now.made t left next

-- The file's end on the whole stack.
abbrev pub AnswersEnd : (old new : State) → Result (Unit {0}) StepFault → Type 0
AnswersEnd old new (Ok _) = ends old.wants old.made ≡ Built new.made
AnswersEnd old new (Err (Refused rule)) = ends old.wants old.made ≡ building.Refused rule 0
AnswersEnd old new (Err Memory) = ⊤
