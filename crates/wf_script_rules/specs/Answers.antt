-- What calls answer for a reading: what it gives, or its refusal, unless memory was refused.
use Rattle.std.specs.Prelude.{◌≡◌, ⊤, ℕ, List, Result, Ok, Err}
use Rattle.hex.specs.declared.error.FromHexError.{FromHexError}
use Rattle.hex.specs.declared.error.FromHexError.TheVariants.{OutOfMemory}
use Rattle.wf_script_rules.specs.declared.rules.XRule.{XRule}
use Rattle.wf_script_rules.specs.declared.rules.XRule.TheVariants.{X3}
use Rattle.wf_script_rules.specs.declared.faults.LineFault.{LineFault}
use Rattle.wf_script_rules.specs.declared.faults.LineFault.TheVariants.{Refused, Memory}

abbrev pub Fails : {X : Type 0} → LineFault → Result X XRule → Type 0
Fails (Refused rule) read = read ≡ Err rule
Fails Memory read = ⊤

-- What it is for a line that its digits spell no bytes, or that memory for these was refused.
abbrev pub decoding_fault : FromHexError → LineFault
decoding_fault OutOfMemory = Memory
decoding_fault _ = Refused X3

-- The answer, seen by `view`, is what the reading gives.
abbrev pub Gives : {X Y : Type 0} → (X → Y) → Result X LineFault → Result Y XRule → Type 0
Gives view (Ok x) read = read ≡ Ok (view x)
Gives view (Err fault) read = Fails fault read

-- The answer, seen by `view`, and the words that are left are what the reading gives.
abbrev pub GivesBefore : {X Y : Type 0} → (X → Y) → Result X XRule → List (List ℕ) → Result (Y × List (List ℕ)) XRule → Type 0
GivesBefore view (Ok x) left read = read ≡ Ok (view x, left)
GivesBefore view (Err rule) left read = read ≡ Err rule

-- The answer, seen by `view`, is what a reading that takes no memory gives.
abbrev pub Answers : {X Y : Type 0} → (X → Y) → Result X XRule → Result Y XRule → Type 0
Answers view (Ok x) read = read ≡ Ok (view x)
Answers view (Err rule) read = read ≡ Err rule
