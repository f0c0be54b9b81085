-- Words that are no command form call for the line on usage.
use Rattle.std.proofs.Common.{◌≡◌, ℕ, List, Option, None, IfOk, IsErr, MatchResult, Result, Ok, Err, string_bytes, refl, sym, ◌∙◌, subst}
use Rattle.wf_text.specs.declared.faults.NoMemory.{NoMemory as Wants}
use Rattle.wf_tool.specs.declared.ending.Ending.{Ending}
use Rattle.wf_tool.specs.declared.ending.Ending.TheVariants.{Usage}
use Rattle.wf_tool.specs.declared.tool.Answer.{Answer}
use Rattle.wf_tool.specs.Answer.{Asked, AskedFor, Called, CountsInputs}
use Rattle.wf_tool.specs.Lines.{usage_line}
use Rattle.wf_tool.specs.Told.{IsTold}
use Rattle.wf_tool.specs.Words.{Command, command_of}

pub usage-told : {S F : Type 0} (bytes : S → List ℕ) (asked : Asked) (faults : ℕ) (line : Result S F) (text : Answer → S) (told : (it : Answer) → bytes (text it) ≡ string_bytes it.line) (r : Result Answer Wants)
    → None ≡ command_of asked.words → IfOk line (λ it. bytes it ≡ usage_line) → MatchResult r (λ it. (it.ending ≡ Usage) × (line ≡ Ok (text it))) (λ _. IsErr line)
    → (ending : Ending) (written : List ℕ) → IsTold r ending written → Called asked faults faults ending written
usage-told bytes asked faults line text told (Err fault) none writes made ending written is = absurd is
usage-told {S} {F} bytes asked faults line text told (Ok it) none writes made ending written is =
    let L : Result S F → Type 0 = λ found. IfOk found (λ l. bytes l ≡ usage_line) in
    let spelt : bytes (text it) ≡ usage_line = subst L made.1 writes in
    let ends : ending ≡ Usage = is.0 ∙ made.0 in
    let A : Option Command → Type 0 = λ found. AskedFor asked.seen asked.held asked.failed found ending written in
    let E : Ending → Type 0 = λ e. CountsInputs faults faults e in
    (subst A none (ends, is.1 ∙ sym (told it) ∙ spelt), subst E (sym ends) refl)
