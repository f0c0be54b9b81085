-- What the init of a receiver gives.
use Rattle.std.proofs.Common.{◌≡◌, ℕ, List, [], ◌∷◌, length, Option, None, sym, ap, ◌∙◌}
use Rattle.turns.specs.Run.{Outcome as RunOutcome, Lost}
use Rattle.wf_text.specs.Surface.{PublicStruct}
use Rattle.wf_bufs.specs.EngineLaw.{Gives}
use Rattle.c_meaning.specs.declared.values.CValue.{CValue}
use Rattle.c_meaning.specs.CMemory.{Memory}
use Rattle.c_meaning.specs.CStep.{Returned}
use Rattle.c_meaning.specs.CCall.{Program, host_call}
use Rattle.c_meaning.specs.CRun.{Loaded, initialize_name, response, init_ended, init_of}
use Rattle.c_step_exprs.specs.Resolving.{function_number}
use Rattle.c_step_text.specs.Acting.{meaning_by}
use Rattle.c_step_text.specs.Numbered.{meaning_at}
use Rattle.c_step_text.proofs.Numbers.{call_numbered}
use Rattle.c_step_engine.specs.Engines.{given}

-- No function has the name.
pub no_function : (p : Program) (name : List ℕ) (n : ℕ) (values : List CValue) (m : Memory) → None ≡ function_number p.functions name → host_call p name n values m ≡ Lost
no_function p name n values m e = call_numbered p p.functions name n values m ∙ ap (λ (o : Option ℕ). meaning_by (meaning_at p p.functions) o n values m) (sym e)

module _ (it : Loaded) (m : Memory) (s : PublicStruct) (receiver : CValue) (n : ℕ) where
  abbrev pub gives : RunOutcome Returned → Gives Memory
  gives o = given it.surface (λ x. x) (response (init_ended it (length m)) o)

  pub init_given : (o : RunOutcome Returned) → host_call it.program (initialize_name it.surface s) n (receiver ∷ []) m ≡ o → given it.surface (λ x. x) (init_of it m s receiver n) ≡ gives o
  init_given o e = ap gives e
