-- What the rules of names leave true of a call.
use Rattle.std.specs.Prelude.{◌≡◌, ℕ, Bool, true, false, Some, slice_get}
use Rattle.wf_text.specs.declared.place.Place.{Place}
use Rattle.wf_ast.specs.declared.parsed.Name.{Name}
use Rattle.wf_ast.specs.ParsedTree.{CallTree}
use Rattle.wf_names_rules.specs.declared.callees.Callee.{Callee}
use Rattle.wf_names_rules.specs.declared.callees.Callee.TheVariants as callees
use Rattle.wf_names_rules.specs.Declarations.{Declared, text_of}
use Rattle.wf_names_rules.specs.Uses.{Scope}
use Rattle.wf_names_rules.specs.Meanings.{GivenValue, Parameters, known_at, call_args, callee_of, parameters_of, is_parameter, lacks_one}
use Rattle.wf_names_rules.specs.NameRules.{IsRepeated, IsPassedTwice, given_names, given_texts}

-- A method of the package that may be called there, or one of the language.
abbrev pub is_open : Callee → Bool
is_open (callees.Own m) = true
is_open (callees.Base sig) = true
is_open _ = false

abbrev pub call_parameters : Declared → Scope → CallTree → Parameters
call_parameters d scope c = parameters_of (known_at d scope).args (callee_of (known_at d scope) c)

-- The method is there and may be called, every argument that is given is one of its arguments and is given once, each of
-- them is given, and no reader or writer is passed twice.
pub record Fits (d : Declared) (scope : Scope) (c : CallTree) : Type 0 where
  pub open_here : is_open (callee_of (known_at d scope) c) ≡ true
  pub once : (later : Name) → IsRepeated (given_names c) later → ⊥
  pub apart : (at : Place) → IsPassedTwice d scope c at → ⊥
  pub wanted : (i : ℕ) (given : GivenValue) → slice_get (call_args c) i ≡ Some given → is_parameter (text_of d) (call_parameters d scope c) given.name.text.0 ≡ true
  pub whole : lacks_one (text_of d) (call_parameters d scope c) (given_texts c) ≡ false
