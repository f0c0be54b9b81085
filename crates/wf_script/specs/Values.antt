-- What the arguments of a call answer.
use Rattle.std.specs.Prelude.{◌≡◌, ◌++◌, List, Option, Result, Ok, Err}
use Rattle.wf_bufs.specs.declared.calls.Arg.{Arg}
use Rattle.wf_bufs.specs.SurfaceViews.{arg_kind_of}
use Rattle.wf_script_rules.specs.declared.rules.XRule.{XRule}
use Rattle.wf_script_rules.specs.Values.{ArgWord as Word}
use Rattle.wf_script.specs.declared.values.ArgWord.{ArgWord}

abbrev pub word_of_arg : ArgWord → Word
word_of_arg at = record { number = at.number; kind = arg_kind_of at.kind; text = at.text.now }

-- The arguments given then are what the reading gives, or it is refused.
abbrev pub GivenBy : Result (Unit {0}) XRule → List (Option Arg) → Result (List (Option Arg)) XRule → Type 0
GivenBy (Ok _) given read = read ≡ Ok given
GivenBy (Err rule) given read = read ≡ Err rule

-- These arguments before those that a reading gives.
abbrev pub with_front : List Arg → Result (List Arg) XRule → Result (List Arg) XRule
with_front front (Ok args) = Ok (front ++ args)
with_front front (Err rule) = Err rule
