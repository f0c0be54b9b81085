use Rattle.std.proofs.Common.{◌≡◌, ◌++◌, drop}
use Rattle.wf_names_resolve.specs.Ordered.{values_named}
use Rattle.wf_names_resolve.proofs.arguments.named_args.Given as goal

abbrev pub invariant-loop-text : goal.invariant-loop-text
invariant-loop-text l = l.values ++ values_named l.given (drop l.text-index l.wanted) ≡ values_named l.given l.wanted
