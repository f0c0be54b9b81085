use Rattle.std.proofs.Common.{◌≡◌, ◌++◌, ◌-◌, drop, length, map}
use Rattle.wf_base.specs.BaseTable.{row_of}
use Rattle.wf_names_rules.specs.Declarations.{bytes_of}
use Rattle.wf_names_resolve.specs.Ordered.{values_spelt}
use Rattle.wf_names_resolve.proofs.arguments.base_args.Given as goal

abbrev pub invariant-loop-arg : goal.invariant-loop-arg
invariant-loop-arg l =
    l.values ++ values_spelt (bytes_of l.parsed.texts) l.given (map (λ arg. arg.0) (drop l.i (row_of l.sig).args))
    ≡ values_spelt (bytes_of l.parsed.texts) l.given (map (λ arg. arg.0) (row_of l.sig).args)

abbrev pub decreases-loop-arg : goal.decreases-loop-arg
decreases-loop-arg l = length (row_of l.sig).args - l.i
