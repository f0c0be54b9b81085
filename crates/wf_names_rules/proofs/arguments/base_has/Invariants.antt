use Rattle.std.proofs.Common.{◌≡◌, ◌-◌, drop, length, map}
use Rattle.wf_base.specs.BaseTable.{row_of}
use Rattle.wf_names_rules.specs.Declarations.{bytes_of}
use Rattle.wf_names_rules.specs.Meanings.{of_base, is_parameter}
use Rattle.wf_names_rules.proofs.arguments.base_has.Given as goal

abbrev pub invariant-loop-arg : goal.invariant-loop-arg
invariant-loop-arg l =
    is_parameter (bytes_of l.parsed.texts) (of_base (map (λ arg. arg.0) (drop l.i (row_of l.sig).args))) l.text.0
    ≡ is_parameter (bytes_of l.parsed.texts) (of_base (map (λ arg. arg.0) (row_of l.sig).args)) l.text.0

abbrev pub decreases-loop-arg : goal.decreases-loop-arg
decreases-loop-arg l = length (row_of l.sig).args - l.i
