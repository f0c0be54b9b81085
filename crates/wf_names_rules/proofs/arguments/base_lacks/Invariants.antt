use Rattle.std.proofs.Common.{◌≡◌, ◌-◌, drop, length, map}
use Rattle.wf_base.specs.BaseTable.{row_of}
use Rattle.wf_names_rules.specs.Declarations.{bytes_of}
use Rattle.wf_names_rules.specs.Meanings.{of_base, lacks_one}
use Rattle.wf_names_rules.proofs.arguments.base_lacks.Given as goal

abbrev pub invariant-loop-arg : goal.invariant-loop-arg
invariant-loop-arg l =
    lacks_one (bytes_of l.parsed.texts) (of_base (map (λ arg. arg.0) (drop l.i (row_of l.sig).args))) (map (λ n. n.text.0) (map (λ g. g.name) l.args))
    ≡ lacks_one (bytes_of l.parsed.texts) (of_base (map (λ arg. arg.0) (row_of l.sig).args)) (map (λ n. n.text.0) (map (λ g. g.name) l.args))

abbrev pub decreases-loop-arg : goal.decreases-loop-arg
decreases-loop-arg l = length (row_of l.sig).args - l.i
