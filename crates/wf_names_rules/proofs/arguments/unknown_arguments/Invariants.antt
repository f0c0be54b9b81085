use Rattle.std.proofs.Common.{◌≡◌, drop, map}
use Rattle.wf_text.specs.Precedence.{soonest}
use Rattle.wf_names_rules.specs.Declarations.{bytes_of}
use Rattle.wf_names_rules.specs.Tables.{args_at}
use Rattle.wf_names_rules.specs.Meanings.{parameters_of}
use Rattle.wf_names_rules.specs.Judged.{unknown_arguments}
use Rattle.wf_names_rules.proofs.arguments.unknown_arguments.Given as goal

abbrev pub invariant-loop-given : goal.invariant-loop-given
invariant-loop-given l =
    soonest l.found (unknown_arguments (bytes_of l.parsed.texts) (parameters_of (args_at l.tables) l.callee) (map (λ g. g.name) (drop l.given-index l.args)))
    ≡ soonest l.fn.found (unknown_arguments (bytes_of l.parsed.texts) (parameters_of (args_at l.tables) l.callee) (map (λ g. g.name) l.args))
