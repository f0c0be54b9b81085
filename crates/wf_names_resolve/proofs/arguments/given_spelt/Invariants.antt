use Rattle.std.proofs.Common.{◌≡◌, drop, bytes_eq}
use Rattle.std.specs.List.{find}
use Rattle.wf_names_rules.specs.Declarations.{bytes_of}
use Rattle.wf_names_resolve.proofs.arguments.given_spelt.Given as goal

abbrev pub invariant-loop-one : goal.invariant-loop-one
invariant-loop-one l =
    find (λ g. bytes_eq l.name (bytes_of l.parsed.texts g.name.text.0)) (drop l.one-index l.given) ≡ find (λ g. bytes_eq l.name (bytes_of l.parsed.texts g.name.text.0)) l.given
