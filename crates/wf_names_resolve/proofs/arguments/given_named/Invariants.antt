use Rattle.std.proofs.Common.{◌≡◌, drop}
use Rattle.std.specs.List.{find}
use Rattle.wf_names_rules.specs.Declarations.{is_spelt}
use Rattle.wf_names_resolve.proofs.arguments.given_named.Given as goal

abbrev pub invariant-loop-one : goal.invariant-loop-one
invariant-loop-one l = find (λ g. is_spelt l.text g.name) (drop l.one-index l.given) ≡ find (λ g. is_spelt l.text g.name) l.given
