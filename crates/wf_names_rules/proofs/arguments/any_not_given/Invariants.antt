use Rattle.std.proofs.Common.{◌≡◌, drop, map, nat_eq, not}
use Rattle.std.specs.List.{list_any}
use Rattle.wf_names_rules.proofs.arguments.any_not_given.Given as goal

abbrev pub invariant-loop-text : goal.invariant-loop-text
invariant-loop-text l =
    list_any (λ text. not (list_any (nat_eq text) (map (λ n. n.text.0) (map (λ g. g.name) l.args)))) (drop l.text-index l.wanted)
    ≡ list_any (λ text. not (list_any (nat_eq text) (map (λ n. n.text.0) (map (λ g. g.name) l.args)))) l.wanted
