use Rattle.std.proofs.Common.{◌≡◌, bytes_eq, drop, map, slice_get}
use Rattle.std.specs.List.{list_any}
use Rattle.wf_names_rules.specs.Declarations.{bytes_in}
use Rattle.wf_names_rules.proofs.arguments.gives_bytes.Given as goal

abbrev pub invariant-loop-given : goal.invariant-loop-given
invariant-loop-given l =
    list_any (λ text. bytes_eq l.wanted (bytes_in (slice_get l.parsed.texts text))) (map (λ n. n.text.0) (map (λ g. g.name) (drop l.given-index l.args)))
    ≡ list_any (λ text. bytes_eq l.wanted (bytes_in (slice_get l.parsed.texts text))) (map (λ n. n.text.0) (map (λ g. g.name) l.args))
