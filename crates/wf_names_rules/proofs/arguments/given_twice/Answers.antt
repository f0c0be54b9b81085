use Rattle.std.proofs.Common.{map, sym, ◌∙◌}
use Rattle.wf_names_rules.proofs.ApartLemmas.{rise-none}
use Rattle.wf_names_rules.proofs.arguments.given_twice.Goals as goal

pub returns-then-given_rise : goal.returns-then-given_rise
returns-then-given_rise c = sym (rise-none c.args.found.now (map (λ g. g.name) c.args.args.now) (sym c.given_rise.ensures ∙ c.if-given_rise.true))
