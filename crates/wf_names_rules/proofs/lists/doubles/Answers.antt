use Rattle.std.proofs.Common.{sym, ◌∙◌}
use Rattle.wf_names_rules.proofs.ApartLemmas.{apart-none}
use Rattle.wf_names_rules.proofs.lists.doubles.Goals as goal

pub returns-then-are_plainly_apart : goal.returns-then-are_plainly_apart
returns-then-are_plainly_apart c = sym (apart-none c.args.found.now c.args.names.now (sym c.are_plainly_apart.ensures ∙ c.if-are_plainly_apart.true))
