use Rattle.std.proofs.Common.{◌∙◌, arith}
use Rattle.wf_names_resolve.proofs.Growth.{grows_more}
use Rattle.wf_names_resolve.proofs.WordLemmas.{word_kept}
use Rattle.wf_names_nodes.proofs.declarations.resolve_named.Goals as goal

pub returns-clause-grows : goal.returns-clause-grows
returns-clause-grows c = grows_more c.args.nodes.now c.named_word.new.nodes c.resolve_fields.new.nodes c.in_ok-name.ensures.grows c.in_ok-fields.ensures.grows

pub returns-clause-below : goal.returns-clause-below
returns-clause-below c = (omega (arith, c.in_ok-name.ensures.below, c.in_ok-fields.ensures.grows.texts), c.in_ok-fields.ensures.below)

pub returns-clause-word : goal.returns-clause-word
returns-clause-word c =
    word_kept c.named_word.new.nodes c.resolve_fields.new.nodes c.in_ok-fields.ensures.grows c.in_ok-name.name c.in_ok-name.ensures.below ∙ c.in_ok-name.ensures.made
