use Rattle.std.proofs.Common.{◌∙◌, arith}
use Rattle.wf_names_resolve.proofs.Growth.{grows_more}
use Rattle.wf_names_resolve.proofs.WordLemmas.{word_kept}
use Rattle.wf_names_nodes.proofs.variables.resolve_variable.Goals as goal

pub returns-clause-grows : goal.returns-clause-grows
returns-clause-grows c = grows_more c.args.nodes.now c.named_word.new.nodes c.resolve_type.new.nodes c.in_ok-name.ensures.grows c.in_ok-of.ensures.grows

pub returns-clause-below : goal.returns-clause-below
returns-clause-below c = (omega (arith, c.in_ok-name.ensures.below, c.in_ok-of.ensures.grows.texts), c.in_ok-of.ensures.below)

pub returns-clause-made : goal.returns-clause-made
returns-clause-made c =
    let word = word_kept c.named_word.new.nodes c.resolve_type.new.nodes c.in_ok-of.ensures.grows c.in_ok-name.name c.in_ok-name.ensures.below ∙ c.in_ok-name.ensures.made in
    let type = c.in_ok-of.ensures.made in
    cc (word, type)
