use Rattle.std.proofs.Common.{◌∙◌, refl, arith}
use Rattle.wf_names_resolve.proofs.Growth.{grows_more}
use Rattle.wf_names_resolve.proofs.WordLemmas.{word_kept}
use Rattle.wf_names_nodes.proofs.DeclaringLemmas.{variables_kept, variables_below, method_same}
use Rattle.wf_names_nodes.proofs.declarations.resolve_method.Goals as goal

pub returns-clause-grows : goal.returns-clause-grows
returns-clause-grows c = grows_more c.args.nodes.now c.resolve_named.new.nodes c.resolve_behind.new.nodes c.in_ok-name.ensures.grows c.in_ok-gives.ensures.grows

pub returns-clause-below : goal.returns-clause-below
returns-clause-below c =
    let g = c.in_ok-gives.ensures.grows in
    let args = variables_below c.resolve_named.new.nodes c.resolve_behind.new.nodes g c.in_ok-name.args c.in_ok-name.ensures.below.1 in
    (omega (arith, c.in_ok-name.ensures.below.0, g.texts), args, c.in_ok-gives.ensures.below.1, c.in_ok-gives.ensures.below.0, c.in_ok-gives.ensures.below.2)

pub returns-clause-made : goal.returns-clause-made
returns-clause-made c =
    let g = c.in_ok-gives.ensures.grows in
    let word = word_kept c.resolve_named.new.nodes c.resolve_behind.new.nodes g c.in_ok-name.name c.in_ok-name.ensures.below.0 ∙ c.in_ok-name.ensures.word in
    let args = variables_kept c.resolve_named.new.nodes c.resolve_behind.new.nodes g c.in_ok-name.args c.in_ok-name.ensures.below.1 ∙ c.in_ok-name.ensures.fields in
    let gives = c.in_ok-gives.ensures.gives in
    let locals = c.in_ok-gives.ensures.locals in
    let body = c.in_ok-gives.ensures.body in
    let owner = c.owned_by.ensures in
    let mark = c.mark.ensures in
    method_same _ _ word owner refl mark args locals gives body
