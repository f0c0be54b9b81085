use Rattle.std.proofs.Common.{◌∙◌, sym, ap}
use Rattle.wf_ast.specs.ParsedTrees.{expr_trees, given_at}
use Rattle.wf_names_resolve.specs.Standing.{standing_here}
use Rattle.wf_names_resolve.specs.Resolved.{resolved_given}
use Rattle.wf_names_resolve.specs.Letters.{letters_by}
use Rattle.wf_names_resolve.proofs.Growth.{grows_more}
use Rattle.wf_names_resolve.proofs.WordLemmas.{letters_by_of}
use Rattle.wf_names_resolve.proofs.words.resolve_named.Goals as goal

pub returns-clause-grows : goal.returns-clause-grows
returns-clause-grows c = grows_more c.args.nodes.now c.resolve_given.new.nodes c.finish_via.new.nodes c.in_ok-given.ensures.grows c.in_ok-via.ensures.grows

pub returns-clause-made : goal.returns-clause-made
returns-clause-made c =
    let k = standing_here c.args.here.now in
    let es = expr_trees c.args.here.now.parsed.now.exprs in
    let gs = given_at es c.args.via.now.given in
    let values = rw c.as_slice.ensures at c.in_ok-given.ensures.made in
    let letters = c.in_ok-via.ensures.given ∙ ap (letters_by k.bytes) values ∙ sym (letters_by_of k (resolved_given k gs)) in
    let word = c.in_ok-via.ensures.word in
    cc (word, letters)
