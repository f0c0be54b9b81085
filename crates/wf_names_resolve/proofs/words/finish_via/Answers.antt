use Rattle.std.proofs.Common.{◌∙◌}
use Rattle.wf_names_resolve.proofs.Growth.{grows_more}
use Rattle.wf_names_resolve.proofs.WordLemmas.{letters_kept, letters_more}
use Rattle.wf_names_resolve.proofs.words.finish_via.Goals as goal

pub returns-clause-grows : goal.returns-clause-grows
returns-clause-grows c = grows_more c.args.nodes.now c.named_letters.new.nodes c.named_word.new.nodes c.in_ok-given.ensures.grows c.in_ok-name.ensures.grows

pub returns-clause-below : goal.returns-clause-below
returns-clause-below c =
    (c.in_ok-name.ensures.below, letters_more c.named_letters.new.nodes c.named_word.new.nodes c.in_ok-name.ensures.grows c.in_ok-given.given c.in_ok-given.ensures.below)

pub returns-clause-given : goal.returns-clause-given
returns-clause-given c =
    let letters = rw c.as_slice.ensures at c.in_ok-given.ensures.made in
    letters_kept c.named_letters.new.nodes c.named_word.new.nodes c.in_ok-name.ensures.grows c.in_ok-given.given c.in_ok-given.ensures.below ∙ letters
