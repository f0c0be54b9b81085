use Rattle.std.proofs.Common.{arith}
use Rattle.std.proofs.lemmas.List.{drop_all}
use Rattle.wf_names_rules.specs.Declarations.{bytes_of}
use Rattle.wf_names_resolve.proofs.WordLemmas.{letters_start, letter_made, letters_made}
use Rattle.wf_names_resolve.proofs.words.named_letters.Goals as goal

pub loop-one-init : goal.loop-one-init
loop-one-init c = letters_start (bytes_of c.args.parsed.now.texts) c.args.nodes.now c.args.given.now c.new-made.result c.new-made.ensures

pub loop-one-preserved : goal.loop-one-preserved
loop-one-preserved c =
    rw c.in_ok-push.ensures.ok (letter_made (bytes_of c.args.parsed.now.texts) c.args.nodes.now c.loop-one.nodes c.named_word.new.nodes c.loop-one.one-index c.args.given.now c.loop-one.made _ c.in_ok-name.name c.loop-one-test.true c.requires c.loop-one.invariant c.in_ok-name.ensures.grows c.in_ok-name.ensures.below c.in_ok-name.ensures.made)

pub returns-clause-grows : goal.returns-clause-grows
returns-clause-grows c = c.loop-one.invariant.grows

pub returns-clause-below : goal.returns-clause-below
returns-clause-below c = c.loop-one.invariant.below

pub returns-clause-made : goal.returns-clause-made
returns-clause-made c =
    letters_made (bytes_of c.args.parsed.now.texts) c.args.nodes.now c.loop-one.nodes c.loop-one.nodes c.loop-one.one-index c.args.given.now c.loop-one.made (drop_all c.loop-one.one-index c.args.given.now (omega (arith, c.loop-one-test.false))) c.loop-one.invariant
