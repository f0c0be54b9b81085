use Rattle.std.proofs.Common.{rules, arith, ◌<◌, ◌/◌, ◌^◌, ◌%◌, ◌≡◌}
use Rattle.std.specs.Prelude.{slice_index}
use Rattle.wf_facts_exprs.proofs.SetLemmas.{first_after, first_in_word, none_in_word}
use Rattle.wf_facts_exprs.proofs.sets.FactSet.first.Goals as goal

pub returns-then-word-ne0-clause-before : goal.returns-then-word-ne0-clause-before
returns-then-word-ne0-clause-before c =
    let some : 0 < slice_index c.args.self.now.words (c.loop-i.i / 64) / 2 ^ (c.loop-i.i % 64) = omega (arith, c.if-word-ne0.true) in
    let found = first_in_word c.args.self.now.words c.loop-i.i some (search rules) in
    first_after c.args.self.now.words c.args.from c.loop-i.i _ c.loop-i.invariant.before found.before

pub returns-then-word-ne0-clause-here : goal.returns-then-word-ne0-clause-here
returns-then-word-ne0-clause-here c below =
    let some : 0 < slice_index c.args.self.now.words (c.loop-i.i / 64) / 2 ^ (c.loop-i.i % 64) = omega (arith, c.if-word-ne0.true) in
    let found = first_in_word c.args.self.now.words c.loop-i.i some (search rules) in
    found.here

pub loop-i-preserved : goal.loop-i-preserved
loop-i-preserved c =
    let none : slice_index c.args.self.now.words (c.loop-i.i / 64) / 2 ^ (c.loop-i.i % 64) ≡ 0 = omega (arith, c.if-word-ne0.false) in
    record {
      start = omega (arith, c.loop-i.invariant.start);
      before = first_after c.args.self.now.words c.args.from c.loop-i.i _ c.loop-i.invariant.before (none_in_word c.args.self.now.words c.loop-i.i none);
    }
