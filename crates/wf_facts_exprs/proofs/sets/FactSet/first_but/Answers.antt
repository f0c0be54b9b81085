use Rattle.std.proofs.Common.{rules, arith, ◌<◌, ◌-◌, ◌/◌, ◌^◌, ◌%◌, ◌≡◌}
use Rattle.std.specs.Prelude.{slice_index, bit_and}
use Rattle.wf_facts_exprs.proofs.JoinLemmas.{first_after_both, first_in_both, none_in_both}
use Rattle.wf_facts_exprs.proofs.sets.FactSet.first_but.Goals as goal

pub returns-then-word-ne0-clause-before : goal.returns-then-word-ne0-clause-before
returns-then-word-ne0-clause-before c =
    let some : 0 < bit_and (slice_index c.args.self.now.words (c.loop-i.i / 64)) (18446744073709551615 - slice_index c.args.gone.now.words (c.loop-i.i / 64)) / 2 ^ (c.loop-i.i % 64) = omega (arith, c.if-word-ne0.true) in
    let found = first_in_both c.args.self.now.words c.args.gone.now.words (search rules) (search rules) (λ j. search rules) c.loop-i.i (omega (arith, c.requires)) some (search rules) in
    first_after_both c.args.self.now.words c.args.gone.now.words c.args.from c.loop-i.i _ c.loop-i.invariant.before found.before

pub returns-then-word-ne0-clause-here : goal.returns-then-word-ne0-clause-here
returns-then-word-ne0-clause-here c below =
    let some : 0 < bit_and (slice_index c.args.self.now.words (c.loop-i.i / 64)) (18446744073709551615 - slice_index c.args.gone.now.words (c.loop-i.i / 64)) / 2 ^ (c.loop-i.i % 64) = omega (arith, c.if-word-ne0.true) in
    let found = first_in_both c.args.self.now.words c.args.gone.now.words (search rules) (search rules) (λ j. search rules) c.loop-i.i (omega (arith, c.requires)) some (search rules) in
    found.here

pub loop-i-preserved : goal.loop-i-preserved
loop-i-preserved c =
    let none : bit_and (slice_index c.args.self.now.words (c.loop-i.i / 64)) (18446744073709551615 - slice_index c.args.gone.now.words (c.loop-i.i / 64)) / 2 ^ (c.loop-i.i % 64) ≡ 0 = omega (arith, c.if-word-ne0.false) in
    record {
      start = omega (arith, c.loop-i.invariant.start);
      before = first_after_both c.args.self.now.words c.args.gone.now.words c.args.from c.loop-i.i _ c.loop-i.invariant.before
          (none_in_both c.args.self.now.words c.args.gone.now.words (search rules) (search rules) (λ j. search rules) c.loop-i.i (omega (arith, c.requires)) none);
    }
