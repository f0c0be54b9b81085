use Rattle.std.proofs.Common.{sym, arith}
use Rattle.wf_script_rules.specs.Text.{is_blank}
use Rattle.wf_script_rules.proofs.Places.{place, no_place}
use Rattle.wf_script_rules.proofs.text.word_len.Goals as goal

pub returns-in-Some : goal.returns-in-Some
returns-in-Some c =
    let found = place is_blank c.args.text.now c.in-Some.k (sym c.in-Some.ensures) in
    record { place = sym found.first; within = omega (arith, found.within) }

pub returns-in-None-clause-place : goal.returns-in-None-clause-place
returns-in-None-clause-place c = sym (no_place is_blank c.args.text.now (sym c.in-None.ensures))
