use Rattle.std.proofs.Common.{refl, length, ◌-◌}
use Rattle.std.proofs.lemmas.Result.{IfOk-weaker}
use Rattle.c_read_tokens.specs.Kinds.{token_of}
use Rattle.c_read.specs.Reading.{StepsThere, StepsOn}
use Rattle.c_read.proofs.ReadLaws.{next_ends, next_steps, next_bare, behind_within}
use Rattle.c_read.proofs.machine.Machine.next.Goals as goal

pub returns-then-is_empty-clause-step : goal.returns-then-is_empty-clause-step
returns-then-is_empty-clause-step c = next_ends c.args.whole c.gap_len.result c.args.rest.now c.split_at.result.1.now c.args.depth _ c.args.self.now c.end.new.self c.in_ok-ending.ending c.gap_len.ensures.run c.gap_len.ensures.whole c.split_at.ensures.back (behind_within c.args.whole c.gap_len.result c.args.rest.now c.split_at.result.1.now c.split_at.ensures.back c.requires.within) refl (c.is_empty.ensures.none c.if-is_empty.true) c.in_ok-ending.ensures.ending

pub returns-in-Some-clause-step : goal.returns-in-Some-clause-step
returns-in-Some-clause-step c =
    IfOk-weaker c.piece.result
    (StepsThere (c.args.whole - length c.split_at.result.1.now) c.args.depth (token_of c.in-Some.piece.kind c.in-Some.piece.text.now) c.in-Some.piece.rest.now c.args.self.now c.piece.new.self)
    (StepsOn c.args.whole c.args.rest.now c.args.depth c.args.self.now c.piece.new.self)
    (λ s there. next_steps c.args.whole c.gap_len.result c.args.rest.now c.split_at.result.1.now c.args.depth (c.args.whole - length c.split_at.result.1.now) c.args.self.now c.piece.new.self (token_of c.in-Some.piece.kind c.in-Some.piece.text.now) c.in-Some.piece.rest.now s c.gap_len.ensures.run c.gap_len.ensures.whole c.split_at.ensures.back (behind_within c.args.whole c.gap_len.result c.args.rest.now c.split_at.result.1.now c.split_at.ensures.back c.requires.within) refl c.in-Some.ensures.some there)
    c.piece.ensures.step

pub returns-in-None-clause-step : goal.returns-in-None-clause-step
returns-in-None-clause-step c = next_bare c.args.whole c.gap_len.result c.args.rest.now c.split_at.result.1.now c.args.depth _ c.args.self.now c.args.self.now c.gap_len.ensures.run c.gap_len.ensures.whole c.split_at.ensures.back (behind_within c.args.whole c.gap_len.result c.args.rest.now c.split_at.result.1.now c.split_at.ensures.back c.requires.within) refl (c.is_empty.ensures.some c.if-is_empty.false) c.in-None.ensures.none
