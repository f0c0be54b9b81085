use Rattle.std.proofs.Common.{arith}
use Rattle.wf_parse.proofs.Lexed.{passed_more, passed_over, passed_stuck}
use Rattle.wf_parse.proofs.lexing.Tokens.pass_over.Goals as goal

pub loop-preserved : goal.loop-preserved
loop-preserved c =
    let answers = rw c.in-Ok-Some.field-0-is at c.in-Ok-Some.ensures.answers in
    let falls = rw c.in-Ok-Some.field-0-is at c.in-Ok-Some.ensures.falls in
    let grows = rw c.in-Ok-Some.field-0-is at c.in-Ok-Some.ensures.room in
    let room = c.loop.invariant.room in
    record {
      passed = passed_more c.args.self.now c.loop.self c.next.new.self c.args.parsed.now.texts c.loop.parsed.texts c.next.new.parsed.texts c.in-Ok-Some.field-0-0 c.loop.invariant.passed answers;
      room = omega (arith, room, falls, grows);
    }

pub returns-in-Ok-None : goal.returns-in-Ok-None
returns-in-Ok-None c =
    let over = rw c.in-Ok-None.field-0-is at c.in-Ok-None.ensures.answers in
    passed_over c.args.self.now c.loop.self c.args.parsed.now.texts c.loop.parsed.texts c.next.new.parsed.texts c.loop.invariant.passed (over.0, over.2)

pub returns-in-Err-Refused : goal.returns-in-Err-Refused
returns-in-Err-Refused c = passed_stuck c.args.self.now c.loop.self c.args.parsed.now.texts c.loop.parsed.texts c.next.new.parsed.texts c.in-Err-Refused.field-0-0 c.loop.invariant.passed (rw c.in-Err-Refused.field-0-is at c.in-Err-Refused.ensures.answers)
