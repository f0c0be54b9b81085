use Rattle.std.proofs.Common.{◌<◌, arith}
use Rattle.std.proofs.lemmas.Bool.{lt-ltb}
use Rattle.wf_parse.specs.Machines.{state_of}
use Rattle.wf_parse.proofs.FileReading.{token_read}
use Rattle.wf_parse.proofs.machine.Machine.read_token.Goals as goal

pub returns-clause-answers : goal.returns-clause-answers
returns-clause-answers c =
    let some : 0 < c.args.most = omega (arith, c.if-most-eq0.false) in
    (some, token_read _ c.args.most c.args.token (state_of c.args.self.now) (state_of c.step.new.self) tt (lt-ltb 0 c.args.most some) some c.in_ok-step.ensures.answers)
