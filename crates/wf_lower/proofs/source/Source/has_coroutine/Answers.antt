use Rattle.std.proofs.Common.{false}
use Rattle.wf_lower.proofs.CoroutineLaws.{flag_tells, flag_there}
use Rattle.wf_lower.proofs.source.Source.has_coroutine.Goals as goal

pub bounds-self-s : goal.bounds-self-s
bounds-self-s c = flag_there c.args.self.now.t.now c.args.self.now.coroutines.now c.requires.coroutines c.args.s.0 c.requires.known

pub returns : goal.returns
returns c = flag_tells c.args.self.now.t.now c.args.self.now.coroutines.now c.requires.coroutines c.args.s.0 c.requires.known false
