use Rattle.std.proofs.Common.{sym, ap, arith}
use Rattle.wf_ast.specs.TypedPackage.{MethodTree}
use Rattle.wf_mean_flows.proofs.SimpleLaws.{own_method, own_none}
use Rattle.wf_mean_flows.proofs.simple.own_result.Goals as goal

pub returns-then-stage-methods : goal.returns-then-stage-methods
returns-then-stage-methods c = sym (ap (λ (m : MethodTree). m.gives) (own_method c.args.t.now c.requires.typed c.args.stage.now.frame.method.0 c.method.result.now c.method.ensures).1)

pub returns-else-stage-methods : goal.returns-else-stage-methods
returns-else-stage-methods c = sym (ap (λ (m : MethodTree). m.gives) (own_none c.args.t.now c.requires.typed c.args.stage.now.frame.method.0 (omega (arith, c.if-stage-methods.false, c.methods.ensures))))
