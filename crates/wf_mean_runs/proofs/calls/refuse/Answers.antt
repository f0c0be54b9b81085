use Rattle.wf_mean_runs.proofs.BodyLaws.{gives_is, mark_is}
use Rattle.wf_mean_runs.proofs.CallLaws.{refused_coroutine, refused_other}
use Rattle.wf_mean_runs.proofs.calls.refuse.Goals as goal

pub returns-then-is_coroutine : goal.returns-then-is_coroutine
returns-then-is_coroutine c = λ callee e.
    let nodes = c.args.t.now in
    let method = c.method-method.result.now in
    refused_coroutine callee method.mark c.args.status (mark_is nodes c.requires.typed c.args.m.0 callee method c.method-method.ensures e) c.if-is_coroutine.ensures

pub returns : goal.returns
returns c = λ callee e.
    let nodes = c.args.t.now in
    let method = c.method-method.result.now in
    refused_other callee method.mark method.gives c.zero_of.result c.args.status (mark_is nodes c.requires.typed c.args.m.0 callee method c.method-method.ensures e) (gives_is nodes c.requires.typed c.args.m.0 callee method c.method-method.ensures e) c.if-is_coroutine.ensures c.zero_of.ensures
