use Rattle.std.proofs.Common.{◌∙◌, ap, length, arith}
use Rattle.wf_mean_exprs.specs.declared.objects.KeptBody.{KeptBody}
use Rattle.wf_mean_runs.proofs.KeepLaws.{lengths_set, state_past, state_set}
use Rattle.wf_mean_runs.proofs.keeping.keep_of.Goals as goal

pub returns-then-m-len-clause-state : goal.returns-then-m-len-clause-state
returns-then-m-len-clause-state c = λ p. state_set p c.args.m _ c.args.state.now c.keep_body.new.kept (c.keep_body.ensures.kept p c.args.m)

pub returns-then-m-len-clause-lengths : goal.returns-then-m-len-clause-lengths
returns-then-m-len-clause-lengths c =
    lengths_set c.args.state.now.kept.items c.args.m c.keep_body.new.kept c.index_mut.result.now (omega (arith, c.if-m-len.true, c.len.ensures)) (c.keep_body.ensures.lengths ∙ ap (λ (k : KeptBody). length k.locals.items) c.index_mut.ensures.value)

pub returns-else-m-len-clause-state : goal.returns-else-m-len-clause-state
returns-else-m-len-clause-state c = λ p. state_past p c.args.m _ c.args.state.now (omega (arith, c.if-m-len.false, c.len.ensures))
