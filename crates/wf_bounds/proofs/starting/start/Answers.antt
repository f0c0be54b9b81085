use Rattle.std.proofs.Common.{◌∙◌, List, length, ap, sym, arith}
use Rattle.wf_ast.specs.declared.declarations.Var.{Var}
use Rattle.wf_facts_exprs.specs.Claims.{claims_in}
use Rattle.wf_bounds.proofs.StartLemmas.{zeros_none, zeros_all, few_locals, locals_long}
use Rattle.wf_bounds.proofs.starting.start.Goals as goal

pub loop-x-init : goal.loop-x-init
loop-x-init c = (c.clear.ensures.over c.args.t.now, ap (claims_in c.args.t.now) c.clear.ensures.empty ∙ sym (zeros_none c.args.t.now c.args.m.0))

pub overflow_cast-x : goal.overflow_cast-x
overflow_cast-x c =
    let few = few_locals c.args.t.now c.args.m.0 c.requires.ready.typed c.method.result.now c.method.ensures in
    let long = ap (λ (l : List Var). length l) c.as_slice-locals.ensures in
    omega (arith, few, long, c.loop-x-test.true)

pub returns-clause-starts : goal.returns-clause-starts
returns-clause-starts c =
    let long = ap (λ (l : List Var). length l) c.as_slice-locals.ensures in
    let all = locals_long c.args.t.now c.args.m.0 c.requires.ready.typed c.method.result.now c.method.ensures in
    c.loop-x.invariant.1 ∙ zeros_all c.args.t.now c.args.m.0 c.loop-x.x (omega (arith, long, all, c.loop-x-test.false))
