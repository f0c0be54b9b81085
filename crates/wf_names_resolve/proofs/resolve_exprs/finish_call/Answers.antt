use Rattle.wf_ast.specs.ParsedTrees.{given_at}
use Rattle.wf_names_rules.specs.Declarations.{bytes_of}
use Rattle.wf_names_rules.specs.Tables.{args_at}
use Rattle.wf_names_resolve.specs.Standing.{standing_here}
use Rattle.wf_names_resolve.proofs.ResolveLemmas.{args_below, call_made}
use Rattle.wf_names_resolve.proofs.resolve_exprs.finish_call.Goals as goal

pub returns-clause-below : goal.returns-clause-below
returns-clause-below c = λ n h.
    let args = rw c.as_slice.ensures at c.in_ok-args.ensures in
    rw args (args_below n (bytes_of c.args.here.now.parsed.now.texts) (args_at c.args.here.now.tables.now) c.callee-on.result c.args.given.now h)

pub returns-clause-made : goal.returns-clause-made
returns-clause-made c = λ ts es h.
    let k = standing_here c.args.here.now in
    let args = rw c.as_slice.ensures at c.in_ok-args.ensures in
    call_made k ts c.args.call.now.on c.args.call.now.method c.args.call.now.mark (given_at es c.args.call.now.args) c.args.given.now c.callee-on.result c.in_ok-callee.callee c.mark.result c.in_ok-args.args
    c.callee-on.ensures (c.in_ok-callee.ensures c.args.here.now.parsed.now.texts) c.mark.ensures args h
