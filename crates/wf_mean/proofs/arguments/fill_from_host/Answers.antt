use Rattle.std.proofs.Common.{arith, map}
use Rattle.std.proofs.lemmas.List.{length-map}
use Rattle.wf_ast.specs.TypedPackage.{variable_of}
use Rattle.wf_bufs.specs.HostViews.{arg_of}
use Rattle.wf_mean.proofs.HostArgs.{too_many_or_few}
use Rattle.wf_mean.proofs.arguments.fill_from_host.Goals as goal

pub returns-then-args-declared-clause-values : goal.returns-then-args-declared-clause-values
returns-then-args-declared-clause-values c nodes =
    too_many_or_few c.args.arrays.now (map (variable_of nodes) c.args.declared.now) (map arg_of c.args.args.now) _
    (λ e. let f = c.if-args-declared.true in absurd (omega (arith, f, e, length-map c.args.declared.now (variable_of nodes), length-map c.args.args.now arg_of)))
