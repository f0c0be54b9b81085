use Rattle.std.proofs.Common.{ap, arith, map, sym}
use Rattle.std.specs.Prelude.{is_some}
use Rattle.std.proofs.lemmas.List.{length-map}
use Rattle.wf_ast.specs.TypedPackage.{variable_of}
use Rattle.wf_bufs.specs.HostViews.{arg_of}
use Rattle.wf_mean.proofs.HostArgs.{others}
use Rattle.wf_mean.proofs.arguments.fit_from_host.Goals as goal

pub returns-then-args-declared : goal.returns-then-args-declared
returns-then-args-declared c nodes =
    sym (ap is_some (others c.args.arrays.now (map (variable_of nodes) c.args.declared.now) (map arg_of c.args.args.now)
    (λ e. let f = c.if-args-declared.true in absurd (omega (arith, f, e, length-map c.args.declared.now (variable_of nodes), length-map c.args.args.now arg_of)))))
