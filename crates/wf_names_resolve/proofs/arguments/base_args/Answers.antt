use Rattle.std.proofs.Common.{◌∙◌, sym}
use Rattle.wf_base.specs.BaseTable.{row_of}
use Rattle.wf_names_rules.specs.Declarations.{bytes_of}
use Rattle.wf_names_resolve.proofs.ResolveLemmas.{spelt_step}
use Rattle.wf_names_resolve.proofs.arguments.base_args.Goals as goal

pub loop-arg-preserved : goal.loop-arg-preserved
loop-arg-preserved c =
    let found = rw c.in-Some.is at c.arg.ensures in
    let step = rw (c.given_spelt.ensures, c.as_bytes.ensures.value) at c.in_ok-add_value.ensures in
    spelt_step (bytes_of c.args.parsed.now.texts) c.args.given.now (row_of c.args.sig).args c.loop-arg.i (c.in-Some.arg.now, c.in-Some.field-0-1) c.loop-arg.values c.add_value.new.values (sym found) step
    ∙ c.loop-arg.invariant
