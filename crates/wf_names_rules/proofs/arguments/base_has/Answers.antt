use Rattle.std.proofs.Common.{◌≡◌, ◌∙◌, sym, false, bytes_eq}
use Rattle.wf_base.specs.BaseTable.{row_of}
use Rattle.wf_names_rules.specs.Declarations.{bytes_of}
use Rattle.wf_names_rules.proofs.ArgumentLemmas.{has_step}
use Rattle.wf_names_rules.proofs.arguments.base_has.Goals as goal

pub loop-arg-preserved : goal.loop-arg-preserved
loop-arg-preserved c =
    let other = sym c.is_spelt.ensures ∙ c.if-is_spelt.false in
    let no : bytes_eq c.in-Some.arg.now (bytes_of c.args.parsed.now.texts c.args.text.0) ≡ false = rw c.as_bytes.ensures.value at other in
    let found = rw c.in-Some.is at c.arg.ensures in
    has_step (bytes_of c.args.parsed.now.texts) (row_of c.args.sig).args c.loop-arg.i c.args.text.0 (c.in-Some.arg.now, c.in-Some.field-0-1) (sym found) no ∙ c.loop-arg.invariant
