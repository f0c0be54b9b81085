use Rattle.wf_base.specs.BaseTable.{bits_of}
use Rattle.c_meaning.specs.UnitForm.{uint_of}
use Rattle.c_form.proofs.SignatureLemmas.{slice_taken, slice_apart}
use Rattle.c_form.proofs.signatures.behind_slice.Goals as goal

pub returns-then-is_param : goal.returns-then-is_param
returns-then-is_param c = slice_taken c.args.unit.now c.args.params.now c.args.at c.args.name.now c.uint_of.result (uint_of (bits_of c.args.width)) c.uint_of.ensures c.if-not-is_param.ensures c.if-is_param.ensures

pub returns-else-is_param : goal.returns-else-is_param
returns-else-is_param c = slice_apart c.args.unit.now c.args.params.now c.args.at c.args.name.now c.uint_of.result (uint_of (bits_of c.args.width)) c.uint_of.ensures c.if-not-is_param.ensures c.if-is_param.ensures
