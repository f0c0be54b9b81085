use Rattle.std.proofs.Common.{◌++◌, codes, refl}
use Rattle.c_text.specs.CTree.{struct_pointer}
use Rattle.c_meaning.specs.CTypes.{io_buffer}
use Rattle.c_form.proofs.SignatureLemmas.{one_arg}
use Rattle.c_form.proofs.signatures.behind_arg.Goals as goal

pub returns-in-Reader : goal.returns-in-Reader
returns-in-Reader c = one_arg c.args.unit.now c.args.params.now c.args.at c.args.arg.now (record { kind = struct_pointer io_buffer; name = codes "a_" ++ c.as_slice-name.result.now }) c.behind_one-in-Reader.result (rw (← c.arg.view_is, c.in-Reader.is, c.as_slice-name.ensures.value) refl) c.behind_one-in-Reader.ensures

pub returns-in-Writer : goal.returns-in-Writer
returns-in-Writer c = one_arg c.args.unit.now c.args.params.now c.args.at c.args.arg.now (record { kind = struct_pointer io_buffer; name = codes "a_" ++ c.as_slice-name.result.now }) c.behind_one-in-Writer.result (rw (← c.arg.view_is, c.in-Writer.is, c.as_slice-name.ensures.value) refl) c.behind_one-in-Writer.ensures
