use Rattle.std.proofs.Common.{◌++◌, codes}
use Rattle.c_form.specs.Signatures.{wanted_type}
use Rattle.c_form.proofs.SignatureLemmas.{one_taken, one_apart}
use Rattle.c_form.proofs.signatures.behind_one.Goals as goal

pub returns-then-is_param : goal.returns-then-is_param
returns-then-is_param c = one_taken c.args.unit.now c.args.params.now c.args.at (record { kind = wanted_type c.args.wanted; name = codes "a_" ++ c.args.name.now }) c.if-is_param.ensures

pub returns-else-is_param : goal.returns-else-is_param
returns-else-is_param c = one_apart c.args.unit.now c.args.params.now c.args.at (record { kind = wanted_type c.args.wanted; name = codes "a_" ++ c.args.name.now }) c.if-is_param.ensures
