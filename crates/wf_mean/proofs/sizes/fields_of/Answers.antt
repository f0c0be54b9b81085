use Rattle.std.proofs.Common.{arith}
use Rattle.wf_mean.proofs.FreshLaws.{types-known, types-none}
use Rattle.wf_mean.proofs.sizes.fields_of.Goals as goal

pub returns-then-s-structs : goal.returns-then-s-structs
returns-then-s-structs c = types-known c.args.t.now c.args.s c.structure.result.now c.as_slice.result.now c.as_slice.ensures c.structure.ensures

pub returns-else-s-structs : goal.returns-else-s-structs
returns-else-s-structs c = types-none c.args.t.now c.args.s (omega (arith, c.if-s-structs.false, c.structs.ensures))
