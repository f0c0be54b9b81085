use Rattle.std.proofs.Common.{◌-ℤ◌, rules}
use Rattle.wf_num.specs.CArithmetic.{c_value}
use Rattle.wf_num.proofs.CLaws.{undefined-by}
use Rattle.wf_num.proofs.c_arithmetic.c_sub.Goals as goal

pub returns-clause-undefined : goal.returns-clause-undefined
returns-clause-undefined c =
    undefined-by c.args.ty (c_value c.args.ty c.args.a -ℤ c_value c.args.ty c.args.b) c.carried.result (search rules)
