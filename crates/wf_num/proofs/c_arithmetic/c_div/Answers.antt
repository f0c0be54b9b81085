use Rattle.std.proofs.Common.{◌≡◌, rules, FitsSigned, nat_eq, false}
use Rattle.std.specs.Int.RustNames.{unsigned_abs, int_div}
use Rattle.std.specs.Int.{w128}
use Rattle.std.proofs.lemmas.Int.{quot_is}
use Rattle.wf_num.specs.CArithmetic.{c_value}
use Rattle.wf_num.proofs.CLaws.{quotient-fits, nonzero}
use Rattle.wf_num.proofs.c_arithmetic.c_div.Goals as goal

pub returns-clause-exact : goal.returns-clause-exact
returns-clause-exact c =
    let divisor = c.value-divisor.ensures.exact in
    let dividend = c.value.ensures.exact in
    let test : nat_eq (unsigned_abs (c_value c.args.ty c.args.b)) 0 ≡ false = rw divisor at (nonzero c.value-divisor.result c.if-divisor-eq0.false) in
    let fits : FitsSigned w128 (int_div c.value.result c.value-divisor.result) = rw dividend (quotient-fits c.args.ty c.args.a c.value-divisor.result (search rules)) in
    let whole = quot_is w128 c.value.result c.value-divisor.result (search rules) (search rules) fits in
    rw test (cc (whole, dividend, divisor, c.carried.ensures.exact))
