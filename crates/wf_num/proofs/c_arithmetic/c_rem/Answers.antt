use Rattle.std.proofs.Common.{◌≡◌, rules, true, is_some, refl}
use Rattle.std.specs.Int.{w128}
use Rattle.std.proofs.lemmas.Int.{rem_is}
use Rattle.wf_num.specs.CArithmetic.{c_quotient}
use Rattle.wf_num.proofs.CLaws.{remainder-in}
use Rattle.wf_num.proofs.c_arithmetic.c_rem.Goals as goal

pub returns-clause-exact : goal.returns-clause-exact
returns-clause-exact c =
    let quotient = c.in_ok-c_div.ensures.exact in
    let whole = rem_is w128 c.value.result c.value-2.result (search rules) (search rules) in
    let defined : is_some (c_quotient c.args.ty c.args.a c.args.b) ≡ true = rw (← quotient) refl in
    rw defined (cc (whole, c.value.ensures.exact, c.value-2.ensures.exact, c.carried.ensures.exact))

pub returns-clause-undefined : goal.returns-clause-undefined
returns-clause-undefined c =
    let whole = rem_is w128 c.value.result c.value-2.result (search rules) (search rules) in (
      λ none. absurd (remainder-in c.args.ty c.args.a c.value-2.result (rw (← c.value.ensures.exact, ← whole) (c.carried.ensures.undefined.0 none))),
      λ undefined. absurd (cc (c.in_ok-c_div.ensures.undefined.1 undefined)),
    )
