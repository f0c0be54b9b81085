use Rattle.std.proofs.Common.{◌≡◌, ◌*ℤ◌, rules, FitsSigned, refl, inl, inr}
use Rattle.std.specs.Int.{w128}
use Rattle.std.proofs.lemmas.Int.{to_z-of_z}
use Rattle.wf_num.specs.CArithmetic.{c_value, c_width}
use Rattle.wf_num.proofs.CLaws.{product-fits, undefined-by}
use Rattle.wf_num.proofs.c_arithmetic.c_mul.Goals as goal

pub returns-in-Int-clause-exact : goal.returns-in-Int-clause-exact
returns-in-Int-clause-exact c =
    let narrow : c_width c.args.ty ≡ 32 = elim c.in-Int.is [ inl e ↦ rw e refl | inr e ↦ rw e refl ] in
    let a = c.value.ensures.exact in
    let b = c.value-in-Int.ensures.exact in
    let fits : FitsSigned w128 (c.value.result *ℤ c.value-in-Int.result) = rw (a, b) (product-fits c.args.ty c.args.a c.args.b narrow (search rules) (search rules)) in
    let left = to_z-of_z w128 c.value.result (search rules) in
    let right = to_z-of_z w128 c.value-in-Int.result (search rules) in
    let whole = to_z-of_z w128 (c.value.result *ℤ c.value-in-Int.result) fits in
    cc (left, right, whole, a, b, c.carried.ensures.exact)

pub returns-in-Int-clause-undefined : goal.returns-in-Int-clause-undefined
returns-in-Int-clause-undefined c =
    undefined-by c.args.ty (c_value c.args.ty c.args.a *ℤ c_value c.args.ty c.args.b) c.carried.result (returns-in-Int-clause-exact c)
