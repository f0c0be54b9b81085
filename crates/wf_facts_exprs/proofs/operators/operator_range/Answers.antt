use Rattle.std.proofs.Common.{◌≡◌, None, subst}
use Rattle.wf_text.specs.declared.rules.Rule.TheVariants.{B4, B5}
use Rattle.wf_ast.specs.declared.operators.Op.{Op}
use Rattle.wf_ast.specs.TypedTrees.{no_place}
use Rattle.wf_facts_exprs.specs.Demands.{is_below, is_divisor, operand_demand}
use Rattle.wf_facts_exprs.specs.Operands.{arith_of}
use Rattle.wf_facts_exprs.proofs.OperatorLemmas.{demanded, few-bits}
use Rattle.wf_facts_exprs.proofs.operators.operator_range.Goals as goal

pub quotient-requires-clause-divisor : goal.quotient-requires-clause-divisor
quotient-requires-clause-divisor c =
    let P : Op → Type 0 = λ op. operand_demand (arith_of op) c.args.bits no_place c.args.b ≡ None in
    demanded (is_divisor c.args.b) B5 no_place (subst P c.in-Div.is (c.requires.asked no_place))

pub remainder-requires-clause-divisor : goal.remainder-requires-clause-divisor
remainder-requires-clause-divisor c =
    let P : Op → Type 0 = λ op. operand_demand (arith_of op) c.args.bits no_place c.args.b ≡ None in
    demanded (is_divisor c.args.b) B5 no_place (subst P c.in-Rem.is (c.requires.asked no_place))

pub shl-requires-clause-few : goal.shl-requires-clause-few
shl-requires-clause-few c =
    let P : Op → Type 0 = λ op. operand_demand (arith_of op) c.args.bits no_place c.args.b ≡ None in
    few-bits c.args.bits c.args.b c.requires.width (demanded (is_below c.args.bits c.args.b) B4 no_place (subst P c.in-Shl.is (c.requires.asked no_place)))

pub shr-requires-clause-few : goal.shr-requires-clause-few
shr-requires-clause-few c =
    let P : Op → Type 0 = λ op. operand_demand (arith_of op) c.args.bits no_place c.args.b ≡ None in
    few-bits c.args.bits c.args.b c.requires.width (demanded (is_below c.args.bits c.args.b) B4 no_place (subst P c.in-Shr.is (c.requires.asked no_place)))

pub shl-requires-in-ModShl-clause-few : goal.shl-requires-in-ModShl-clause-few
shl-requires-in-ModShl-clause-few c =
    let P : Op → Type 0 = λ op. operand_demand (arith_of op) c.args.bits no_place c.args.b ≡ None in
    few-bits c.args.bits c.args.b c.requires.width (demanded (is_below c.args.bits c.args.b) B4 no_place (subst P c.in-ModShl.is (c.requires.asked no_place)))
