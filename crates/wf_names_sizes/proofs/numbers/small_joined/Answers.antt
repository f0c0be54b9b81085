use Rattle.wf_names_rules.specs.ConstantValues.{bits_or_most}
use Rattle.wf_names_sizes.specs.Capped.{bits_in}
use Rattle.wf_names_sizes.proofs.numbers.small_joined.Goals as goal

pub returns-in-Sub-clause-number : goal.returns-in-Sub-clause-number
returns-in-Sub-clause-number c = rw c.in-Sub.is (c.difference.ensures.number (bits_or_most (bits_in c.args.width)))

pub returns-in-Div-clause-number : goal.returns-in-Div-clause-number
returns-in-Div-clause-number c = rw c.in-Div.is (c.quotient.ensures.number (bits_or_most (bits_in c.args.width)))

pub returns-in-Rem-clause-number : goal.returns-in-Rem-clause-number
returns-in-Rem-clause-number c = rw c.in-Rem.is (c.remainder.ensures.number (bits_or_most (bits_in c.args.width)))
