use Rattle.wf_meaning_laws.proofs.Disabled.{argument_row, body_row}
use Rattle.wf_meaning_laws.proofs.laws.disabled_receivers.Goals as goal

pub returns-clause-argument : goal.returns-clause-argument
returns-clause-argument c p state call h n m o inside is e k j i = argument_row p state call h n m is o inside e k j i

pub returns-clause-body : goal.returns-clause-body
returns-clause-body c p state call h n m o inside args is e k j i = body_row p state call h n m is o inside e k j args i
