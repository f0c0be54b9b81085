use Rattle.wf_meaning.proofs.Refusals.{null_row, raw_row, disabled_row, argument_row, interleaved_row}
use Rattle.wf_meaning.proofs.laws.refused_calls.Goals as goal

pub returns-clause-null : goal.returns-clause-null
returns-clause-null c p state call h n m is e = null_row p state call h n m is e

pub returns-clause-raw : goal.returns-clause-raw
returns-clause-raw c p state call h n m o inside is e k = raw_row p state call h n m is o inside e k

pub returns-clause-disabled : goal.returns-clause-disabled
returns-clause-disabled c p state call h n m o inside is e k j = disabled_row p state call h n m is o inside e k j

pub returns-clause-argument : goal.returns-clause-argument
returns-clause-argument c p state call h n m o inside is e k j = argument_row p state call h n m is o inside e k j

pub returns-clause-interleaved : goal.returns-clause-interleaved
returns-clause-interleaved c p state call h n other m o inside is e k j i a b = interleaved_row p state call h n m is o inside e other k j i a b
