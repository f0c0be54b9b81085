use Rattle.wf_tokens.proofs.SpellingLaws.{tokens_unique, refusals_unique, never_both}
use Rattle.wf_tokens.proofs.laws.one_spelling.Goals as goal

pub returns-clause-tokens : goal.returns-clause-tokens
returns-clause-tokens c = tokens_unique

pub returns-clause-refusals : goal.returns-clause-refusals
returns-clause-refusals c = refusals_unique

pub returns-clause-never_both : goal.returns-clause-never_both
returns-clause-never_both c = never_both
