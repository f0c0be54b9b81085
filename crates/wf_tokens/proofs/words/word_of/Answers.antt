use Rattle.wf_tokens.proofs.WordTable.{if_found, if_none}
use Rattle.wf_tokens.proofs.words.word_of.Goals as goal

pub returns-clause-found : goal.returns-clause-found
returns-clause-found c = if_found c.args.text.now c.find_word.result c.find_word.ensures

pub returns-clause-none : goal.returns-clause-none
returns-clause-none c = if_none c.args.text.now c.find_word.result c.find_word.ensures
