use Rattle.wf_tokens.proofs.SymbolTable.{if_found, if_none}
use Rattle.wf_tokens.proofs.symbols.longest_symbol.Goals as goal

pub returns-clause-found : goal.returns-clause-found
returns-clause-found c = if_found c.args.bytes.now c.find_symbol.result c.find_symbol.ensures

pub returns-clause-none : goal.returns-clause-none
returns-clause-none c = if_none c.args.bytes.now c.find_symbol.result c.find_symbol.ensures
