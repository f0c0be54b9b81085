use Rattle.wf_parse_laws.proofs.Tokens.{tokens-or-stop}
use Rattle.wf_parse_laws.proofs.laws.bytes_have_tokens.Goals as goal

pub returns : goal.returns
returns c = tokens-or-stop
