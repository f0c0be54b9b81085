use Rattle.wf_tokens.proofs.PieceLaws.{pieces_longest}
use Rattle.wf_tokens.proofs.laws.pieces_are_longest.Goals as goal

pub returns : goal.returns
returns c = pieces_longest
