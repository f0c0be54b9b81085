use Rattle.wf_typed_tree.proofs.Agreement.{package-is, method-is, method-agrees}
use Rattle.wf_typed_tree.proofs.laws.what_stands_round_a_body_agrees.Goals as goal

pub returns : goal.returns
returns c p none named n i m e = method-agrees p n m (method-is p (package-is p none named) i m e)
