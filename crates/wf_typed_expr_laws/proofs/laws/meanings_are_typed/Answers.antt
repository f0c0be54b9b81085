use Rattle.wf_typed_expr_laws.proofs.Types.{meanings-are-typed}
use Rattle.wf_typed_expr_laws.proofs.laws.meanings_are_typed.Goals as goal

pub returns : goal.returns
returns c = meanings-are-typed
