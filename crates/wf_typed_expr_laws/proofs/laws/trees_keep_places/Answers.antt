use Rattle.wf_typed_expr_laws.proofs.Places.{trees-keep-places}
use Rattle.wf_typed_expr_laws.proofs.laws.trees_keep_places.Goals as goal

pub returns : goal.returns
returns c = trees-keep-places
