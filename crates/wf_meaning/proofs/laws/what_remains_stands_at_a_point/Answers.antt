use Rattle.wf_meaning.specs.Laws.{IsRest}
use Rattle.wf_ast.specs.TypedPackage.{package_of}
use Rattle.wf_meaning.proofs.Order.{points_ascend}
use Rattle.wf_meaning.proofs.Rests.{rest_places}
use Rattle.wf_meaning.proofs.Unnamed.{call_fine, init_settled, fresh_settled}
use Rattle.wf_meaning.proofs.laws.what_remains_stands_at_a_point.Goals as goal

pub returns-clause-first : goal.returns-clause-first
returns-clause-first c p receivers = fresh_settled (IsRest p) p receivers

pub returns-clause-init : goal.returns-clause-init
returns-clause-init c p state r turns a after h e = init_settled (IsRest p) p state r turns a after h e

pub returns-clause-call : goal.returns-clause-call
returns-clause-call c nodes state call h n a after typed settled e =
    let p = package_of nodes in
    (call_fine (IsRest p) p (rest_places p (points_ascend nodes typed)) state call h settled n a after e).1
