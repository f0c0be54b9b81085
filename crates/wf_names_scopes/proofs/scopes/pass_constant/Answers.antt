use Rattle.wf_names_scopes.proofs.ConstantLemmas.{constant_passed}
use Rattle.wf_names_scopes.proofs.scopes.pass_constant.Goals as goal

pub returns : goal.returns
returns c = λ d known left v split h. constant_passed d known left v c.args.scope.now c.in_ok-scope.field-0 c.in_ok-scope.ensures split h
