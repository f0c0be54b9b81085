use Rattle.wf_names_scopes.proofs.UseLemmas.{no_constant}
use Rattle.wf_names_scopes.proofs.uses.constant_decl.Goals as goal

pub returns-in-Const-clause-constants : goal.returns-in-Const-clause-constants
returns-in-Const-clause-constants c = rw c.in-Const.is c.constant_next.ensures.constants

pub returns-in-Status-clause-constants : goal.returns-in-Status-clause-constants
returns-in-Status-clause-constants c = rw c.in-Status.is (no_constant c.args.scope.now)

pub returns-in-Struct-clause-constants : goal.returns-in-Struct-clause-constants
returns-in-Struct-clause-constants c = rw c.in-Struct.is (no_constant c.args.scope.now)

pub returns-in-Method-clause-constants : goal.returns-in-Method-clause-constants
returns-in-Method-clause-constants c = rw c.in-Method.is (no_constant c.args.scope.now)
