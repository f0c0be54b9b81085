use Rattle.wf_named.specs.NamedParts.{named_package}
use Rattle.wf_names_nodes.proofs.PackageLemmas.{no_consts, no_const_known}
use Rattle.wf_names_nodes.proofs.packages.const_decl.Goals as goal

pub returns-in-Const-clause-added : goal.returns-in-Const-clause-added
returns-in-Const-clause-added c = rw c.in-Const.is c.next_const.ensures.added

pub returns-in-Const-clause-known : goal.returns-in-Const-clause-known
returns-in-Const-clause-known c = rw c.in-Const.is c.next_const.ensures.known

pub returns-in-Status-clause-added : goal.returns-in-Status-clause-added
returns-in-Status-clause-added c = rw c.in-Status.is (λ known h. no_consts (named_package c.args.nodes.now))

pub returns-in-Status-clause-known : goal.returns-in-Status-clause-known
returns-in-Status-clause-known c = rw c.in-Status.is (no_const_known c.args.scope.now)

pub returns-in-Struct-clause-added : goal.returns-in-Struct-clause-added
returns-in-Struct-clause-added c = rw c.in-Struct.is (λ known h. no_consts (named_package c.args.nodes.now))

pub returns-in-Struct-clause-known : goal.returns-in-Struct-clause-known
returns-in-Struct-clause-known c = rw c.in-Struct.is (no_const_known c.args.scope.now)

pub returns-in-Method-clause-added : goal.returns-in-Method-clause-added
returns-in-Method-clause-added c = rw c.in-Method.is (λ known h. no_consts (named_package c.args.nodes.now))

pub returns-in-Method-clause-known : goal.returns-in-Method-clause-known
returns-in-Method-clause-known c = rw c.in-Method.is (no_const_known c.args.scope.now)
