use Rattle.wf_typed_tree.proofs.Agreement.{package-is, method-is}
use Rattle.wf_typed_tree.proofs.CallLaws.{typed-order}
use Rattle.wf_typed_tree.proofs.DeclarationLaws.{typed-structs-whole, typed-struct-order, head-is}
use Rattle.wf_typed_tree.proofs.EndLaws.{method-answers}
use Rattle.wf_typed_tree.proofs.laws.declarations_keep_the_rules.Goals as goal

pub returns-clause-structs : goal.returns-clause-structs
returns-clause-structs c p none named = typed-structs-whole p (package-is p none named)

pub returns-clause-order : goal.returns-clause-order
returns-clause-order c p none named = typed-order p (package-is p none named)

pub returns-clause-struct_order : goal.returns-clause-struct_order
returns-clause-struct_order c p none named = typed-struct-order p (package-is p none named)

pub returns-clause-args : goal.returns-clause-args
returns-clause-args c p none named n i m e = (head-is p m (method-is p (package-is p none named) i m e)).args

pub returns-clause-locals : goal.returns-clause-locals
returns-clause-locals c p none named n i m e = (head-is p m (method-is p (package-is p none named) i m e)).locals

pub returns-clause-results : goal.returns-clause-results
returns-clause-results c p none named n i m e = (head-is p m (method-is p (package-is p none named) i m e)).gives

pub returns-clause-ends : goal.returns-clause-ends
returns-clause-ends c p none named n i m e g = method-answers p n m (method-is p (package-is p none named) i m e) g
