use Rattle.std.proofs.Common.{arith}
use Rattle.c_form_exprs.specs.Front.{scope_in}
use Rattle.c_form_stmts.proofs.CallLemmas.{set_other}
use Rattle.c_form_stmts.proofs.statements.Frame.is_set.Goals as goal

pub returns-in_default : goal.returns-in_default
returns-in_default c = set_other c.args.self.now.within.front.nodes (scope_in c.args.self.now.within) c.args.given.now (λ same. absurd (omega (arith, same, c.in_default.len_below)))

pub returns-in_default-2 : goal.returns-in_default-2
returns-in_default-2 c = set_other c.args.self.now.within.front.nodes (scope_in c.args.self.now.within) c.args.given.now (λ same. absurd (omega (arith, same, c.in_default.len_at_least)))
