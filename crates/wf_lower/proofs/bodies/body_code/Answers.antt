use Rattle.wf_lower_stmts.proofs.HereLaws.{retell_code}
use Rattle.wf_lower.proofs.LocalLaws.{first_of, second_of}
use Rattle.wf_lower.proofs.bodies.body_code.Goals as goal

pub returns-then-is_coroutine-clause-made : goal.returns-then-is_coroutine-clause-made
returns-then-is_coroutine-clause-made c = retell_code _ _ _ c.coroutine_code.result (first_of _ _ _ c.if-is_coroutine.ensures) c.coroutine_code.ensures.made

pub returns-else-is_coroutine-clause-made : goal.returns-else-is_coroutine-clause-made
returns-else-is_coroutine-clause-made c = retell_code _ _ _ c.statements.result (second_of _ _ _ c.if-is_coroutine.ensures) c.statements.ensures.made
