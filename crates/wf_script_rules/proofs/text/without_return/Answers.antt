use Rattle.std.proofs.Common.{sym, ◌∙◌}
use Rattle.wf_script_rules.proofs.TextLaws.{drops_return, keeps_line, keeps_none}
use Rattle.wf_script_rules.proofs.text.without_return.Goals as goal

pub returns-in-Some : goal.returns-in-Some
returns-in-Some c = c.split_at.ensures.front ∙ drops_return c.args.line.now c.in-Some.byte.now c.in-Some.ensures.value (sym c.is_return.ensures ∙ c.if-is_return.true)

pub returns-in_default : goal.returns-in_default
returns-in_default c = keeps_line c.args.line.now c.in-Some.byte.now c.in-Some.ensures.value (sym c.is_return.ensures ∙ c.if-is_return.false)

pub returns-in_default-2 : goal.returns-in_default-2
returns-in_default-2 c = keeps_none c.args.line.now (rw c.in_default.is at c.last.ensures.value)
