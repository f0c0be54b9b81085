use Rattle.std.proofs.Common.{◌∙◌}
use Rattle.wf_parse_grammar.proofs.TableLemmas.{cut_of_expr}
use Rattle.wf_parse_grammar.proofs.table_exprs.cut.Goals as goal

pub returns-in_default : goal.returns-in_default
returns-in_default c = c.operand.ensures ∙ cut_of_expr c.args.token.kind c.args.token.at c.in_default.not-Dots
