use Rattle.std.proofs.Common.{false}
use Rattle.c_text.specs.CNodes.{code_of}
use Rattle.c_form_stmts.proofs.CaseLemmas.{cases_formed}
use Rattle.c_form_stmts.proofs.cases.has_formed_cases.Goals as goal

pub returns : goal.returns
returns c = rw (cases_formed false (code_of c.args.unit.now c.args.body.0), ← c.in_ok-listed.ensures.lines, ← c.as_slice.ensures.value) c.are_formed_cases.ensures
