use Rattle.c_form_exprs.proofs.CallableLemmas.{callable_by}
use Rattle.c_form_exprs.proofs.callable.in_expressions.Goals as goal

pub returns : goal.returns
returns c name = callable_by c.args.unit.now c.args.linkage c.args.result_type name c.args.params.now c.args.locals.now c.args.body.0 c.is_inline.result c.gives_number.result c.takes_numbers.result c.is_empty.result c.returns_at_once.result c.is_inline.ensures c.gives_number.ensures c.takes_numbers.ensures c.is_empty.ensures c.returns_at_once.ensures
