use Rattle.std.proofs.Common.{Some, ap, sym, ◌∙◌}
use Rattle.std.proofs.lemmas.Option.{slice_get-get_or}
use Rattle.c_form.proofs.SignatureLemmas.{param_at}
use Rattle.c_form.proofs.signatures.is_param.Goals as goal

pub is_type-requires : goal.is_type-requires
is_type-requires c = (param_at c.args.unit.now c.args.params.now c.args.at c.in-Some.param.now (slice_get-get_or c.args.params.now c.args.at c.in-Some.param.now c.in-Some.ensures.lookup.3.0 ∙ ap Some (sym c.in-Some.ensures.lookup.1)) c.requires).0

pub name-requires : goal.name-requires
name-requires c = (param_at c.args.unit.now c.args.params.now c.args.at c.in-Some.param.now (slice_get-get_or c.args.params.now c.args.at c.in-Some.param.now c.in-Some.ensures.lookup.3.0 ∙ ap Some (sym c.in-Some.ensures.lookup.1)) c.requires).1
