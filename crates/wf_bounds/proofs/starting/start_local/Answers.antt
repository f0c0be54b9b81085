use Rattle.std.proofs.Common.{◌∙◌, sym, ap}
use Rattle.wf_ast.specs.TypedInvariant.{is_numeric}
use Rattle.wf_bounds.proofs.StartLemmas.{local_found, next_other}
use Rattle.wf_bounds.proofs.starting.start_local.Goals as goal

pub start_number-requires-clause-local : goal.start_number-requires-clause-local
start_number-requires-clause-local c = local_found c.args.t.now c.args.m.0 c.args.x.0 c.local_expr-e.result c.requires.local c.requires.ready.known c.local_expr-e.ensures.is

pub returns-else-is_number-clause-after : goal.returns-else-is_number-clause-after
returns-else-is_number-clause-after c =
    let nodes = c.args.t.now in
    let it = local_found nodes c.args.m.0 c.args.x.0 c.local_expr-e.result c.requires.local c.requires.ready.known c.local_expr-e.ensures.is in
    c.requires.before ∙ next_other nodes c.args.m.0 c.requires.ready.typed c.args.x.0 c.local_expr-e.result it (ap is_numeric (sym c.type_of.ensures) ∙ sym c.is_number.ensures ∙ c.if-is_number.false)
