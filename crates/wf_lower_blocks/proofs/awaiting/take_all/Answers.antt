use Rattle.std.proofs.Common.{◌<◌, ◌/◌, ◌∙◌, Bool, ap, sym, subst}
use Rattle.wf_base.specs.declared.widths.Width.{Width}
use Rattle.wf_base.specs.BaseTable.{bits_of, read_width}
use Rattle.wf_exprs.proofs.Growing.{grows_on}
use Rattle.wf_exprs.specs.Exprs.{number_ahead}
use Rattle.wf_exprs.specs.Scopes.{ScopeTree}
use Rattle.wf_lower_stmts.specs.BodyNodes.{form_in}
use Rattle.wf_lower_stmts.proofs.HereLaws.{retell_code}
use Rattle.wf_lower_blocks.proofs.AwaitLaws.{two_at_least}
use Rattle.wf_lower_blocks.proofs.awaiting.take_all.Goals as goal

pub number_ahead-requires : goal.number_ahead-requires
number_ahead-requires c = record { more = subst (λ (width : Width). 1 < bits_of width / 8) (sym c.width.ensures) (two_at_least c.args.form c.requires.more) }

pub returns-clause-grows : goal.returns-clause-grows
returns-clause-grows c = grows_on (grows_on c.step_behind.ensures.grows c.number_ahead.ensures.grows) c.set_held.ensures.grows

pub returns-clause-made : goal.returns-clause-made
returns-clause-made c =
    let names = (form_in c.args.b.now).names in
    let value = c.in_ok-value.ensures.made.is
    ∙ ap (λ (scope : ScopeTree). number_ahead scope.names c.args.a (bits_of c.width.result) c.is_big_endian.result) c.scope.ensures
    ∙ ap (λ (width : Width). number_ahead names c.args.a (bits_of width) c.is_big_endian.result) c.width.ensures
    ∙ ap (λ (big : Bool). number_ahead names c.args.a (bits_of (read_width c.args.form)) big) c.is_big_endian.ensures in
    let rest = c.number_ahead.ensures.grows.stmts _ c.in_ok-rest.ensures.made.there ∙ c.in_ok-rest.ensures.made.is in
    retell_code _ _ _ c.set_held.result (cc (value, rest)) c.set_held.ensures.made
