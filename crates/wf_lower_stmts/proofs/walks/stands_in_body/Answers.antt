use Rattle.std.proofs.Common.{◌∙◌, sym, ap}
use Rattle.wf_lower_stmts.specs.BodyNodes.{is_sought, stands_at, stands_among}
use Rattle.wf_lower_stmts.proofs.StandLaws.{body_stands}
use Rattle.wf_lower_stmts.proofs.walks.stands_in_body.Goals as goal

pub returns : goal.returns
returns c =
    let nodes = c.args.t.now in
    c.found_among.ensures ∙ ap (stands_among (stands_at nodes (is_sought c.args.sought))) c.as_slice.ensures
    ∙ sym (body_stands nodes c.requires.typed c.args.sought c.args.body.now c.requires.known)
